-- The first rows of a list, found while its rows come.
use Rattle.std.proofs.Common.{◌≡◌, ℕ, zero, suc, ◌+◌, ◌-◌, ◌^◌, ◌<◌, List, [], ◌∷◌, ◌++◌, append_assoc, append-nil}
use Rattle.std.proofs.Common.{Bool, true, false, cond, drop, length, min, take, inl, inr, refl, sym, ap, ◌∙◌, arith}
use Rattle.std.proofs.lemmas.Bool.{cases_lt}
use Rattle.std.proofs.lemmas.List.{drop-take, take-take, take_all}
use Rattle.filter_grammar.specs.rows.Orders.{Sorting, arranged, comes_before, put_in}
use Rattle.hub_spec.proofs.Sorting.{Rises, arranged_rises, arranged_stable, same_sorted, sorting_orders}
use Rattle.hub_spec.specs.views.Pages.{slice}
use Rattle.query_pages.specs.Firsts.{first}
use Rattle.roster_types.specs.Records.{Record}
use Rattle.version_core.proofs.HistoryLemmas.{all_take}

-- the row in front of those that it comes before
abbrev put_behind : Sorting → Record → List Record → List Record
put_behind sorting row [] = row ∷ []
put_behind sorting row (other ∷ rows) = cond (comes_before sorting row other) (row ∷ other ∷ rows) (other ∷ put_behind sorting row rows)

module _ (sorting : Sorting) where
  abbrev lt : Record → Record → Bool
  lt = comes_before sorting

  before_both : (x y z : Record) → lt y z ≡ true → lt z x ≡ true → lt y x ≡ true
  before_both x y z yz zx =
      let o = sorting_orders sorting in
      elim (lt y x) as (λ b. lt y x ≡ b → b ≡ true) [
        | true ↦ λ _. refl
        | false ↦ λ no. let never : lt y z ≡ false = o.chain y x z no (o.one_way z x zx) in cc
      ] refl

  -- of two rows either may be put first
  put_either : (x y : Record) (rows : List Record) → put_in sorting x (put_behind sorting y rows) ≡ put_behind sorting y (put_in sorting x rows)
  put_either x y [] = refl
  put_either x y (z ∷ rows) =
      elim (lt y z) as (λ a. lt y z ≡ a → put_in sorting x (cond a (y ∷ z ∷ rows) (z ∷ put_behind sorting y rows)) ≡ put_behind sorting y (put_in sorting x (z ∷ rows))) [
        | true ↦ λ yz. elim (lt z x) as (λ b. lt z x ≡ b → put_in sorting x (y ∷ z ∷ rows) ≡ put_behind sorting y (cond b (z ∷ put_in sorting x rows) (x ∷ z ∷ rows))) [
          | true ↦ λ zx.
              ap (λ b. cond b (y ∷ put_in sorting x (z ∷ rows)) (x ∷ y ∷ z ∷ rows)) (before_both x y z yz zx)
              ∙ ap (λ b. y ∷ cond b (z ∷ put_in sorting x rows) (x ∷ z ∷ rows)) zx
              ∙ sym (ap (λ b. cond b (y ∷ z ∷ put_in sorting x rows) (z ∷ put_behind sorting y (put_in sorting x rows))) yz)
          | false ↦ λ zx i. cond (lt y x) (y ∷ cond (zx i) (z ∷ put_in sorting x rows) (x ∷ z ∷ rows)) (x ∷ cond (sym yz i) (y ∷ z ∷ rows) (z ∷ put_behind sorting y rows))
        ] refl
        | false ↦ λ yz. elim (lt z x) as (λ b. lt z x ≡ b → cond b (z ∷ put_in sorting x (put_behind sorting y rows)) (x ∷ z ∷ put_behind sorting y rows) ≡ put_behind sorting y (cond b (z ∷ put_in sorting x rows) (x ∷ z ∷ rows))) [
          | true ↦ λ zx. ap (λ ws. z ∷ ws) (put_either x y rows) ∙ sym (ap (λ b. cond b (y ∷ z ∷ put_in sorting x rows) (z ∷ put_behind sorting y (put_in sorting x rows))) yz)
          | false ↦ λ zx.
              let no : lt y x ≡ false = (sorting_orders sorting).chain y z x yz zx in
              λ i. cond (sym no i) (y ∷ x ∷ z ∷ rows) (x ∷ cond (sym yz i) (y ∷ z ∷ rows) (z ∷ put_behind sorting y rows))
        ] refl
      ] refl

  -- a row that comes last stands behind those with its key
  arranged_more : (rows : List Record) (row : Record) → arranged sorting (rows ++ row ∷ []) ≡ put_behind sorting row (arranged sorting rows)
  unfolding arranged
  arranged_more [] row = refl
  arranged_more (x ∷ rows) row = ap (put_in sorting x) (arranged_more rows row) ∙ put_either x row (arranged sorting rows)

  one_more : (k : ℕ) (x : Record) (rows : List Record) → take k (x ∷ rows) ≡ take k (x ∷ take k rows)
  one_more zero x rows = refl
  one_more (suc k) x rows = ap (λ ws. x ∷ ws) (sym (take-take k (suc k) rows (omega arith)))

  -- the first don't depend on what stands behind them
  put_first : (k : ℕ) (row : Record) (rows : List Record) → take k (put_behind sorting row rows) ≡ take k (put_behind sorting row (take k rows))
  put_first zero row rows = refl
  put_first (suc k) row [] = refl
  put_first (suc k) row (other ∷ rows) =
      elim (lt row other) as (λ b. take (suc k) (cond b (row ∷ other ∷ rows) (other ∷ put_behind sorting row rows)) ≡ take (suc k) (cond b (row ∷ other ∷ take k rows) (other ∷ put_behind sorting row (take k rows)))) [
        | true ↦ ap (λ ws. row ∷ ws) (one_more k other rows)
        | false ↦ ap (λ ws. other ∷ ws) (put_first k row rows)
      ]

  first_more : (k : ℕ) (rows : List Record) (row : Record) → first k sorting (rows ++ row ∷ []) ≡ take k (put_behind sorting row (first k sorting rows))
  first_more k rows row = ap (take k) (arranged_more rows row) ∙ put_first k row (arranged sorting rows)

  -- lists with the same first rows have them with the same rows behind
  first_on : (k : ℕ) (one other rows : List Record) → first k sorting one ≡ first k sorting other → first k sorting (one ++ rows) ≡ first k sorting (other ++ rows)
  first_on k one other [] same = ap (first k sorting) (append-nil one) ∙ same ∙ sym (ap (first k sorting) (append-nil other))
  first_on k one other (row ∷ rows) same =
      sym (ap (first k sorting) (append_assoc one (row ∷ []) rows))
      ∙ first_on k (one ++ row ∷ []) (other ++ row ∷ []) rows (first_more k one row ∙ ap (λ ws. take k (put_behind sorting row ws)) same ∙ sym (first_more k other row))
      ∙ ap (first k sorting) (append_assoc other (row ∷ []) rows)

  rises_first : (k : ℕ) (rows : List Record) → Rises lt rows → Rises lt (take k rows)
  rises_first zero rows up = tt
  rises_first (suc k) [] up = tt
  rises_first (suc k) (row ∷ rows) up = (all_take (λ w. lt w row ≡ false) rows k up.0, rises_first k rows up.1)

  arranged_still : (rows : List Record) → Rises lt rows → arranged sorting rows ≡ rows
  arranged_still rows up =
      let o = sorting_orders sorting in
      same_sorted lt o (arranged sorting rows) rows (arranged_rises sorting o rows) up (λ t. arranged_stable sorting o t rows)

  pub first_again : (k : ℕ) (rows : List Record) → first k sorting (first k sorting rows) ≡ first k sorting rows
  first_again k rows =
      ap (take k) (arranged_still (first k sorting rows) (rises_first k (arranged sorting rows) (arranged_rises sorting (sorting_orders sorting) rows)))
      ∙ take-take k k (arranged sorting rows) (omega arith)

  -- the first of two lists, one behind the other, are the first of the first of the one and all of the other
  pub first_of_first : (k : ℕ) (one other : List Record) → first k sorting (one ++ other) ≡ first k sorting (first k sorting one ++ other)
  first_of_first k one other = first_on k one (first k sorting one) other (sym (first_again k one))

  length_put : (row : Record) (rows : List Record) → length (put_in sorting row rows) ≡ suc (length rows)
  length_put row [] = refl
  length_put row (other ∷ rows) =
      elim (lt other row) as (λ b. length (cond b (other ∷ put_in sorting row rows) (row ∷ other ∷ rows)) ≡ suc (suc (length rows))) [
        | true ↦ ap suc (length_put row rows)
        | false ↦ refl
      ]

  pub length_arranged : (rows : List Record) → length (arranged sorting rows) ≡ length rows
  unfolding arranged
  length_arranged [] = refl
  length_arranged (row ∷ rows) = length_put row (arranged sorting rows) ∙ ap suc (length_arranged rows)

  -- a part of a list, from the first rows alone
  pub part_of_first : (limit offset k : ℕ) (rows : List Record) → k ≡ min (offset + limit) (2 ^ 64 - 1) → length rows < 2 ^ 64 → slice limit offset (first k sorting rows) ≡ slice limit offset (arranged sorting rows)
  part_of_first limit offset k rows e few = elim (cases_lt k (offset + limit)) [
    | inl lt ↦ ap (slice limit offset) (take_all k (arranged sorting rows) (omega (arith, length_arranged rows)))
    | inr le ↦
        let split : k ≡ offset + (k - offset) = omega arith in
        ap (λ n. slice limit offset (take n (arranged sorting rows))) split
        ∙ ap (take limit) (drop-take offset (k - offset) (arranged sorting rows))
        ∙ take-take limit (k - offset) (drop offset (arranged sorting rows)) (omega arith)
  ]
