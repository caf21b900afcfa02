-- A chain of parents passes no more ids than there are rows, until it comes to one for the second time; so one that
-- comes back does so within as many turns.
use Rattle.std.proofs.Common.{◌≡◌, ℕ, zero, suc, ◌+◌, ◌-◌, ◌<◌, ◌≤◌, Bool, true, false, cond, List, [], ◌∷◌, length}
use Rattle.std.proofs.Common.{Option, Some, None, bytes_eq, option_and_then, refl, sym, ap, ◌∙◌, arith}
use Rattle.std.specs.Ordering.{is_eq}
use Rattle.std.proofs.lemmas.Bool.Decides.{nat_tests}
use Rattle.std.proofs.lemmas.List.Sums.{sum_by-cons}
use Rattle.std.proofs.lemmas.Slice.Eq.{bytes_eq-Decides}
use Rattle.roster_types.specs.Keys.{Key, count_of, is_of_kind, key_cmp, look_up, row_key}
use Rattle.roster_types.specs.Records.{Record}
use Rattle.roster_values.specs.Kinds.{place_of_kind}
use Rattle.roster_values.specs.declared.kind.Kind.{Kind}
use Rattle.reference_rules.proofs.CycleLemmas.{nth-add, nth_from}
use Rattle.reference_rules.proofs.KeyOrder.{equal_from_is_eq, key_exact}
use Rattle.reference_rules.proofs.ParentChains.{in_cycle_from_test, test_from_in_cycle}
use Rattle.reference_rules.specs.Parents.{is_in_cycle, nth_parent, parent_in, parent_of, returns_within}

abbrev has : List ℕ → List (List ℕ) → Bool
has x [] = false
has x (y ∷ ys) = cond (bytes_eq x y) true (has x ys)

-- the list without the first that is this one
abbrev without : List ℕ → List (List ℕ) → List (List ℕ)
without x [] = []
without x (y ∷ ys) = cond (bytes_eq x y) ys (y ∷ without x ys)

length-without : (x : List ℕ) (ys : List (List ℕ)) → has x ys ≡ true → length ys ≡ suc (length (without x ys))
length-without x [] e = cc
length-without x (y ∷ ys) e =
    elim (bytes_eq x y) as (λ b. cond b true (has x ys) ≡ true → suc (length ys) ≡ suc (length (cond b ys (y ∷ without x ys)))) [
      | true ↦ λ _. refl
      | false ↦ λ later. ap (λ n. suc n) (length-without x ys later)
    ] e

has-without : (x z : List ℕ) (ys : List (List ℕ)) → (z ≡ x → ⊥) → has z ys ≡ true → has z (without x ys) ≡ true
has-without x z [] other e = e
has-without x z (y ∷ ys) other e =
    elim (bytes_eq x y) as (λ b. bytes_eq x y ≡ b → has z (cond b ys (y ∷ without x ys)) ≡ true) [
      | true ↦ λ same. elim (bytes_eq z y) as (λ b. bytes_eq z y ≡ b → cond b true (has z ys) ≡ true → has z ys ≡ true) [
        | true ↦ λ here _. absurd (other ((bytes_eq-Decides z y).0 here ∙ sym ((bytes_eq-Decides x y).0 same)))
        | false ↦ λ _ later. later
      ] refl e
      | false ↦ λ _. elim (bytes_eq z y) as (λ b. cond b true (has z ys) ≡ true → cond b true (has z (without x ys)) ≡ true) [
        | true ↦ λ _. refl
        | false ↦ λ later. has-without x z ys other later
      ] e
    ] refl

-- so many ids, no two alike, need a list that is as long
pigeon : (m : ℕ) (f : ℕ → List ℕ) (ys : List (List ℕ)) → ((i : ℕ) → i < m → has (f i) ys ≡ true) → ((i j : ℕ) → i < j → j < m → f i ≡ f j → ⊥) → m ≤ length ys
pigeon zero f ys in_it apart = omega arith
pigeon (suc m) f ys in_it apart =
    let less = pigeon m f (without (f m) ys) (λ i lt. has-without (f m) (f i) ys (λ same. apart i m lt (omega arith) same) (in_it i (omega (arith, lt)))) (λ i j lt lt' same. apart i j lt (omega (arith, lt')) same) in
    let one = length-without (f m) ys (in_it m (omega arith)) in
    omega (arith, less, one)

-- the ids of the rows of a kind
abbrev ids : Kind → List Record → List (List ℕ)
ids kind [] = []
ids kind (row ∷ rows) = cond (is_of_kind kind row) (row.id ∷ ids kind rows) (ids kind rows)

length-ids : (kind : Kind) (rows : List Record) → length (ids kind rows) ≡ count_of kind rows
length-ids kind [] = refl
length-ids kind (row ∷ rows) =
    (elim (is_of_kind kind row) as (λ b. length (cond b (row.id ∷ ids kind rows) (ids kind rows)) ≡ cond b 1 0 + count_of kind rows) [
      | true ↦ let rest = length-ids kind rows in omega (arith, rest)
      | false ↦ let rest = length-ids kind rows in omega (arith, rest)
    ]) ∙ sym (sum_by-cons (λ r. cond (is_of_kind kind r) 1 0) row rows)

has-ids : (kind : Kind) (id : List ℕ) (rows : List Record) (found : Record) → look_up row_key (place_of_kind kind, id) rows ≡ Some found → has id (ids kind rows) ≡ true
has-ids kind id [] found e = cc
has-ids kind id (row ∷ rows) found e =
    elim (is_eq (key_cmp (place_of_kind kind, id) (row_key row))) as (λ b. is_eq (key_cmp (place_of_kind kind, id) (row_key row)) ≡ b → cond b (Some row) (look_up row_key (place_of_kind kind, id) rows) ≡ Some found → has id (cond (is_of_kind kind row) (row.id ∷ ids kind rows) (ids kind rows)) ≡ true) [
      | true ↦ λ t _.
          let same = key_exact (place_of_kind kind, id) (row_key row) (equal_from_is_eq _ t) in
          let places : place_of_kind kind ≡ place_of_kind row.kind = ap (λ (k : Key). k.0) same in
          let of : is_of_kind kind row ≡ true = grind (arith, nat_tests) in
          let here : bytes_eq id row.id ≡ true = (bytes_eq-Decides id row.id).1 (ap (λ (k : Key). k.1) same) in
          ap (λ b. has id (cond b (row.id ∷ ids kind rows) (ids kind rows))) of ∙ ap (λ b. cond b true (has id (ids kind rows))) here
      | false ↦ λ _ later.
          let there = has-ids kind id rows found later in
          elim (is_of_kind kind row) as (λ b. has id (cond b (row.id ∷ ids kind rows) (ids kind rows)) ≡ true) [
            | true ↦ (elim (bytes_eq id row.id) as (λ b. cond b true (has id (ids kind rows)) ≡ true) [ true ↦ refl | false ↦ there ])
            | false ↦ there
          ]
    ] refl e

abbrev or_blank : Option (List ℕ) → List ℕ
or_blank None = []
or_blank (Some id) = id

module _ (rows : List Record) (kind : Kind) (id : List ℕ) where
  abbrev at : ℕ → List ℕ
  at i = or_blank (nth_parent rows kind id i)

  -- before an id of a chain stand ids
  before : (n i : ℕ) (y : List ℕ) → i ≤ n → nth_parent rows kind id n ≡ Some y → nth_parent rows kind id i ≡ Some (at i)
  before n i y le there =
      let sum : (n - i) + i ≡ n = omega (arith, le) in
      elim (nth_parent rows kind id i) as (λ o. nth_parent rows kind id i ≡ o → nth_parent rows kind id i ≡ Some (or_blank o)) [
        | None ↦ λ none.
            let gone : nth_parent rows kind id n ≡ None = ap (nth_parent rows kind id) (sym sum) ∙ nth-add rows kind id i (n - i) ∙ ap (option_and_then (λ y. nth_parent rows kind y (n - i))) none in
            cc
        | Some x ↦ λ some. some
      ] refl

  -- and each but the last is of a row
  of_row : (n i : ℕ) (y : List ℕ) → i < n → nth_parent rows kind id n ≡ Some y → has (at i) (ids kind rows) ≡ true
  of_row n i y lt there =
      let here = before n i y (omega (arith, lt)) there in
      let next = before n (suc i) y (omega (arith, lt)) there in
      let parent : parent_of rows kind (at i) ≡ Some (at (suc i)) = sym (ap (option_and_then (parent_of rows kind)) here) ∙ next in
      elim (look_up row_key (place_of_kind kind, at i) rows) as (λ o. look_up row_key (place_of_kind kind, at i) rows ≡ o → option_and_then parent_in o ≡ Some (at (suc i)) → has (at i) (ids kind rows) ≡ true) [
        | None ↦ λ _ no. cc
        | Some row ↦ λ found _. has-ids kind (at i) rows row found
      ] refl parent

  -- so many ids, no two alike, are those of as many rows
  pub few_apart : (n : ℕ) (y : List ℕ) → nth_parent rows kind id n ≡ Some y → ((i j : ℕ) (x : List ℕ) → i < j → j < n → nth_parent rows kind id i ≡ Some x → nth_parent rows kind id j ≡ Some x → ⊥) → n ≤ count_of kind rows
  few_apart n y there apart =
      let alike : (i j : ℕ) → i < j → j < n → at i ≡ at j → ⊥ = λ i j lt lt' same.
      apart i j (at i) lt lt' (before n i y (omega (arith, lt, lt')) there) (before n j y (omega (arith, lt')) there ∙ ap (λ z. Some z) (sym same)) in
      let few : n ≤ length (ids kind rows) = pigeon n at (ids kind rows) (λ i lt. of_row n i y lt there) alike in
      let count = length-ids kind rows in
      omega (arith, few, count)

  -- where two ids on the way are alike, the chain comes back sooner
  sooner : (n i j : ℕ) (x : List ℕ) → j < n → nth_parent rows kind id n ≡ Some id → nth_parent rows kind id i ≡ Some x → nth_parent rows kind id j ≡ Some x → nth_parent rows kind id ((n - j) + i) ≡ Some id
  sooner n i j x lt back first second =
      let sum : (n - j) + j ≡ n = omega (arith, lt) in
      nth_from rows kind id x i (n - j) first ∙ sym (nth_from rows kind id x j (n - j) second) ∙ ap (nth_parent rows kind id) sum ∙ back

  -- what comes back is in a cycle, however many turns it takes
  returns : (bound n : ℕ) → n ≤ bound → 0 < n → nth_parent rows kind id n ≡ Some id → is_in_cycle rows kind id ≡ true
  returns zero n le some back = absurd (omega (arith, le, some))
  returns (suc bound) n le some back =
      elim (returns_within rows kind id (n - 1)) as (λ b. returns_within rows kind id (n - 1) ≡ b → is_in_cycle rows kind id ≡ true) [
        | true ↦ λ earlier.
            let less = in_cycle_from_test rows kind id (n - 1) earlier in
            returns bound less.0 (let l = less.2 in omega (arith, l, le, some)) less.1 less.3
        | false ↦ λ not_yet.
            let apart : (i j : ℕ) (x : List ℕ) → i < j → j < n → nth_parent rows kind id i ≡ Some x → nth_parent rows kind id j ≡ Some x → ⊥ = λ i j x lt lt' first second.
            let soon = test_from_in_cycle rows kind id (n - 1) ((n - j) + i) (omega (arith, lt, lt')) (omega (arith, lt, lt')) (sooner n i j x lt' back first second) in
            cc in
            test_from_in_cycle rows kind id (count_of kind rows) n some (few_apart n id back apart) back
      ] refl

  pub in_cycle_from_turns : (n : ℕ) → 0 < n → nth_parent rows kind id n ≡ Some id → is_in_cycle rows kind id ≡ true
  in_cycle_from_turns n some back = returns n n (omega arith) some back
