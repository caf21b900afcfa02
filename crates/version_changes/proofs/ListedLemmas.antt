-- What listed rows change, one row after another.
use Rattle.std.proofs.Common.{◌≡◌, ℕ, ℤ, ◌+◌, ◌<◌, List, [], ◌∷◌, ◌++◌, length, length-append, get_or, take, arith}
use Rattle.std.proofs.Common.{true, false, cond, Option, Some, None, refl, sym, ap, subst, ◌∙◌}
use Rattle.std.specs.Option.{option_or}
use Rattle.std.specs.Ordering.{is_eq}
use Rattle.std.proofs.lemmas.List.{take_all, take_more}
use Rattle.reference_rules.proofs.KeyOrder.{equal_from_is_eq, key_exact}
use Rattle.roster_types.specs.Keys.{Ascends, Key, key_cmp, look_up}
use Rattle.roster_types.specs.declared.set_row.SetRow.{SetRow}
use Rattle.version_changes.proofs.LookUps.{fresh, look_up-append}
use Rattle.version_changes.specs.sets.Applying.{dated, owned_by, set_key}
use Rattle.version_changes.specs.sets.Steps.{IsListedChange, ListedChangeAt, stored_as, with_change}
use Rattle.version_core.proofs.OrderLemmas.{look_up-put}
use Rattle.version_core.specs.Changes.{change_key}
use Rattle.version_core.specs.declared.row_change.RowChange.{RowChange}

behind_front : (front rest : List SetRow) (listed : SetRow) → get_or (front ++ listed ∷ rest) (length front) listed ≡ listed
behind_front [] rest listed = refl
behind_front (x ∷ front) rest listed = behind_front front rest listed

module _ (feed : List ℕ) (at : ℤ) where
  stored_key : (listed : SetRow) → change_key (stored_as feed at listed) ≡ set_key listed
  stored_key listed = elim listed.dated as (λ b. change_key (owned_by feed (cond b listed.row (dated at listed.row))) ≡ set_key listed) [ true ↦ refl | false ↦ refl ]

  listed_key : (listed : SetRow) (stored : Option RowChange) (change : RowChange) → IsListedChange feed at listed stored (Some change) → change_key change ≡ set_key listed
  listed_key listed None change is = let same : change ≡ stored_as feed at listed = cc in ap change_key same ∙ stored_key listed
  listed_key listed (Some stored) change is = ap change_key is.1 ∙ stored_key listed

  look_up-with : (k : Key) (listed : SetRow) (stored o : Option RowChange) (changes : List RowChange) → IsListedChange feed at listed stored o → look_up change_key k changes ≡ None → is_eq (key_cmp k (set_key listed)) ≡ true → look_up change_key k (with_change o changes) ≡ o
  look_up-with k listed stored None changes is none same = none
  look_up-with k listed stored (Some change) changes is none same =
      look_up-put change_key k change changes ∙ ap (λ b. cond b (Some change) (look_up change_key k changes)) (ap (λ l. is_eq (key_cmp k l)) (listed_key listed stored change is) ∙ same)

  look_up-others : (k : Key) (listed : SetRow) (stored o : Option RowChange) (changes : List RowChange) → IsListedChange feed at listed stored o → is_eq (key_cmp k (set_key listed)) ≡ false → look_up change_key k (with_change o changes) ≡ look_up change_key k changes
  look_up-others k listed stored None changes is other = refl
  look_up-others k listed stored (Some change) changes is other =
      look_up-put change_key k change changes ∙ ap (λ b. cond b (Some change) (look_up change_key k changes)) (ap (λ l. is_eq (key_cmp k l)) (listed_key listed stored change is) ∙ other)

  module _ (index : List SetRow) (rows : List RowChange) where
    -- what the first n listed rows change
    abbrev pub Changed : ℕ → List RowChange → Type 0
    Changed n changes = (k : Key) → ListedChangeAt feed at (look_up set_key k (take n index)) (look_up change_key k rows) (look_up change_key k changes)

    pub changed_on : (n : ℕ) (listed : SetRow) (o : Option RowChange) (changes : List RowChange) → Ascends set_key index → n < length index → listed ≡ get_or index n listed → IsListedChange feed at listed (look_up change_key (set_key listed) rows) o → Changed n changes → Changed (n + 1) (with_change o changes)
    changed_on n listed o changes up lt here is so k =
        let more : look_up set_key k (take (n + 1) index) ≡ option_or (look_up set_key k (take n index)) (look_up set_key k (listed ∷ [])) =
        ap (look_up set_key k) (take_more index n listed lt ∙ ap (λ x. take n index ++ x ∷ []) (sym here)) ∙ look_up-append set_key k (take n index) (listed ∷ []) in
        subst (λ l. ListedChangeAt feed at l (look_up change_key k rows) (look_up change_key k (with_change o changes))) (sym more) (
        elim (is_eq (key_cmp k (set_key listed))) as (λ b. is_eq (key_cmp k (set_key listed)) ≡ b → ListedChangeAt feed at (option_or (look_up set_key k (take n index)) (cond b (Some listed) None)) (look_up change_key k rows) (look_up change_key k (with_change o changes))) [
          | true ↦ λ t.
              let same : k ≡ set_key listed = key_exact _ _ (equal_from_is_eq _ t) in
              let new : look_up set_key k (take n index) ≡ None = ap (λ l. look_up set_key l (take n index)) (same ∙ ap set_key here) ∙ fresh set_key index n listed up lt in
              let none : look_up change_key k changes ≡ None = subst (λ l. ListedChangeAt feed at l (look_up change_key k rows) (look_up change_key k changes)) new (so k) in
              subst (λ l. ListedChangeAt feed at (option_or l (Some listed)) (look_up change_key k rows) (look_up change_key k (with_change o changes))) (sym new) (
              subst (λ c. IsListedChange feed at listed (look_up change_key k rows) c) (sym (look_up-with k listed (look_up change_key (set_key listed) rows) o changes is none t)) (
              subst (λ l. IsListedChange feed at listed (look_up change_key l rows) o) (sym same) is))
          | false ↦ λ f.
              let others = look_up-others k listed (look_up change_key (set_key listed) rows) o changes is f in
              subst (λ l. ListedChangeAt feed at l (look_up change_key k rows) (look_up change_key k (with_change o changes))) (sym (or_none (look_up set_key k (take n index)))) (
              subst (λ c. ListedChangeAt feed at (look_up set_key k (take n index)) (look_up change_key k rows) c) (sym others) (so k))
        ] refl)
      where
        or_none : (l : Option SetRow) → option_or l None ≡ l
        or_none None = refl
        or_none (Some x) = refl

    -- with one row more behind those so far
    pub changed_next : (front rest : List SetRow) (listed : SetRow) (o : Option RowChange) (changes : List RowChange) → Ascends set_key index → front ++ listed ∷ rest ≡ index → IsListedChange feed at listed (look_up change_key (set_key listed) rows) o → Changed (length front) changes → Changed (length (front ++ listed ∷ [])) (with_change o changes)
    changed_next front rest listed o changes up whole is so =
        let long = length-append front (listed ∷ rest) in
        let same = ap length whole in
        subst (λ n. Changed n (with_change o changes)) (sym (length-append front (listed ∷ []))) (
        changed_on (length front) listed o changes up (omega (arith, long, same)) (sym (behind_front front rest listed) ∙ ap (λ l. get_or l (length front) listed) whole) is so)

    -- all rows
    pub changed_all : (front : List SetRow) (changes : List RowChange) → front ≡ index → Changed (length front) changes → (k : Key) → ListedChangeAt feed at (look_up set_key k index) (look_up change_key k rows) (look_up change_key k changes)
    changed_all front changes whole so k =
        let same = ap length whole in
        subst (λ l. ListedChangeAt feed at (look_up set_key k l) (look_up change_key k rows) (look_up change_key k changes)) (take_all (length front) index (omega (arith, same))) (so k)
