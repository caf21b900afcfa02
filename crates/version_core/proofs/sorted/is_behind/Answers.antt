use Rattle.std.proofs.Common.{◌≡◌, ◌<◌, ◌-◌, ◌++◌, List, [], ◌∷◌, get_or, length, Some, None, Less, is_lt, refl, sym}
use Rattle.std.proofs.Common.{ap, subst, ◌∙◌, arith, inl, inr}
use Rattle.std.proofs.lemmas.Bool.{cases_lt}
use Rattle.std.proofs.lemmas.List.Edits.{insert_end}
use Rattle.std.proofs.lemmas.Option.{slice_get-get_or, slice_get_within}
use Rattle.std.specs.List.{AllWithin, slice_get}
use Rattle.reference_rules.proofs.KeyOrder.{key_total, less_from_is_lt}
use Rattle.roster_types.specs.Keys.{key_cmp}
use Rattle.version_core.proofs.Places.{less_at, put-gap}
use Rattle.version_core.specs.Changes.{AreChanges, change_key}
use Rattle.version_core.specs.Order.{put}
use Rattle.version_core.specs.declared.row_change.RowChange.{RowChange}
use Rattle.version_core.proofs.sorted.is_behind.Goals as goal

-- what is above the last is put behind it
behind_last : (x : RowChange) (xs : List RowChange) (last : RowChange) → AreChanges xs → slice_get xs (length xs - 1) ≡ Some last → key_cmp (change_key last) (change_key x) ≡ Less
    → put change_key x xs ≡ xs ++ x ∷ []
behind_last x xs last up is less =
    let within : length xs - 1 < length xs = slice_get_within xs (length xs - 1) last is in
    let end : (d : RowChange) → get_or xs (length xs - 1) d ≡ last = λ d.
    let same = sym (slice_get-get_or xs (length xs - 1) d within) ∙ is in
    let one : get_or xs (length xs - 1) d ≡ last = cc in
    one in
    let below : AllWithin (λ y. key_cmp (change_key y) (change_key x) ≡ Less) xs 0 (length xs) = λ i d from lt.
    elim (cases_lt i (length xs - 1)) [
      | inl before ↦ key_total.trans (change_key (get_or xs i d)) (change_key last) (change_key x) (subst (λ y. key_cmp (change_key (get_or xs i d)) (change_key y) ≡ Less) (end d) (less_at change_key xs i (length xs - 1) d up before within)) less
      | inr not_before ↦
          let here : i ≡ length xs - 1 = omega arith in
          subst (λ y. key_cmp (change_key y) (change_key x) ≡ Less) (sym (ap (λ j. get_or xs j d) here ∙ end d)) less
    ] in
    put-gap change_key x xs (length xs) below (λ i d from lt. absurd (omega arith)) (omega arith) ∙ insert_end xs x

nothing_behind : (x : RowChange) (xs : List RowChange) → slice_get xs (length xs - 1) ≡ None → put change_key x xs ≡ xs ++ x ∷ []
nothing_behind x [] none = refl
nothing_behind x (y ∷ ys) none =
    let some = slice_get-get_or (y ∷ ys) (length (y ∷ ys) - 1) y (omega arith) in
    cc

pub returns-in-None : goal.returns-in-None
returns-in-None c = λ _. nothing_behind c.args.change.now c.args.changes.now (sym c.in-None.ensures.value)

pub returns-in-Some : goal.returns-in-Some
returns-in-Some c = λ t.
    behind_last c.args.change.now c.args.changes.now c.in-Some.last.now c.requires (sym c.in-Some.ensures.value)
    (less_from_is_lt _ (ap is_lt (sym c.compare.ensures) ∙ sym c.is_lt.ensures ∙ t))
