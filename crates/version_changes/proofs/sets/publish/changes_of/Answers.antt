use Rattle.std.proofs.Common.{◌≡◌, List, Ok, Err, IfOk, sym, ap, subst, ◌∙◌}
use Rattle.std.specs.Option.{option_or}
use Rattle.roster_types.specs.Keys.{Ascends, Key, look_up}
use Rattle.version_changes.proofs.Outcomes.{step}
use Rattle.version_changes.specs.sets.Applying.{set_key}
use Rattle.version_changes.specs.sets.Steps.{ChangesAt, ListedChangeAt, mark_at}
use Rattle.version_core.proofs.OrderLemmas.{look_up-overlaid}
use Rattle.version_core.specs.Changes.{change_key}
use Rattle.version_core.specs.Order.{overlaid}
use Rattle.version_core.specs.declared.row_change.RowChange.{RowChange}
use Rattle.version_changes.proofs.sets.publish.changes_of.Goals as goal

pub marks_of-requires : goal.marks_of-requires
marks_of-requires c = subst (Ascends set_key) (sym c.deref.ensures.value) c.requires

-- where a row is listed, what it changes stands over its mark, and there is none
pub returns : goal.returns
returns c =
    let set = c.args.set.now in
    let at = c.args.at in
    let rows = c.args.view.now.rows in
    let marks = c.in_ok-marks.marks.items in
    let listed = c.in_ok-listed.listed in
    let found = λ (k : Key). look_up change_key k listed in
    let all : (k : Key) → ChangesAt set at (look_up set_key k c.args.rows.items) (look_up change_key k rows) (look_up change_key k (overlaid change_key marks listed)) = λ k.
    let l = look_up set_key k c.args.rows.items in
    let stored = look_up change_key k rows in
    let change : ListedChangeAt set.feed at l stored (found k) = subst (λ feed. ListedChangeAt feed at l stored (found k)) c.feed.ensures (c.in_ok-listed.ensures k) in
    let mark : look_up change_key k marks ≡ mark_at set at c.args.rows.items rows k = c.in_ok-marks.ensures.marks k ∙ ap (λ index. mark_at set at index rows k) c.deref.ensures.value in
    let here : look_up change_key k (overlaid change_key marks listed) ≡ option_or (found k) (mark_at set at c.args.rows.items rows k) = look_up-overlaid change_key k marks listed ∙ ap (option_or (found k)) mark in
    subst (ChangesAt set at l stored) (sym here) (step set at l stored (found k) change) in
    elim c.merged.result as (λ r. IfOk r (λ (v : List RowChange). v ≡ overlaid change_key marks listed) → IfOk r (λ (v : List RowChange). (k : Key) → ChangesAt set at (look_up set_key k c.args.rows.items) (look_up change_key k rows) (look_up change_key k v))) [
      | Ok v ↦ λ same. subst (λ (v : List RowChange). (k : Key) → ChangesAt set at (look_up set_key k c.args.rows.items) (look_up change_key k rows) (look_up change_key k v)) (sym same) all
      | Err _ ↦ λ _. tt
    ] c.merged.ensures
