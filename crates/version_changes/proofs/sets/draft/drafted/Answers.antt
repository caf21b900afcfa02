use Rattle.std.proofs.Common.{◌≡◌, Option, Some, None, sym, ap, subst, ◌∙◌}
use Rattle.std.specs.Option.{option_or}
use Rattle.roster_types.specs.Keys.{Key, look_up}
use Rattle.roster_values.specs.Kinds.{place_of_kind}
use Rattle.version_core.proofs.OrderLemmas.{look_up-overlaid}
use Rattle.version_core.specs.Changes.{change_key}
use Rattle.version_core.specs.declared.row_change.RowChange.{RowChange}
use Rattle.version_changes.proofs.sets.draft.drafted.Goals as goal

pub returns-in-Some : goal.returns-in-Some
returns-in-Some c =
    let k : Key = (place_of_kind c.args.kind, c.args.id.now) in
    let rows = c.args.view.now.rows in
    let here = subst (λ changes. Some c.in-Some.change.now ≡ look_up change_key k changes) c.as_slice.ensures.changes c.in-Some.ensures in
    ap (λ (o : Option RowChange). option_or o (look_up change_key k rows)) here ∙ sym (look_up-overlaid change_key k rows c.args.changes.now)

pub returns : goal.returns
returns c =
    let k : Key = (place_of_kind c.args.kind, c.args.id.now) in
    let rows = c.args.view.now.rows in
    let here = subst (λ changes. None ≡ look_up change_key k changes) c.as_slice.ensures.changes c.in_default.ensures in
    c.change.ensures ∙ ap (λ (o : Option RowChange). option_or o (look_up change_key k rows)) here ∙ sym (look_up-overlaid change_key k rows c.args.changes.now)
