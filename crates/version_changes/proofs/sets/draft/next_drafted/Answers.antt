use Rattle.std.proofs.Common.{◌≡◌, ◌&&◌, ◌==◌, Option, find, sym, ap, subst, ◌∙◌}
use Rattle.std.specs.Option.{option_copied}
use Rattle.roster_types.specs.Keys.{Key, is_after}
use Rattle.roster_values.specs.Kinds.{place_of_kind}
use Rattle.version_core.proofs.NextLemmas.{find-overlaid}
use Rattle.version_core.specs.Changes.{change_key, is_next}
use Rattle.version_core.specs.View.{earlier}
use Rattle.version_core.specs.declared.row_change.RowChange.{RowChange}
use Rattle.version_changes.proofs.sets.draft.next_drafted.Goals as goal

pub returns : goal.returns
returns c =
    let kind = c.args.kind in
    let after = option_copied c.args.after in
    let p = λ (change : RowChange). is_next kind after change.row in
    let alike = λ (x y : RowChange) (same : change_key x ≡ change_key y). ap (λ (k : Key). (k.0 == place_of_kind kind) && is_after after k.1) same in
    let rows = c.args.view.now.rows in
    let changes = c.args.changes.now in
    let here = subst (λ changes. option_copied c.following-change.result ≡ find p changes) c.as_slice.ensures.changes c.following-change.ensures in
    c.earlier.ensures
    ∙ ap (λ (o : Option RowChange). earlier o (option_copied c.next_change.result)) here
    ∙ ap (λ (o : Option RowChange). earlier (find p changes) o) c.next_change.ensures.next
    ∙ sym (find-overlaid p alike rows changes c.next_change.ensures.sorted c.as_slice.ensures.sorted)
