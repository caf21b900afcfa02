use Rattle.std.proofs.Common.{◌≡◌, refl, sym, ap, subst, ◌∙◌}
use Rattle.keeper_memory.specs.copy.Lists.{IsList}
use Rattle.roster_base.specs.Order.{in_order}
use Rattle.roster_types.specs.Records.{Record}
use Rattle.bulk_export.specs.Changes.{AreChanges}
use Rattle.bulk_export.proofs.Changed.{changed, changed_list}
use Rattle.bulk_export.proofs.Ordering.{list_ascends}
use Rattle.bulk_export.proofs.Telling.{gathered}
use Rattle.bulk_export.proofs.changes.changes.Goals as goal

pub add_gone_rows-requires : goal.add_gone_rows-requires
add_gone_rows-requires c = list_ascends c.args.kind c.args.held.now c.requires.held

pub returns-clause-changes : goal.returns-clause-changes
returns-clause-changes c =
    let es = c.in_ok-earlier.earlier.items in
    let all : c.add_gone_rows.new.changes.items ≡ gathered c.args.at c.args.held.now es = rw (c.in_ok-add_gone_rows.ensures, c.as_slice-2.ensures.value, c.in_ok-gathered.ensures, c.as_slice.ensures.value) refl in
    subst (AreChanges c.args.at c.args.earlier.now c.args.held.now) (sym (c.in_ok-changes.ensures.value ∙ ap (in_order (λ (row : Record). row.id)) all))
    (changed c.args.kind c.args.at c.args.earlier.now c.args.held.now es c.requires.held c.in_ok-earlier.ensures.order c.in_ok-earlier.ensures.rows c.in_ok-earlier.ensures.kinds)

pub returns-clause-list : goal.returns-clause-list
returns-clause-list c =
    let es = c.in_ok-earlier.earlier.items in
    let all : c.add_gone_rows.new.changes.items ≡ gathered c.args.at c.args.held.now es = rw (c.in_ok-add_gone_rows.ensures, c.as_slice-2.ensures.value, c.in_ok-gathered.ensures, c.as_slice.ensures.value) refl in
    subst (IsList c.args.kind) (sym (c.in_ok-changes.ensures.value ∙ ap (in_order (λ (row : Record). row.id)) all))
    (changed_list c.args.kind c.args.at c.args.earlier.now c.args.held.now es c.requires.held c.in_ok-earlier.ensures.order c.in_ok-earlier.ensures.rows c.in_ok-earlier.ensures.kinds)
