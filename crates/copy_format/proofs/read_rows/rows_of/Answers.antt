use Rattle.std.proofs.Common.{◌≡◌, [], ◌∷◌, ◌++◌, None, true, sym, subst, ◌∙◌}
use Rattle.keeper_memory.specs.copy.Lists.{IsList, last_from}
use Rattle.copy_format.specs.Format.{IsRowOf, row_entry}
use Rattle.roster_types.specs.Keys.{is_after}
use Rattle.hub_format.proofs.ItemLists.{all_found, value_at}
use Rattle.copy_format.proofs.RowReading.{list_push}
use Rattle.copy_format.proofs.read_rows.rows_of.Goals as goal

pub loop-item-preserved : goal.loop-item-preserved
loop-item-preserved c =
    let kind = c.args.kind in
    let so_far = c.loop-item.found.items in
    let pushed = c.in_ok-push.ensures.items in
    let same = rw c.in-Some.is at c.in_ok-row.ensures.kind in
    let behind = subst (λ rs. is_after (last_from None rs) c.in-Some.row.id ≡ true) c.as_slice.ensures.value (rw c.in-Some.is at c.in_ok-row.ensures.behind) in (
      (λ rows all told.
          let there = value_at row_entry (IsRowOf kind) c.args.items.now rows c.loop-item.item-index c.item-item.result told all c.loop-item-test.true c.item-item.is in
          let row : c.in-Some.row ≡ there.0 = rw c.in-Some.is at (c.in_ok-row.ensures.found there.0 there.1 there.2) in
          let before = c.loop-item.invariant.0 rows all told in
          pushed ∙ (λ i. before i ++ row i ∷ []) ∙ sym there.3),
      subst (IsList kind) (sym pushed) (list_push kind so_far c.in-Some.row c.loop-item.invariant.1 same behind),
    )

pub returns-clause-found : goal.returns-clause-found
returns-clause-found c rows all told = all_found row_entry c.args.items.now rows c.loop-item.found.items c.loop-item.item-index told c.loop-item-test.false (c.loop-item.invariant.0 rows all told)
