use Rattle.std.proofs.Common.{◌≡◌, [], ◌∷◌, ◌++◌, map, sym, ap, ◌∙◌}
use Rattle.item_maps.specs.Edits.{entry_of}
use Rattle.hub_format.specs.Format.{FitsMark, mark_entry}
use Rattle.hub_format.proofs.ItemLists.{all_found, all_read, more_read, value_at}
use Rattle.hub_format.proofs.read_marks.marks_of.Goals as goal

pub loop-item-preserved : goal.loop-item-preserved
loop-item-preserved c =
    let entry : entry_of c.item-item.result ≡ mark_entry c.in-Some.mark = rw c.in-Some.is at c.in_ok-mark.ensures.whole in
    let entries = more_read entry_of mark_entry c.args.items.now c.loop-item.found.items c.loop-item.item-index c.item-item.result c.in-Some.mark c.loop-item.invariant.1 c.loop-item-test.true c.item-item.is entry in (
      (λ marks all same.
          let there = value_at mark_entry FitsMark c.args.items.now marks c.loop-item.item-index c.item-item.result same all c.loop-item-test.true c.item-item.is in
          let mark : c.in-Some.mark ≡ there.0 = rw c.in-Some.is at (c.in_ok-mark.ensures.found there.0 there.1 there.2) in
          let so_far = c.loop-item.invariant.0 marks all same in
          c.in_ok-push.ensures.items ∙ (λ i. so_far i ++ mark i ∷ []) ∙ sym there.3),
      entries ∙ ap (map mark_entry) (sym c.in_ok-push.ensures.items),
    )

pub returns-clause-found : goal.returns-clause-found
returns-clause-found c marks all same = all_found mark_entry c.args.items.now marks c.loop-item.found.items c.loop-item.item-index same c.loop-item-test.false (c.loop-item.invariant.0 marks all same)

pub returns-clause-whole : goal.returns-clause-whole
returns-clause-whole c = all_read entry_of mark_entry c.args.items.now c.loop-item.found.items c.loop-item.item-index c.loop-item-test.false c.loop-item.invariant.1
