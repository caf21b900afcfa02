use Rattle.std.proofs.Common.{◌≡◌, ◌++◌, ◌∷◌, [], length, append-nil, arith, sym, ap, ◌∙◌}
use Rattle.std.proofs.lemmas.List.{nil_from_length}
use Rattle.std.specs.Vec.Iter.{into_iter_items}
use Rattle.roster_base.proofs.Kept.{kept, kept-in_order, kept-on}
use Rattle.roster_base.specs.Order.{last_key}
use Rattle.roster_base.proofs.order.firsts.Goals as goal

pub loop-item-preserved : goal.loop-item-preserved
loop-item-preserved g c =
    let key = g.T.Keyed.key_of in
    let at = c.loop-item in
    let item = c.in-Some.item in
    let rest = into_iter_items c.next.new.self in
    let steps : into_iter_items at.item-iterator ≡ item ∷ rest = c.in-Some.ensures.steps.0 in
    record {
      kept =
          rw c.in_ok-keep.ensures (kept-on key at.kept.items rest item
          ∙ ap (λ items. at.kept.items ++ kept key (last_key key at.kept.items) items) (sym steps) ∙ at.invariant.kept);
      left =
          let was = at.invariant.left in
          let gone = c.in-Some.ensures.steps.1 in
          let short = ap length steps in
          omega arith;
    }

pub returns : goal.returns
returns g c =
    let key = g.T.Keyed.key_of in
    let at = c.loop-item in
    let none = c.in-None.ensures.steps in
    let empty : into_iter_items at.item-iterator ≡ [] = nil_from_length (into_iter_items at.item-iterator) (sym at.invariant.left ∙ none.0) in
    sym (append-nil at.kept.items)
    ∙ ap (λ items. at.kept.items ++ kept key (last_key key at.kept.items) items) (sym empty)
    ∙ at.invariant.kept ∙ kept-in_order key c.args.items.items c.requires
