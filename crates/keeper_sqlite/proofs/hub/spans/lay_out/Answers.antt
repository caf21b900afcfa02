use Rattle.std.proofs.Common.{◌≡◌, ◌++◌, ◌∷◌, [], map, length, append_assoc, append-nil, arith, sym, ap, subst, ◌∙◌}
use Rattle.std.specs.Vec.Iter.{into_iter_items}
use Rattle.std.proofs.lemmas.List.{map-append, nil_from_length}
use Rattle.item_maps.specs.Edits.{entry_of}
use Rattle.keeper_sqlite.specs.hub.Rows.{AreLaid}
use Rattle.keeper_sqlite.proofs.hub.spans.lay_out.Goals as goal

pub loop-item-preserved : goal.loop-item-preserved
loop-item-preserved c =
    let at = c.loop-item in
    let item = c.in-Some.item in
    let steps : into_iter_items at.item-iterator ≡ item ∷ into_iter_items c.next.new.self = c.in-Some.ensures.steps.0 in
    record {
      whole = append_assoc at.yielded (item ∷ []) (into_iter_items c.next.new.self) ∙ rw (← steps) at.invariant.whole;
      left =
          let was = at.invariant.left in
          let gone = c.in-Some.ensures.steps.1 in
          let short = ap length steps in
          omega arith;
      laid = λ seen h.
          subst (λ es. AreLaid c.args.base es c.lay_item.new.laid)
          (append_assoc seen (map entry_of at.yielded) (entry_of item ∷ []) ∙ ap (λ es. seen ++ es) (sym (map-append entry_of at.yielded (item ∷ []))))
          (c.in_ok-lay_item.ensures (seen ++ map entry_of at.yielded) (at.invariant.laid seen h) c.if-not-branch.false);
    }

pub returns : goal.returns
returns c seen h done =
    let at = c.loop-item in
    let none = c.in-None.ensures.steps in
    let empty : into_iter_items at.item-iterator ≡ [] = nil_from_length (into_iter_items at.item-iterator) (sym at.invariant.left ∙ none.0) in
    let whole : at.yielded ≡ c.args.items.items = sym (append-nil at.yielded) ∙ rw empty at at.invariant.whole in
    subst (λ xs. AreLaid c.args.base (seen ++ map entry_of xs) at.laid) whole (at.invariant.laid seen h)
