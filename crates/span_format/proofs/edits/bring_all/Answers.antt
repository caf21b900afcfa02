use Rattle.std.proofs.Common.{◌≡◌, ◌++◌, ◌∷◌, [], length, append_assoc, append-nil, arith, sym, ap, subst, ◌∙◌}
use Rattle.std.proofs.lemmas.List.{nil_from_length}
use Rattle.std.specs.List.{AllByRecursion}
use Rattle.std.specs.Vec.Iter.{into_iter_items}
use Rattle.span_format.specs.Edits.{brought}
use Rattle.span_format.specs.Format.{HasPlainIds}
use Rattle.span_format.proofs.Steps.{brought-on}
use Rattle.span_format.proofs.edits.bring_all.Goals as goal
use Rattle.version_core.proofs.VersionLemmas.{AllByRecursion-push}

pub loop-change-preserved : goal.loop-change-preserved
loop-change-preserved c =
    let at = c.loop-change in
    let change = c.in-Some.change in
    let steps : into_iter_items at.change-iterator ≡ change ∷ into_iter_items c.next.new.self = c.in-Some.ensures.steps.0 in
    record {
      whole = append_assoc at.yielded (change ∷ []) (into_iter_items c.next.new.self) ∙ rw (← steps) at.invariant.whole;
      left =
          let was = at.invariant.left in
          let gone = c.in-Some.ensures.steps.1 in
          let short = ap length steps in
          omega arith;
      edits = brought-on c.args.edits.now.items at.edits.items c.bring.new.edits.items at.yielded change at.invariant.edits c.in_ok-bring.ensures.edits;
      plain = AllByRecursion-push HasPlainIds at.yielded change at.invariant.plain c.in_ok-bring.ensures.plain;
    }

pub returns : goal.returns
returns c =
    let at = c.loop-change in
    let none = c.in-None.ensures.steps in
    let empty : into_iter_items at.change-iterator ≡ [] = nil_from_length (into_iter_items at.change-iterator) (sym at.invariant.left ∙ none.0) in
    let whole : at.yielded ≡ c.args.changes = sym (append-nil at.yielded) ∙ rw empty at at.invariant.whole in
    record {
      edits = at.invariant.edits ∙ ap (λ changes. c.args.edits.now.items ++ brought changes) whole;
      plain = subst (AllByRecursion HasPlainIds) whole at.invariant.plain;
    }
