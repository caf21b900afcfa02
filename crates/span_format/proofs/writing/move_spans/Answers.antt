use Rattle.std.proofs.Common.{◌≡◌, ◌++◌, ◌∷◌, [], length, append_assoc, append-nil, arith, sym, ap, subst, map, ◌∙◌}
use Rattle.std.proofs.lemmas.List.{nil_from_length}
use Rattle.std.specs.List.{AllByRecursion}
use Rattle.std.specs.Vec.Iter.{into_iter_items}
use Rattle.hub_format.specs.Areas.{spans_area}
use Rattle.hub_format.specs.Edits.{puts}
use Rattle.version_core.proofs.VersionLemmas.{AllByRecursion-push}
use Rattle.span_format.specs.Format.{HasPlainId, span_entry, spans_from}
use Rattle.span_format.proofs.Steps.{spans-push}
use Rattle.span_format.proofs.writing.move_spans.Goals as goal

pub loop-row-preserved : goal.loop-row-preserved
loop-row-preserved c =
    let at = c.loop-row in
    let row = c.in-Some.row in
    let steps : into_iter_items at.row-iterator ≡ row ∷ into_iter_items c.next.new.self = c.in-Some.ensures.steps.0 in
    record {
      whole = append_assoc at.yielded (row ∷ []) (into_iter_items c.next.new.self) ∙ rw (← steps) at.invariant.whole;
      left =
          let was = at.invariant.left in
          let gone = c.in-Some.ensures.steps.1 in
          let short = ap length steps in
          omega arith;
      edits = c.in_ok-push.ensures.items ∙ spans-push c.args.first c.args.edits.now.items at.edits.items at.yielded row c.in_ok-put_span.field-0 at.invariant.edits c.in_ok-put_span.ensures.edit;
      plain = AllByRecursion-push HasPlainId at.yielded row at.invariant.plain c.in_ok-put_span.ensures.plain;
    }

pub returns : goal.returns
returns c =
    let at = c.loop-row in
    let none = c.in-None.ensures.steps in
    let empty : into_iter_items at.row-iterator ≡ [] = nil_from_length (into_iter_items at.row-iterator) (sym at.invariant.left ∙ none.0) in
    let whole : at.yielded ≡ c.args.rows = sym (append-nil at.yielded) ∙ rw empty at at.invariant.whole in
    record {
      edits = at.invariant.edits ∙ ap (λ rows. c.args.edits.now.items ++ puts spans_area (map span_entry (spans_from c.args.first rows))) whole;
      plain = subst (AllByRecursion HasPlainId) whole at.invariant.plain;
    }
