use Rattle.std.proofs.Common.{◌≡◌, ◌++◌, ◌∷◌, [], length, append_assoc, arith, sym, ap, ◌∙◌}
use Rattle.std.specs.Vec.Iter.{into_iter_items}
use Rattle.hub_server.specs.Endings.{or_else}
use Rattle.hub_server.specs.Serving.{acceptors_of, ending_in, folders_of}
use Rattle.hub_server.proofs.JobLists.{acceptors_of-more, ending-more, folders_of-more}
use Rattle.hub_server.proofs.server.results_of.Goals as goal

pub loop-end-preserved : goal.loop-end-preserved
loop-end-preserved g c =
    let at = c.loop-end in
    let end = c.in-Some.end in
    let steps : into_iter_items at.end-iterator ≡ end ∷ into_iter_items c.next.new.self = c.in-Some.ensures.steps.0 in
    record {
      whole = append_assoc at.yielded (end ∷ []) (into_iter_items c.next.new.self) ∙ rw (← steps) at.invariant.whole;
      left =
          let was = at.invariant.left in
          let gone = c.in-Some.ensures.steps.1 in
          let short = ap length steps in
          omega arith;
      ending = c.in_ok-put_back.ensures.ending ∙ ap (λ e. or_else e (ending_in end)) at.invariant.ending ∙ sym (ending-more at.yielded end);
      acceptors = c.in_ok-put_back.ensures.acceptors ∙ ap (λ xs. xs ++ acceptors_of (end ∷ [])) at.invariant.acceptors ∙ sym (acceptors_of-more at.yielded end);
      folders = c.in_ok-put_back.ensures.folders ∙ ap (λ xs. xs ++ folders_of (end ∷ [])) at.invariant.folders ∙ sym (folders_of-more at.yielded end);
    }
