use Rattle.std.proofs.Common.{◌≡◌, ◌++◌, ◌∷◌, [], length, append_assoc, arith, ap, ◌∙◌}
use Rattle.std.specs.Vec.Iter.{into_iter_items}
use Rattle.hub_server.specs.Serving.{acceptors_in, feeds_in, folders_in}
use Rattle.hub_server.proofs.JobLists.{acceptors-acceptor, feeds-acceptor, folders-acceptor}
use Rattle.hub_server.proofs.server.add_acceptors.Goals as goal

pub loop-acceptor-preserved : goal.loop-acceptor-preserved
loop-acceptor-preserved g c =
    let at = c.loop-acceptor in
    let acceptor = c.in-Some.acceptor in
    let steps : into_iter_items at.acceptor-iterator ≡ acceptor ∷ into_iter_items c.next.new.self = c.in-Some.ensures.steps.0 in
    let pushed = c.in_ok-push.ensures.items in
    record {
      whole = append_assoc at.yielded (acceptor ∷ []) (into_iter_items c.next.new.self) ∙ rw (← steps) at.invariant.whole;
      left =
          let was = at.invariant.left in
          let gone = c.in-Some.ensures.steps.1 in
          let short = ap length steps in
          omega arith;
      feeds = ap feeds_in pushed ∙ feeds-acceptor at.jobs.items _ ∙ at.invariant.feeds;
      folders = ap folders_in pushed ∙ folders-acceptor at.jobs.items _ ∙ at.invariant.folders;
      acceptors = ap acceptors_in pushed ∙ acceptors-acceptor at.jobs.items _ ∙ ap (λ xs. xs ++ acceptor ∷ []) at.invariant.acceptors;
    }
