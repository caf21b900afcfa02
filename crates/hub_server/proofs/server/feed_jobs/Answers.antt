use Rattle.std.proofs.Common.{rules, ◌≡◌, ◌++◌, ◌∷◌, [], length, length-append, append_assoc, arith, ap, ◌∙◌}
use Rattle.std.specs.Vec.Iter.{into_iter_items}
use Rattle.hub_server.specs.Serving.{acceptors_in, feeds_in, folders_in}
use Rattle.hub_server.proofs.JobLists.{acceptors-feed, feeds-feed, folders-feed}
use Rattle.hub_server.proofs.server.feed_jobs.Goals as goal

pub loop-feed-preserved : goal.loop-feed-preserved
loop-feed-preserved g c =
    let at = c.loop-feed in
    let feed = c.in-Some.feed in
    let folder = c.in-Some-next.folder in
    let left = into_iter_items c.next-in-loop-feed.new.self in
    let steps : into_iter_items at.feed-iterator ≡ feed ∷ into_iter_items c.next.new.self = c.in-Some.ensures.steps.0 in
    let taken : into_iter_items at.folders ≡ folder ∷ left = search rules in
    let pushed = c.in_ok-push.ensures.items in
    let more : folders_in c.push.new.self.items ≡ folders_in at.jobs.items ++ folder ∷ [] = ap folders_in pushed ∙ folders-feed at.jobs.items _ in
    record {
      whole = append_assoc at.yielded (feed ∷ []) (into_iter_items c.next.new.self) ∙ rw (← steps) at.invariant.whole;
      left =
          let was = at.invariant.left in
          let gone = c.in-Some.ensures.steps.1 in
          let short = ap length steps in
          omega arith;
      feeds = ap feeds_in pushed ∙ feeds-feed at.jobs.items _ ∙ ap (λ fs. fs ++ feed ∷ []) at.invariant.feeds;
      folders = ap (λ fs. fs ++ left) more ∙ append_assoc (folders_in at.jobs.items) (folder ∷ []) left ∙ rw (← taken) at.invariant.folders;
      even =
          let was = at.invariant.even in
          let long = ap length more in
          omega (arith, length-append (folders_in at.jobs.items) (folder ∷ []), length-append at.yielded (feed ∷ []));
      acceptors = ap acceptors_in pushed ∙ acceptors-feed at.jobs.items _ ∙ at.invariant.acceptors;
    }
