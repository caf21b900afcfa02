use Rattle.std.proofs.Common.{◌≡◌, ◌∙◌, false, sym, ap, subst}
use Rattle.keeper_memory.specs.Commits.{with_commit}
use Rattle.keeper_memory.specs.Kept.{IsKept, KeptState}
use Rattle.keeper_memory.proofs.CommitLemmas.{IsKept-with_commit}
use Rattle.hub_core.proofs.HubLemmas.{stays}
use Rattle.hub_core.specs.Hub.{kept_in}
use Rattle.hub_core.proofs.hub.Hub.install.Goals as goal

pub invariant_of-self-in-Ok : goal.invariant_of-self-in-Ok
invariant_of-self-in-Ok g c =
    let hub = c.self.inside in
    let kept = kept_in hub.table hub.marks.marks in
    let commit = c.args.commit in
    let can = rw (← c.self.view_is) at c.requires.can in
    let closed = rw (← c.self.view_is) at c.requires.settled in
    let same = stays hub.table c.make_room.new.table hub.marks c.make_room.new.marks c.make_room.ensures.same in
    let taken : kept_in c.take_in.new.table c.take_in.new.marks.marks ≡ with_commit kept commit = c.take_in.ensures ∙ ap (λ (k : KeptState). with_commit k commit) same in
    record {
      kept = subst IsKept (sym taken) (IsKept-with_commit kept commit can c.self.invariant.kept);
      left_open = λ left. let shut : hub.commit_open ≡ false = closed in cc;
      sound = λ known. cc;
    }
