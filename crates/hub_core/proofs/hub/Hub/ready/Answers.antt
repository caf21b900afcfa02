use Rattle.std.proofs.Common.{◌∙◌, inl, sym, subst}
use Rattle.keeper_memory.specs.Kept.{IsKept, kept_by}
use Rattle.hub_core.proofs.HubLemmas.{IsKept-taken_in, can_last, reloaded}
use Rattle.hub_core.specs.Hub.{held_of, kept_in}
use Rattle.hub_core.specs.Made.{has_commit}
use Rattle.hub_core.proofs.hub.Hub.ready.Goals as goal

pub invariant_of-self-2 : goal.invariant_of-self-2
invariant_of-self-2 g c =
    let hub = c.self.inside in
    let kept = kept_in hub.table hub.marks.marks in
    let last = c.in-Some.last in
    let can = can_last kept hub.last last (c.self.invariant.left_open c.if-not-self.false) c.in-Some.is in
    record {
      kept = subst IsKept (sym c.in_ok-take_in_made.ensures.ok) (IsKept-taken_in (has_commit (kept_by c.in_ok-tables.tables) last) kept last can c.self.invariant.kept);
      left_open = λ left. cc;
      sound = λ known. cc;
    }

pub returns-clause-fits : goal.returns-clause-fits
returns-clause-fits g c = λ k stands.
    let hub = c.self.inside in
    let kept = kept_in hub.table hub.marks.marks in
    let last = c.in-Some.last in
    let can = can_last kept hub.last last (c.self.invariant.left_open c.if-not-self.false) c.in-Some.is in
    let fits = rw (← c.self.view_is) at (c.requires k (c.load.ensures.same k stands)) in
    inl (reloaded (held_of hub) last (kept_by c.in_ok-tables.tables) c.in-Some.is can k fits (c.in_ok-tables.ensures.shown k stands) ∙ sym c.in_ok-take_in_made.ensures.ok)
