use Rattle.std.proofs.Common.{List, ap, subst}
use mathlib.Core.List.{IsPrefix}
use Rattle.hub_history.specs.declared.entry.Entry.{Entry}
use Rattle.hub_history.proofs.Fronts.{prefix_by_length}
use Rattle.hub_history.proofs.history.Front.begins.Goals as goal

pub returns : goal.returns
returns g c =
    let both = c.learn.new.self.log in
    let this : IsPrefix c.self.inside.seen.log both = subst (λ (l : List Entry). IsPrefix l both) (ap (λ s. s.log) c.again-both.ensures) c.learn.ensures.2 in
    rw (← c.self.view_is, ← c.other.view_is)
    (prefix_by_length c.self.inside.seen.log c.other.inside.seen.log both c.self.inside.count c.other.inside.count c.self.invariant.0 c.other.invariant.0 this c.learn.ensures.3)
