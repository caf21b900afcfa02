use Rattle.std.proofs.Common.{subst, sym}
use Rattle.sync_world.specs.Acts.{Acted}
use Rattle.sync_world.specs.Happenings.{IsHappening}
use Rattle.sync_world.specs.declared.traffic.Happening.{Happening}
use Rattle.sync_world.proofs.traffic.happen.Goals as goal

pub returns-in-Late-clause-acted : goal.returns-in-Late-clause-acted
returns-in-Late-clause-acted c =
    subst (λ (h : Happening). Acted (IsHappening c.args.past.now c.args.at h) c.args.world.now c.take_again.new.world c.args.said.now.items c.args.said.now.items) (sym c.in-Late.is) (c.take_again.ensures.acted c.args.said.now.items)
