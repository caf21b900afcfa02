use Rattle.std.proofs.Common.{ap, arith, sym, ◌∙◌}
use Rattle.std.specs.Prelude.{option_copied}
use Rattle.sync_world.proofs.TrafficLemmas.{not_taken, taken_again}
use Rattle.sync_world.proofs.WalkLemmas.{walk_take}
use Rattle.sync_world.proofs.traffic.take_again.Goals as goal

pub returns-in-Some-clause-walks : goal.returns-in-Some-clause-walks
returns-in-Some-clause-walks c = walk_take c.in-Some.request.now c.args.at c.take.result c.args.world.now c.take.new.self (omega (arith, c.faults.ensures.faults)) c.take.ensures.step c.take.ensures.calls

pub returns-in-Some-clause-acted : goal.returns-in-Some-clause-acted
returns-in-Some-clause-acted c said =
    taken_again c.args.at _ c.in-Some.request.now c.take.result c.args.world.now c.take.new.self said (omega (arith, c.faults.ensures.faults)) (sym c.request_at.ensures ∙ ap option_copied c.in-Some.is) c.take.ensures.step c.take.ensures.calls

pub returns-in-None-clause-acted : goal.returns-in-None-clause-acted
returns-in-None-clause-acted c said = not_taken c.args.at _ c.args.world.now said (sym c.request_at.ensures ∙ ap option_copied c.in-None.is)
