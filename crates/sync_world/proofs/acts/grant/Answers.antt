use Rattle.std.proofs.Common.{arith, refl}
use Rattle.hub_spec.specs.rules.Runs.{SetGrants}
use Rattle.sync_world.proofs.DoneLemmas.{if_done, made_acts}
use Rattle.sync_world.proofs.WalkLemmas.{walk_makes}
use Rattle.sync_world.specs.Acts.{IsAct}
use Rattle.sync_world.specs.declared.acts.HubAct.TheVariants as act
use Rattle.sync_world.specs.declared.acts.Saying.TheVariants as saying
use Rattle.sync_world.proofs.acts.grant.Goals as goal

pub returns-then-is_out_of_memory-clause-walks : goal.returns-then-is_out_of_memory-clause-walks
returns-then-is_out_of_memory-clause-walks c = walk_makes (SetGrants c.args.list c.args.at) c.set_grants-answer.result c.args.world.now c.set_grants-answer.new.self (omega (arith, c.faults.ensures.faults)) c.set_grants-answer.ensures

pub returns-clause-walks : goal.returns-clause-walks
returns-clause-walks c = walk_makes (SetGrants c.args.list c.args.at) c.set_grants-answer.result c.args.world.now c.set_grants-answer.new.self (omega (arith, c.faults.ensures.faults)) c.set_grants-answer.ensures

pub returns-clause-acted : goal.returns-clause-acted
returns-clause-acted c =
    if_done c.say.result
    (λ told. made_acts (IsAct (act.Grant c.args.list) c.args.at) (SetGrants c.args.list c.args.at) c.set_grants-answer.result c.args.world.now c.set_grants-answer.new.self c.args.said.now.items c.say.new.said.items (saying.Granted c.set_grants-answer.result) (omega (arith, c.faults.ensures.faults))
    c.set_grants-answer.ensures (λ answer state is. (c.set_grants-answer.result, answer, state, is, refl)) told) c.say.ensures
