use Rattle.std.proofs.Common.{arith, refl}
use Rattle.hub_spec.specs.rules.Runs.{Publish}
use Rattle.sync_world.proofs.DoneLemmas.{if_done, made_acts}
use Rattle.sync_world.proofs.WalkLemmas.{walk_makes}
use Rattle.sync_world.specs.Acts.{IsAct}
use Rattle.sync_world.specs.declared.acts.HubAct.TheVariants as act
use Rattle.sync_world.specs.declared.acts.Saying.TheVariants as saying
use Rattle.sync_world.proofs.acts.set.Goals as goal

pub returns-then-is_out_of_memory-clause-walks : goal.returns-then-is_out_of_memory-clause-walks
returns-then-is_out_of_memory-clause-walks c = walk_makes (Publish c.args.set c.args.at) c.publish-answer.result c.args.world.now c.publish-answer.new.self (omega (arith, c.faults.ensures.faults)) c.publish-answer.ensures

pub returns-clause-walks : goal.returns-clause-walks
returns-clause-walks c = walk_makes (Publish c.args.set c.args.at) c.publish-answer.result c.args.world.now c.publish-answer.new.self (omega (arith, c.faults.ensures.faults)) c.publish-answer.ensures

pub returns-clause-acted : goal.returns-clause-acted
returns-clause-acted c =
    if_done c.say.result
    (λ told. made_acts (IsAct (act.Set c.args.name c.args.set) c.args.at) (Publish c.args.set c.args.at) c.publish-answer.result c.args.world.now c.publish-answer.new.self c.args.said.now.items c.say.new.said.items (saying.Published c.args.name c.publish-answer.result) (omega (arith, c.faults.ensures.faults))
    c.publish-answer.ensures (λ answer state is. (c.publish-answer.result, answer, state, is, refl)) told) c.say.ensures
