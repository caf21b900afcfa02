use Rattle.std.proofs.Common.{◌≡◌, Err, arith, subst}
use Rattle.hub_core.specs.Steps.{CountsFault}
use Rattle.hub_core.specs.declared.hub_error.HubError.{HubError}
use Rattle.hub_core.specs.declared.hub_error.HubError.TheVariants as error
use Rattle.sync_world.proofs.DoneLemmas.{if_done, not_opened, opened}
use Rattle.sync_world.proofs.WalkLemmas.{walk_reopens}
use Rattle.sync_world.proofs.acts.restart.Goals as goal

pub returns-in-Ok-clause-acted : goal.returns-in-Ok-clause-acted
returns-in-Ok-clause-acted c at = opened at c.args.world.now c.reopen.new.self c.args.said.now.items (omega (arith, c.faults.ensures.faults)) c.reopen.ensures.state c.in-Ok.ensures.cause c.reopen.ensures.calls

pub returns-in-Err-Keeper-clause-acted : goal.returns-in-Err-Keeper-clause-acted
returns-in-Err-Keeper-clause-acted c at =
    let is : c.in-Err-Keeper.field-0 ≡ error.Keeper = cc in
    if_done c.say.result (λ told. not_opened at c.args.world.now c.reopen.new.self c.args.said.now.items c.say.new.said.items (omega (arith, c.faults.ensures.faults)) c.reopen.ensures.state (subst (λ (e : HubError). CountsFault {T = Unit {0}} c.args.world.now.faults c.reopen.new.self.faults (Err e)) is c.in-Err-Keeper.ensures.cause) c.reopen.ensures.calls told) c.say.ensures

pub returns-in-Err : goal.returns-in-Err
returns-in-Err c = record {
  walks = walk_reopens c.reopen.result c.args.world.now c.reopen.new.self (omega (arith, c.faults.ensures.faults)) c.reopen.ensures.state c.reopen.ensures.cause c.reopen.ensures.refused c.reopen.ensures.calls;
  acted = λ at. tt;
}
