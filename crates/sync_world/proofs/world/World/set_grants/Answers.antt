use Rattle.version_changes.specs.sets.Applying.{Outcome}
use Rattle.version_core.specs.declared.change.BaseVersion.{BaseVersion}
use Rattle.keeper_memory.specs.Calls.{calls_on}
use Rattle.hub_spec.specs.rules.Runs.{Command, SetGrants}
use Rattle.version_changes.specs.grants.Granting.{GrantsMake}
use Rattle.sync_world.proofs.ActLemmas.{Came, IsMaking, called_came, granting, held_failed, told_makes}
use Rattle.sync_world.specs.Worlds.{whole_state}
use Rattle.sync_world.proofs.world.World.set_grants.Goals.{After-hold_oldest, After-set_grants}
use Rattle.sync_world.proofs.world.World.set_grants.Goals as goal

-- what is asked for
module _ (c : After-hold_oldest) where
  abbrev command : Command
  command = SetGrants c.args.list.now c.args.at

  abbrev asks : BaseVersion → Outcome → Type 0
  asks version = GrantsMake version c.args.list.now c.args.at

  making : IsMaking command asks
  making = granting c.args.list.now c.args.at (c.milliseconds.ensures.range, c.entries.ensures.differ)

-- what became of the state once the oldest version was held
module _ (c : After-set_grants) where
  abbrev here : After-hold_oldest
  here = (goal.at.After-set_grants c).After-hold_oldest

  came : Came (command here) c.set_grants.result (whole_state c.self.inside.gone.items c.self.inside.keeper.kept)
      c.hold_oldest.new.gone.items c.set_grants.new.keeper.kept c.self.inside.keeper.plan.faults
      c.set_grants.new.keeper.plan.faults
  came = called_came (making here) c.self.invariant.whole c.set_grants.ensures.fits c.set_grants.ensures.told c.in-Ok.ensures.kept c.in-Ok.ensures.ok
      c.in-Ok.ensures.cause c.set_grants.ensures.cause

pub invariant_of-self : goal.invariant_of-self
invariant_of-self c =
    let here = (goal.at.invariant_of-self c).After-set_grants in
    record { whole = (came here).whole; fits = c.set_grants.ensures.fits }

pub returns-in-Ok : goal.returns-in-Ok
returns-in-Ok c =
    let done = came (goal.at.returns-in-Ok c).After-set_grants in
    let calls = calls_on _ _ _ c.in-Ok.ensures.calls c.set_grants.ensures.leads in
    rw (← c.self.view_is) (told_makes done.told calls)

pub returns-in-Err : goal.returns-in-Err
returns-in-Err c =
    let here = (goal.at.returns-in-Err c).After-hold_oldest in
    let world = c.self.inside in
    let held = c.hold_oldest.new in
    let told = held_failed (command here) (asks here) (making here) world.gone.items
    world.keeper.kept c.self.invariant.whole world.keeper.plan.faults held.keeper.plan.faults c.in-Err.error
    c.from.result held.gone.items held.keeper.kept c.from.ensures c.in-Err.ensures.err c.in-Err.ensures.kept
    c.in-Err.ensures.cause in
    rw (← c.self.view_is) (told_makes told c.in-Err.ensures.calls)
