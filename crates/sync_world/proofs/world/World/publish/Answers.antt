use Rattle.version_changes.specs.sets.Applying.{Applies, Outcome}
use Rattle.version_core.specs.declared.change.BaseVersion.{BaseVersion}
use Rattle.keeper_memory.specs.Calls.{calls_on}
use Rattle.hub_spec.specs.rules.Runs.{Command, Publish}
use Rattle.sync_world.proofs.ActLemmas.{Came, IsMaking, called_came, held_failed, publishing, told_makes}
use Rattle.sync_world.specs.Worlds.{whole_state}
use Rattle.sync_world.proofs.world.World.publish.Goals.{After-hold_oldest, After-publish}
use Rattle.sync_world.proofs.world.World.publish.Goals as goal

-- what is asked for
module _ (c : After-hold_oldest) where
  abbrev command : Command
  command = Publish c.args.set c.args.at

  abbrev asks : BaseVersion → Outcome → Type 0
  asks version = Applies version c.args.set c.args.at

  making : IsMaking command asks
  making = publishing c.args.set c.args.at (c.milliseconds.ensures.range, c.read_set.ensures)

-- what became of the state once the oldest version was held
module _ (c : After-publish) where
  abbrev here : After-hold_oldest
  here = (goal.at.After-publish c).After-hold_oldest

  came : Came (command here) c.publish.result (whole_state c.self.inside.gone.items c.self.inside.keeper.kept)
      c.hold_oldest.new.gone.items c.publish.new.keeper.kept c.self.inside.keeper.plan.faults
      c.publish.new.keeper.plan.faults
  came = called_came (making here) c.self.invariant.whole c.publish.ensures.fits c.publish.ensures.told c.in-Ok.ensures.kept c.in-Ok.ensures.ok
      c.in-Ok.ensures.cause c.publish.ensures.cause

pub invariant_of-self : goal.invariant_of-self
invariant_of-self c =
    let here = (goal.at.invariant_of-self c).After-publish in
    record { whole = (came here).whole; fits = c.publish.ensures.fits }

pub returns-in-Ok : goal.returns-in-Ok
returns-in-Ok c =
    let done = came (goal.at.returns-in-Ok c).After-publish in
    let calls = calls_on _ _ _ c.in-Ok.ensures.calls c.publish.ensures.leads in
    rw (← c.self.view_is) (told_makes done.told calls)

pub returns-in-Err : goal.returns-in-Err
returns-in-Err c =
    let here = (goal.at.returns-in-Err c).After-hold_oldest in
    let world = c.self.inside in
    let held = c.hold_oldest.new in
    let told = held_failed (command here) (asks here) (making here) world.gone.items
    world.keeper.kept c.self.invariant.whole world.keeper.plan.faults held.keeper.plan.faults c.in-Err.error
    c.from.result held.gone.items held.keeper.kept c.from.ensures c.in-Err.ensures.err c.in-Err.ensures.kept
    c.in-Err.ensures.cause in
    rw (← c.self.view_is) (told_makes told c.in-Err.ensures.calls)
