use Rattle.std.proofs.Common.{Err}
use Rattle.hub_core.specs.Steps.{MakesNext}
use Rattle.hub_core.specs.declared.hub_error.HubError.TheVariants as error
use Rattle.version_changes.specs.grants.Granting.{GrantsMake}
use Rattle.version_core.specs.declared.change.BaseVersion.{BaseVersion}
use Rattle.hub_shared.proofs.Calls.{worked_asked, worked_failed}
use Rattle.hub_shared.proofs.locked.LockedHub.set_grants.Goals as goal

pub returns-clause-worked : goal.returns-clause-worked
returns-clause-worked g c =
    let old = c.args.self.now in
    let new = c.carry_out-done.new.self in
    worked_asked (MakesNext (λ (version : BaseVersion). GrantsMake version c.args.list.now c.args.at)) (Err error.Keeper) (Err error.NoMemory) g.N.Naming.opening old.log new.log old.hub (g.H.HubKeeper.fault_count old.keeper) (g.H.HubKeeper.fault_count new.keeper) c.publication_answer.result (rw c.publication_answer.ensures c.carry_out-done.ensures.worked)

pub returns-clause-keeper : goal.returns-clause-keeper
returns-clause-keeper g c = λ is.
    let old = c.args.self.now in
    let new = c.carry_out-done.new.self in
    worked_failed (MakesNext (λ (version : BaseVersion). GrantsMake version c.args.list.now c.args.at)) (Err error.Keeper) (Err error.NoMemory) g.N.Naming.opening old.log new.log old.hub (g.H.HubKeeper.fault_count old.keeper) (g.H.HubKeeper.fault_count new.keeper) c.publication_answer.result (λ same. cc (same)) is (rw c.publication_answer.ensures c.carry_out-done.ensures.worked)
