use Rattle.std.proofs.Common.{◌∙◌, ap, sym}
use Rattle.hub_core.specs.declared.hub_error.HubError.TheVariants as error
use Rattle.hub_shared.specs.Reloads.{answer_of}
use Rattle.hub_shared.specs.Standings.{published_of}
use Rattle.hub_shared.proofs.Calls.{worked_along}
use Rattle.hub_shared.proofs.locked.LockedHub.carry_out.Goals as goal

pub returns-clause-worked : goal.returns-clause-worked
returns-clause-worked g c =
    let old = c.self.view_is in
    let fails = g.W.Work.fails c.args.work in
    worked_along (g.W.Work.asks c.args.work) (fails error.Keeper) (fails error.NoMemory) g.N.Naming.opening _ (answer_of fails c.carry_out-publisher.result.1)
    (sym (ap (λ v. v.log) old) ∙ ap published_of c.take-publisher.ensures.taken) (ap published_of c.put.ensures) (sym (ap (λ v. v.hub) old)) (sym (ap (λ v. g.H.HubKeeper.fault_count v.keeper) old)) c.carry_out-publisher.ensures.worked
