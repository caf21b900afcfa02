use Rattle.std.proofs.Common.{◌∙◌, Err, ap}
use Rattle.hub_core.specs.Steps.{MakesNext}
use Rattle.version_changes.specs.sets.Applying.{Applies}
use Rattle.version_core.specs.declared.change.BaseVersion.{BaseVersion}
use Rattle.hub_core.specs.declared.hub_error.HubError.TheVariants as error
use Rattle.hub_history.specs.Published.{Published}
use Rattle.hub_shared.proofs.Calls.{receipt_says}
use Rattle.hub_shared.proofs.shared.SharedHub.publish.Goals as goal

pub returns-clause-receipted : goal.returns-clause-receipted
returns-clause-receipted g c = receipt_says (MakesNext (λ (version : BaseVersion). Applies version c.args.set c.args.at)) (Err error.Keeper) (Err error.NoMemory) g.N.Naming.opening _ _ _ _ c.publish.result.0 c.publish.result.1 c.publish.ensures.worked.2 c.publish.ensures.receipt

pub returns-clause-keeper : goal.returns-clause-keeper
returns-clause-keeper g c = λ is. let failed = c.publish.ensures.keeper is in (_, c.publish.ensures.receipt ∙ ap (λ (l : Published). l.published) failed.2)
