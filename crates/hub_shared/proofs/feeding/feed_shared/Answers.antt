use Rattle.std.proofs.Common.{◌∙◌, Err, Result, refl, subst}
use Rattle.hub_core.specs.Steps.{MakesNext}
use Rattle.hub_core.specs.declared.hub_error.HubError.{HubError}
use Rattle.hub_core.specs.declared.hub_error.HubError.TheVariants as error
use Rattle.hub_core.specs.declared.published.Published.{Published}
use Rattle.version_changes.specs.sets.Applying.{Applies}
use Rattle.version_core.specs.declared.change.BaseVersion.{BaseVersion}
use Rattle.hub_shared.specs.Standings.{Receipted}
use Rattle.hub_shared.proofs.feeding.feed_shared.Goals as goal

pub returns-in-Ok-published-clause-fed : goal.returns-in-Ok-published-clause-fed
returns-in-Ok-published-clause-fed g c = (
  c.in-Ok.set,
  c.publish-published.result.1,
  c.in-Ok.ensures.set,
  refl,
  (
    c.moment_of.result,
    c.moment_of.ensures,
    subst (λ (r : Result Published HubError). Receipted (MakesNext (λ (version : BaseVersion). Applies version c.in-Ok.set c.moment_of.result)) (Err error.Keeper) (Err error.NoMemory) g.N.Naming.opening r c.publish-published.result.1) c.in-Ok-published.is c.publish-published.ensures.receipted,
    λ is. absurd (cc (is)),
  ),
)

pub returns-in-Err-published-clause-fed : goal.returns-in-Err-published-clause-fed
returns-in-Err-published-clause-fed g c = (
  c.in-Ok.set,
  c.publish-published.result.1,
  c.in-Ok.ensures.set,
  refl,
  (
    c.moment_of.result,
    c.moment_of.ensures,
    subst (λ (r : Result Published HubError). Receipted (MakesNext (λ (version : BaseVersion). Applies version c.in-Ok.set c.moment_of.result)) (Err error.Keeper) (Err error.NoMemory) g.N.Naming.opening r c.publish-published.result.1) c.in-Err-published.is c.publish-published.ensures.receipted,
    λ is. c.publish-published.ensures.keeper (c.in-Err-published.is ∙ is),
  ),
)
