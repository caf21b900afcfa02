use Rattle.real_run.proofs.RealLemmas.{real-silent, runs-as}
use Rattle.real_run.proofs.run.run_over_keepers.Goals as goal

pub returns-in-None : goal.returns-in-None
returns-in-None g c = runs-as (λ a from. real-silent a from) c.run_over_link.ensures

pub returns-in-Some : goal.returns-in-Some
returns-in-Some g c = runs-as (λ a from. real-silent a from) c.run_over_link-status.ensures
