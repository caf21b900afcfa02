use Rattle.hub_cli.proofs.Answering.{leads-bad, leads-words}
use Rattle.real_run.proofs.RealLemmas.{runs-written}
use Rattle.real_run.proofs.run.run_over_link.Goals as goal

pub returns : goal.returns
returns g c =
    runs-written
    (λ a leads. record { folder = _; keeper = _; leads = leads })
    (λ a leads. leads-words _ _ _ _ a leads)
    (λ a leads. leads-bad _ _ _ _ a leads)
    c.run_spelled.ensures
