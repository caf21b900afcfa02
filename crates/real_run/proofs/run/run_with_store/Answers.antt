use Rattle.std.proofs.Common.{ap}
use Rattle.real_run.proofs.RealLemmas.{real-stored, runs-as}
use Rattle.real_run.proofs.run.run_with_store.Goals as goal

pub returns : goal.returns
returns g c =
    runs-as
    (λ a from. real-stored a c.requires (λ same. ap g.C.CopyKeeper.fault_count same) from)
    c.run_over_keepers.ensures
