-- What is told after a run over a database.
use Rattle.std.proofs.Common.{Bool}
use Rattle.sqlite.specs.State.{State}
use Rattle.item_maps.specs.Items.{Items}
use Rattle.item_store.specs.Stands.{StandsFor}
use Rattle.keeper_sqlite.proofs.HoldingLemmas.{stored_tells, trusted_still}
use Rattle.keeper_sqlite.specs.Trust.{IsQuiet, IsTrusted, MayHold, shown_by}
use Rattle.keeper_sqlite.specs.hub.Keeping.{Stay}
use Rattle.keeper_sqlite.specs.hub.Telling.{KeepSome, StillKeep, Tells}

-- while the disk gives no cause against it something is told after a run, too
pub told_after : {X : Type 0} (keep : Items → X → Type 0) (at_first was now : State) (lost : Bool) → KeepSome keep (StandsFor at_first) → IsTrusted was → IsQuiet was now → Stay (shown_by now) (shown_by was)
    → StillKeep keep (StandsFor at_first) (StandsFor now) (IsTrusted now) → (state : X) × Tells keep (StandsFor at_first) (MayHold now lost) state
told_after keep at_first was now lost first trusted quiet signs keeps =
    let sure = trusted_still was now trusted quiet signs in
    stored_tells keep (StandsFor at_first) now lost first sure (keeps first sure)

-- and what leads to each that is told leads to that one
pub both_told : {X : Type 0} {stood stands : X → Type 0} {leads : X → X → Type 0} → (state : X) × stands state → ((after : X) → stands after → (before : X) × stood before × leads before after)
    → (before : X) × (after : X) × stood before × stands after × leads before after
both_told (after, tells) found = let (before, was, led) = found after tells in (before, after, was, tells, led)
