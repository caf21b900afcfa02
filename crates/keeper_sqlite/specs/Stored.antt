-- What the keepers over a database tell: of the connection as it is now, and as it was handed in.
use Rattle.std.specs.Prelude.{Bool, ℕ}
use Rattle.sqlite.specs.State.{State}
use Rattle.item_maps.specs.Items.{Items}
use Rattle.item_store.specs.Stands.{StandsFor}
use Rattle.keeper_memory.specs.Kept.{KeptState}
use Rattle.keeper_memory.specs.copy.Copies.{Copy}
use Rattle.keeper_sqlite.specs.Trust.{IsTrusted, MayHold}
use Rattle.keeper_sqlite.specs.copy.Keeping as copy
use Rattle.keeper_sqlite.specs.hub.Keeping as hub
use Rattle.keeper_sqlite.specs.hub.Telling.{KeepSome, Tells}

-- The premise on a store: what was handed in was new or a keeper's own, and its disk has given back what was written
-- and still answers.
abbrev pub IsSound : {X : Type 0} → (Items → X → Type 0) → State → State → Type 0
IsSound keep at_first now = KeepSome keep (StandsFor at_first) × IsTrusted now

abbrev pub HubStands : ℕ → State → State → Bool → KeptState → Type 0
HubStands keep at_first now lost = Tells (hub.KeepOrNew keep) (StandsFor at_first) (MayHold now lost)

abbrev pub CopyStands : State → State → Bool → Copy → Type 0
CopyStands at_first now lost = Tells copy.KeepOrNew (StandsFor at_first) (MayHold now lost)
