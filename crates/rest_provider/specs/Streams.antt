-- How a stream of requests is served by a hub.
use Rattle.std.specs.Prelude.{ℕ, ℤ, List, Option}
use Rattle.hub_core.specs.Standing.{HeldHub, StandsFrom}
use Rattle.keeper_memory.specs.Kept.{KeptState}
use Rattle.rest_provider.specs.Ends.{Ends, EndsBy}
use Rattle.rest_provider.specs.Exchanges.{AreAt, CountsFailures, Exchange, TakesAll, replies_text, requests_of}
use Rattle.rest_provider.specs.declared.stream_end.StreamEnd.{StreamEnd}

-- what a stream is served with, before a call or after it: its ends, what the keeper stands for, the keeper's faults,
-- and what the hub holds
pub record Stage : Type 1 where
  pub ends : Ends
  pub stands : KeptState → Type 0
  pub keeper_faults : ℕ
  pub hub : HeldHub

-- the stage, put together
abbrev pub stage_of : Ends → (KeptState → Type 0) → ℕ → HeldHub → Stage
stage_of ends stands keeper_faults hub = record { ends = ends; stands = stands; keeper_faults = keeper_faults; hub = hub }

-- each state that may stand now comes of one that may have stood before, and for which the keeper stood if it stands
-- for the other
abbrev pub ComesFrom : Stage → Stage → (KeptState → KeptState → Type 0) → Type 0
ComesFrom before now leads = StandsFrom before.stands now.stands before.hub now.hub leads

-- what was made of a stream: its requests were taken in turn at the clock's moments by a run of the hub, with their
-- replies, and the keeper's count rose with each failure in it
pub record Serves (before now : Stage) (moment : Option ℤ) (result : StreamEnd) : Type 0 where
  pub exchanges : List Exchange
  pub moments : AreAt moment exchanges
  pub failed : ℕ
  pub count : CountsFailures before.keeper_faults now.keeper_faults failed
  pub told : ComesFrom before now (TakesAll exchanges failed)
  pub ends : EndsBy before.ends now.ends (requests_of exchanges) (replies_text exchanges) result
