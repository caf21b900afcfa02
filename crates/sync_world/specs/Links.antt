-- What a link to a world holds and tells.
use Rattle.std.specs.Prelude.{ℕ, ℤ, Bool, false, List, [], ◌∷◌, ◌++◌, nat_lt, if◌then◌else◌}
use Rattle.exchange_link.specs.Exchanges.{LinkState}
use Rattle.keeper_memory.specs.Failures.{FailurePlan, with_listed}
use Rattle.status_info.specs.declared.request.Request.{Request}
use Rattle.version_core.specs.HubStates.{HubState}
use Rattle.sync_world.specs.Given.{AreGiven, requests_in}
use Rattle.sync_world.specs.Worlds.{HeldWorld}
use Rattle.sync_world.specs.declared.acts.Saying.{Saying}
use Rattle.sync_world.specs.declared.past.Past.{Past}
use Rattle.sync_world.specs.declared.traffic.Event.{Event}
use Rattle.sync_world.specs.declared.traffic.Fate.{Fate}
use Rattle.sync_world.specs.declared.traffic.Happening.{Happening}
use Rattle.sync_world.specs.declared.traffic.Planned.{Planned}
use Rattle.sync_world.specs.declared.world_link.WorldLink.TheInside.{Inside}

-- of the hub its state, the count of its keeper's faults, and the calls that the keeper has met and those that are to
-- fail; the clock; the requests that were handed to the link, the newest first; the answer that is kept; how many
-- exchanges were made, how many in a row up to the last one had a fault, and how many had one in all; the exchanges
-- that were made, the oldest first; what is planned for exchanges, and what is to become of them; what is told of what
-- others did; and whether an exchange wanted memory
pub record HeldLink : Type 0 where
  pub hub : HubState
  pub hub_faults : ℕ
  pub plan : FailurePlan
  pub clock : ℤ
  pub sent : List Request
  pub kept : List ℕ
  pub asked : ℕ
  pub missed : ℕ
  pub faults : ℕ
  pub past : List Past
  pub events : List Event
  pub fates : List Planned
  pub said : List Saying
  pub wanted : Bool

-- what a clause sees of a link
abbrev pub link_in : Inside → HeldLink
link_in link = record {
  hub = link.world.state;
  hub_faults = link.world.faults;
  plan = link.world.plan;
  clock = link.at;
  sent = requests_in link.past.items;
  kept = link.kept.items;
  asked = link.tally.asked;
  missed = link.tally.missed;
  faults = link.tally.faults;
  past = link.past.items;
  events = link.events.items;
  fates = link.fates.items;
  said = link.said.items;
  wanted = link.wanted;
}

-- each reply of the past is one to a request that was sent
abbrev pub IsLink : Inside → Type 0
IsLink link = AreGiven link.past.items

-- nothing was sent yet, and nothing is planned
abbrev pub fresh_link : ℤ → HubState → ℕ → FailurePlan → HeldLink
fresh_link clock hub hub_faults plan =
    record { hub = hub; hub_faults = hub_faults; plan = plan; clock = clock; sent = []; kept = []; asked = 0; missed = 0; faults = 0; past = []; events = []; fates = []; said = []; wanted = false }

-- what a world tells beside the requests that were sent
abbrev pub world_state : List Request → HeldWorld → LinkState
world_state sent world = record { hub = world.state; sent = sent; hub_faults = world.faults }

-- what a link tells
abbrev pub link_state : HeldLink → LinkState
link_state link = record { hub = link.hub; sent = link.sent; hub_faults = link.hub_faults }

-- the world of a link
abbrev pub world_of : HeldLink → HeldWorld
world_of link = record { state = link.hub; faults = link.hub_faults; plan = link.plan }

-- ---- what is planned

-- something is to happen just before an exchange, unless that has passed
abbrev pub with_event : ℕ → Happening → HeldLink → HeldLink
with_event exchange happening link =
    if nat_lt link.asked exchange then record link { events = link.events ++ record { exchange = exchange; happening = happening } ∷ [] } else link

-- this is to become of an exchange
abbrev pub with_fate : ℕ → Fate → HeldLink → HeldLink
with_fate exchange fate link = record link { fates = link.fates ++ record { exchange = exchange; fate = fate } ∷ [] }

-- one commit more of the hub's keeper is to fail, behind what it does or before that
abbrev pub with_failure : Bool → ℕ → HeldLink → HeldLink
with_failure acted commit link = record link { plan = with_listed acted commit link.plan }
