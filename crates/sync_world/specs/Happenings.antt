-- What comes to pass just before an exchange.
use Rattle.std.specs.Prelude.{◌≡◌, ◌++◌, ℤ, List, [], ◌∷◌, Option, Some, None}
use Rattle.std.specs.List.{flat_map}
use Rattle.hub_spec.specs.requests.Requests.{wanted_by}
use Rattle.hub_spec.specs.rules.Runs.{Replied, Step, Take}
use Rattle.status_info.specs.declared.reply.Reply.{Reply}
use Rattle.status_info.specs.declared.request.Request.{Request}
use Rattle.version_core.specs.HubStates.{HubState}
use Rattle.sync_world.specs.Acts.{Done, IsAct, once}
use Rattle.sync_world.specs.Planned.{past_at, request_of}
use Rattle.sync_world.specs.Walks.{WalksBy}
use Rattle.sync_world.specs.Worlds.{HeldWorld}
use Rattle.sync_world.specs.declared.acts.Saying.{Saying}
use Rattle.sync_world.specs.declared.past.Past.{Past}
use Rattle.sync_world.specs.declared.traffic.Event.{Event}
use Rattle.sync_world.specs.declared.traffic.Happening.{Happening}
use Rattle.sync_world.specs.declared.traffic.Happening.TheVariants as happening

-- a request is taken again, where it was sent, and nothing is told of it
abbrev pub IsTakenAgain : ℤ → Option Request → Done → Type 0
IsTakenAgain at None done = done ≡ record { steps = []; said = [] }
IsTakenAgain at (Some request) done = (reply : Reply) × (after : HubState) × (done ≡ once (Take (wanted_by request) at) (Replied reply) after [])

-- others do something, or the request of an earlier exchange is taken again
abbrev pub IsHappening : List Past → ℤ → Happening → Done → Type 0
IsHappening past at (happening.Act act) done = IsAct act at done
IsHappening past at (happening.Late exchange) done = IsTakenAgain at (request_of (past_at exchange past)) done

-- events one behind another
abbrev pub AreHappenings : List Past → ℤ → List Event → List Done → Type 0
AreHappenings past at [] dones = dones ≡ []
AreHappenings past at (event ∷ events) [] = ⊥
AreHappenings past at (event ∷ events) (done ∷ dones) = IsHappening past at event.happening done × AreHappenings past at events dones

-- the steps of all that was done
abbrev pub steps_of : List Done → List Step
steps_of dones = flat_map (λ (done : Done). done.steps) dones

-- what is told of all that was done
abbrev pub said_of : List Done → List Saying
said_of dones = flat_map (λ (done : Done). done.said) dones

-- events came to pass, in their order, and are told
pub record Passed (past : List Past) (at : ℤ) (events : List Event) (before after : HeldWorld) (said said' : List Saying) : Type 0 where
  pub dones : List Done
  pub are : AreHappenings past at events dones
  pub by : WalksBy (steps_of dones) before after
  pub told : said' ≡ said ++ said_of dones
