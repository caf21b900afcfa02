-- What others have a world's hub do, as steps of it.
use Rattle.std.specs.Prelude.{◌≡◌, ◌+◌, ℕ, ℤ, List, [], ◌∷◌, ◌++◌, length, Option, Some, None, Result, Ok, Err}
use Rattle.hub_core.specs.declared.hub_error.HubError.{HubError}
use Rattle.hub_core.specs.declared.hub_error.HubError.TheVariants as error
use Rattle.hub_core.specs.declared.published.Published.{Published}
use Rattle.hub_core.specs.declared.published.Published.TheVariants as published
use Rattle.hub_spec.specs.requests.Requests.{wanted_by}
use Rattle.hub_spec.specs.rules.Runs.{Answer, Command, KeeperFailed, Made, OutOfMemory, Publish, Reopen, Reopened}
use Rattle.hub_spec.specs.rules.Runs.{Replied, SetGrants, Step, Steps, Take}
use Rattle.http_wire.specs.Reading.{HasRead}
use Rattle.http_wire.specs.declared.fault.WireFault.{WireFault}
use Rattle.http_wire.specs.declared.fault.WireFault.TheVariants as wire
use Rattle.keeper_memory.specs.Calls.{CallsLead}
use Rattle.rest_provider.specs.Ends.{Stop, counted}
use Rattle.rest_provider.specs.Steps.{CountsFailed}
use Rattle.status_info.specs.Causes.{status_of}
use Rattle.status_info.specs.declared.cause.Cause.TheVariants.{Unreadable}
use Rattle.status_info.specs.declared.reply.Reply.{Reply}
use Rattle.status_info.specs.declared.request.Request.{Request}
use Rattle.version_changes.specs.sets.Applying.{Leads, Refuses, Unchanged}
use Rattle.version_core.specs.HubStates.{HubState, newest_number}
use Rattle.version_core.specs.declared.change.BaseVersion.{BaseVersion}
use Rattle.sync_world.specs.Walks.{WalksBy}
use Rattle.sync_world.specs.Worlds.{HeldWorld}
use Rattle.sync_world.specs.declared.acts.HubAct.{HubAct}
use Rattle.sync_world.specs.declared.acts.HubAct.TheVariants as act
use Rattle.sync_world.specs.declared.acts.Saying.{Saying}
use Rattle.sync_world.specs.declared.acts.Saying.TheVariants as saying

-- what a call gave says what the step was answered with
abbrev pub IsMade : Result Published HubError → Answer → HubState → Type 0
IsMade (Ok (published.New number)) answer after = (version : BaseVersion) × (answer ≡ Made (Leads version)) × (number ≡ version.number)
IsMade (Ok (published.Same number)) answer after = (answer ≡ Made Unchanged) × (number ≡ newest_number after)
IsMade (Err (error.Refused fault)) answer after = answer ≡ Made (Refuses fault)
IsMade (Err error.Keeper) answer after = answer ≡ KeeperFailed
IsMade (Err error.NoMemory) answer after = answer ≡ OutOfMemory

-- the hub did this in one step, and the call gave that
pub record Makes (command : Command) (given : Result Published HubError) (before after : HeldWorld) : Type 0 where
  pub answer : Answer
  pub failed : ℕ
  pub count : CountsFailed before.faults after.faults failed
  pub step : Steps command before.state answer after.state failed
  pub calls : CallsLead before.plan after.plan
  pub is : IsMade given answer after.state

-- the hub took this request in one step, and gave that reply
abbrev pub TakesOne : Request → ℤ → Reply → HeldWorld → HeldWorld → Type 0
TakesOne request at reply before after =
    (failed : ℕ) × CountsFailed before.faults after.faults failed
    × Steps (Take (wanted_by request) at) before.state (Replied reply) after.state failed

-- ---- an act

-- so many steps, one behind another, and what is told of them
pub record Done : Type 0 where
  pub steps : List Step
  pub said : List Saying

-- one step, and what is told of it
abbrev pub once : Command → Answer → HubState → List Saying → Done
once command answer after said = record { steps = record { command = command; answer = answer; after = after } ∷ []; said = said }

-- a reply is told by its status and its version
abbrev pub replied : Reply → Saying
replied reply = saying.Replied (status_of reply.cause) reply.version

-- one request was taken, and its reply is told
abbrev pub taken : Request → ℤ → Reply → HubState → Done
taken request at reply after = once (Take (wanted_by request) at) (Replied reply) after (replied reply ∷ [])

-- a request was taken, with some reply, which is told
abbrev pub IsTaken : Request → ℤ → Done → Type 0
IsTaken request at done = (reply : Reply) × (after : HubState) × (done ≡ taken request at reply after)

-- requests were taken one after another, and their replies are told
abbrev pub Takes : ℤ → List Request → Done → Type 0
Takes at [] done = (done.steps ≡ []) × (done.said ≡ [])
Takes at (request ∷ requests) done =
    (reply : Reply) × (after : HubState) × (rest : Done) × Takes at requests rest
    × (done.steps ≡ (taken request at reply after).steps ++ rest.steps) × (done.said ≡ replied reply ∷ rest.said)

-- what is told of a fault in place of the request of a number: nothing where the bytes end
abbrev pub tells_fault : ℕ → WireFault → List Saying
tells_fault number wire.End = []
tells_fault number wire.Cut = saying.Stopped number wire.Cut ∷ []
tells_fault number fault = saying.Replied (status_of Unreadable) None ∷ saying.Stopped number fault ∷ []

-- what is told of bytes that stand in its place, behind a request that closes the stream
abbrev pub tells_left : ℕ → List ℕ → List Saying
tells_left number [] = []
tells_left number (byte ∷ rest) = saying.AfterClose number ∷ []

-- what is told of where the reading stopped: at a fault, or behind a request that closes the stream
abbrev pub tells_stop : Option WireFault → ℕ → List ℕ → List Saying
tells_stop None number rest = tells_left number rest
tells_stop (Some fault) number rest = tells_fault number fault

-- the requests of some bytes were taken, and what stopped the reading is told
pub record Asks (bytes : List ℕ) (at : ℤ) (done : Done) : Type 0 where
  pub requests : List Request
  pub stop : Option WireFault
  pub rest : List ℕ
  pub read : HasRead (Some bytes) (Some rest) requests stop
  pub stops : Stop stop requests
  pub first : Done
  pub takes : Takes at requests first
  pub steps : done.steps ≡ first.steps
  pub said : done.said ≡ first.said ++ tells_stop stop (counted (length requests + 1)) rest

-- what is told where a hub was opened again: nothing, or that the keeper failed
abbrev pub IsOpened : Answer → List Saying → Type 0
IsOpened Reopened said = said ≡ []
IsOpened KeeperFailed said = said ≡ saying.NotOpened ∷ []
IsOpened _ said = ⊥

-- what an act is, at a moment
abbrev pub IsAct : HubAct → ℤ → Done → Type 0
IsAct (act.Set name set) at done =
    (given : Result Published HubError) × (answer : Answer) × (after : HubState)
    × IsMade given answer after × (done ≡ once (Publish set at) answer after (saying.Published name given ∷ []))
IsAct (act.Grant list) at done =
    (given : Result Published HubError) × (answer : Answer) × (after : HubState)
    × IsMade given answer after × (done ≡ once (SetGrants list at) answer after (saying.Granted given ∷ []))
IsAct (act.Ask bytes) at done = Asks bytes at done
IsAct (act.Tell lines) at done = done ≡ record { steps = []; said = saying.Lines lines ∷ [] }
IsAct act.Restart at done = (answer : Answer) × (after : HubState) × (said : List Saying) × IsOpened answer said × (done ≡ once Reopen answer after said)

-- what `Is` allows was done to a world, and told behind what was told before
pub record Acted (Is : Done → Type 0) (before after : HeldWorld) (said said' : List Saying) : Type 0 where
  pub done : Done
  pub is : Is done
  pub by : WalksBy done.steps before after
  pub told : said' ≡ said ++ done.said
