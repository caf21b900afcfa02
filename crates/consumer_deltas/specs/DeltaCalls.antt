-- What one call of an incremental synchronisation does.
use Rattle.std.specs.Prelude.{◌≡◌, ◌⊎◌, ℕ, ◌+◌, ◌*◌, ◌<◌, ◌≤◌, List, [], ◌∷◌, drop, length, max, Option, Some, None}
use Rattle.std.specs.Prelude.{IfSome, ⊤}
use Rattle.consumer_deltas.specs.DeltaAnswers.{DeltaLeaves, HasBase}
use Rattle.consumer_deltas.specs.DeltaRequests.{IsDeltaUnder}
use Rattle.consumer_sync.specs.Faulted.{FaultLaw}
use Rattle.consumer_deltas.specs.declared.answer.DeltaAnswer.{DeltaAnswer}
use Rattle.consumer_deltas.specs.declared.answer.DeltaAnswer.TheVariants.{BaseGone, Ended, NoBase}
use Rattle.exchange_link.specs.Agreement.{StageAgrees}
use Rattle.exchange_link.specs.Asked.{SendsOn}
use Rattle.exchange_link.specs.Between.{Call, CopyRun, LinkRun}
use Rattle.exchange_link.specs.Bounds.{pages}
use Rattle.exchange_link.specs.Causes.{IsAside, IsMore}
use Rattle.exchange_link.specs.Completeness.{IsDone}
use Rattle.exchange_link.specs.Exchanges.{LinkState}
use Rattle.exchange_link.specs.Places.{kinds_of}
use Rattle.exchange_link.specs.Requests.{Moved}
use Rattle.exchange_link.specs.Synchronised.{HeldTold, IsPinOf, own_stage}
use Rattle.exchange_link.specs.declared.answer.SyncAnswer.TheVariants as answer
use Rattle.hub_spec.specs.rules.Checks.{version_at}
use Rattle.hub_spec.specs.views.Deltas.{delta}
use Rattle.keeper_memory.specs.copy.Copies.{Copy}
use Rattle.keeper_memory.specs.declared.copy.state.StageState.{StageState}
use Rattle.keeper_memory.specs.declared.copy.state.TheConstants.{LAST}
use Rattle.roster_values.specs.Kinds.{all_kinds}
use Rattle.roster_values.specs.declared.kind.Kind.{Kind}
use Rattle.status_info.specs.declared.request.Request.{Request}
use Rattle.version_core.specs.HubStates.{HubState, newest_number}
use Rattle.version_core.specs.declared.change.BaseVersion.{BaseVersion}

-- a hub that says that the base is gone was asked
abbrev pub AsksSome : DeltaAnswer → ℕ → Type 0
AsksSome (BaseGone held oldest) count = 1 ≤ count
AsksSome a count = ⊤

-- each request of the call is for a page of what differs from the held version on, numbered from 1 on under its run
pub record AsksDeltas (call : Call) (copies : CopyRun) (link : LinkRun) (a : DeltaAnswer) (before after : List Request) : Type 0 where
  pub run : ℕ
  pub count : ℕ
  pub base : ℕ
  pub held : 1 ≤ count → (c : Copy) → copies.stands c → (before : Copy) × copies.stood before × HasBase base call.token before
  pub runs : 1 ≤ count → (c : Copy) → copies.stands c → c.run ≡ run
  pub counts : IsMore link.asked_before count link.asked_now
  pub some : AsksSome a count
  pub each : SendsOn (IsDeltaUnder call.token call.limit base) run 0 count (a ≡ Ended answer.NoMemory) before after

-- ---- how many exchanges

-- the pages of what differs of these kinds, at least one of each
abbrev pub delta_pages : ℕ → List ℕ → BaseVersion → BaseVersion → List Kind → ℕ
delta_pages limit token before after [] = 0
delta_pages limit token before after (kind ∷ kinds) = max 1 (pages limit (length (delta before after token kind))) + delta_pages limit token before after kinds

-- the pages of the kinds that are left of a stage
abbrev pub delta_work : ℕ → List ℕ → Option StageState → HubState → ℕ → ℕ → ℕ
delta_work limit token stage h base pin = delta_pages limit token (version_at h base) (version_at h pin) (drop (kinds_of stage) all_kinds)

-- the pin of a call for which no stage stood: the newest version at some time in between, that which the answer names,
-- and that of the stage which is left
pub record IsNewPin (names : ℕ → Type 0) (c : Copy) (before after : HubState) (v : ℕ) : Type 0 where
  pub newest : newest_number before ≤ v
  pub standing : v < length after.published
  pub named : names v
  pub stage : IfSome c.stage (λ s. s.pin ≡ v)

-- the version that an answer names as that of the call
abbrev pub AnswersPin : DeltaAnswer → ℕ → Type 0
AnswersPin (Ended (answer.Complete version)) v = v ≡ version
AnswersPin (Ended (answer.PinGone pin oldest)) v = v ≡ pin
AnswersPin a v = ⊤

-- tries * pages at the pin of this call, which is that of the stage; where none stood and no pin was found, the tries
-- of one request
abbrev pub DeltaBounded : ℕ → ℕ → ℕ → List ℕ → ℕ → Option StageState → (ℕ → Type 0) → HubState → Type 0
DeltaBounded n tries limit token base (Some s) is_pin h = n ≤ tries * delta_work limit token (Some s) h base s.pin
DeltaBounded n tries limit token base None is_pin h = (n ≤ tries) ⊎ ((v : ℕ) × is_pin v × (n ≤ tries * delta_work limit token None h base v))

-- ---- what it leaves

-- want of memory, and the keeper's fault, come before the answer that a reply gives
abbrev pub IsDeltaAside : DeltaAnswer → Type 0
IsDeltaAside (Ended a) = IsAside a
IsDeltaAside a = ⊥

-- where a base is held, `LastRun` comes exactly where the run number is the last one, and changes nothing
pub record DeltaLastLaw (a : DeltaAnswer) (before after : Copy) : Type 0 where
  pub only : a ≡ Ended answer.LastRun → (before.run ≡ LAST) × (after ≡ before)
  pub exact : before.run ≡ LAST → (a ≡ NoBase) ⊎ ((a ≡ Ended answer.LastRun) ⊎ IsDeltaAside a)

-- where the keeper failed, a stage under this token ends at the swap alone, or where the hub's reply says that its pin
-- isn't kept
abbrev pub DeltaFaultLaw : List ℕ → List ℕ → DeltaAnswer → Copy → Copy → Type 0
DeltaFaultLaw token kept (Ended answer.KeeperFault) before after = FaultLaw token kept before after
DeltaFaultLaw token kept a before after = ⊤

-- complete, or want of memory at either end
abbrev pub IsDeltaDone : DeltaAnswer → Type 0
IsDeltaDone (Ended a) = IsDone a
IsDeltaDone a = ⊥

-- what is held is as before, or exactly what the token sees of the pinned version
abbrev pub DeltaHeld : List ℕ → DeltaAnswer → Copy → LinkState → Copy → LinkState → Type 0
DeltaHeld token (Ended a) before told after tells = HeldTold token a before told after tells
DeltaHeld token a before told after tells = after.held ≡ before.held

-- where the base is gone, a stage that stands has the pin of that which stood, or else one that isn't older than the
-- newest version then
abbrev pub DeltaPin : List ℕ → DeltaAnswer → Copy → LinkState → Copy → Type 0
DeltaPin token (BaseGone held oldest) before told after = IfSome after.stage (λ s. IsPinOf (own_stage token before.stage) told.hub s.pin)
DeltaPin token a before told after = ⊤

-- all that is promised of a call over a link that tells, where copy and link agreed
pub record DeltaSynchronised (token : List ℕ) (a : DeltaAnswer) (before : Copy) (told : LinkState) (after : Copy) (tells : LinkState) : Type 0 where
  pub leaves : DeltaLeaves token a before after
  pub agree : StageAgrees after tells
  pub held : DeltaHeld token a before told after tells
  pub pin : DeltaPin token a before told after
  pub moved : Moved told tells
