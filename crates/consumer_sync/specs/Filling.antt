-- Page after page.
use Rattle.std.specs.Prelude.{◌≡◌, ◌⊎◌, ℕ, ◌+◌, ◌-◌, ◌*◌, ◌≤◌, List, Option, Some, None, IfSome, ⊤}
use Rattle.keeper_memory.specs.copy.Copies.{Copy, Stage}
use Rattle.keeper_memory.specs.copy.Lists.{kind_count}
use Rattle.keeper_memory.specs.declared.copy.state.StageState.{StageState}
use Rattle.keeper_memory.specs.declared.copy.state.TheConstants.{LAST}
use Rattle.exchange_link.specs.Agreement.{CopyFits}
use Rattle.exchange_link.specs.Asked.{TriedFor}
use Rattle.exchange_link.specs.Between.{Call}
use Rattle.exchange_link.specs.Bounds.{HasPin, IsCallPin, work}
use Rattle.exchange_link.specs.Causes.{AnswersTo, AsksOn, CauseOf, IsAside, IsPageStatus, KeptOf, ToldCause}
use Rattle.exchange_link.specs.Completeness.{IsDone}
use Rattle.exchange_link.specs.Exchanges.{LinkState}
use Rattle.hub_spec.specs.rules.Checks.{version_at}
use Rattle.exchange_link.specs.Pages.{page_request}
use Rattle.exchange_link.specs.Pairs.{AtEach}
use Rattle.exchange_link.specs.Places.{kinds_of, next_page, staged_of}
use Rattle.exchange_link.specs.Synchronised.{StageOn}
use Rattle.exchange_link.specs.declared.answer.SyncAnswer.{SyncAnswer}
use Rattle.exchange_link.specs.declared.answer.SyncAnswer.TheVariants as answer
use Rattle.http_wire.specs.declared.reply_reading.WireReply.{WireReply}
use Rattle.status_info.specs.declared.request.Request.{Request}
use Rattle.version_core.specs.HubStates.{HubState, newest_number}
use Rattle.version_core.specs.Version.{row_limit}
use Rattle.exchange_link.specs.Requests.{IsReady, number}

-- the request for the next page of a stage
abbrev pub request_of : Option StageState → ℕ → ℕ → List ℕ → ℕ → Request
request_of stage run count token limit = page_request (next_page token limit stage) (number run count)

-- each of these copies fits the hub of each of these states of a link, and there the run's next number is a new one
abbrev pub AreReady : ℕ → (Copy → Type 0) → (LinkState → Type 0) → Type 0
AreReady run copies tells = AtEach copies tells (λ copy told. CopyFits copy told.hub × IsReady run 0 told.sent)

-- a stage is under this token
abbrev pub HasToken : List ℕ → Option StageState → Type 0
HasToken token None = ⊤
HasToken token (Some s) = s.token ≡ token

-- the numbers of a stage are ones that a request may have
abbrev pub IsSmall : Option StageState → Type 0
IsSmall None = ⊤
IsSmall (Some s) = (s.staged ≤ row_limit) × (s.pin ≤ LAST)

-- the pin of a stage is that of the stage at entry; where none stood it isn't older than the newest version then
abbrev pub PinLaw : Option StageState → HubState → Option StageState → Type 0
PinLaw None h None = Unit {0}
PinLaw None h (Some s) = newest_number h ≤ s.pin
PinLaw (Some first) h (Some s) = s.pin ≡ first.pin
PinLaw (Some first) h None = ⊥

-- what the call leaves of a copy before it ends
pub record Fills (token : List ℕ) (before after : Copy) : Type 0 where
  pub run : after.run ≡ before.run
  pub held : after.held ≡ before.held
  pub entries : after.entries ≡ before.entries
  pub last_number : after.last_number ≡ before.last_number
  pub stage : StageOn token before.stage after.stage

-- the stage at an answer: it is gone where its pin is, may be gone where the keeper failed, and else stands
abbrev pub StageEnds : List ℕ → Option SyncAnswer → Option Stage → Option Stage → Type 0
StageEnds token (Some (answer.PinGone pin oldest)) old new = new ≡ None
StageEnds token (Some answer.KeeperFault) old new = StageOn token old new ⊎ (new ≡ None)
StageEnds token r old new = StageOn token old new

-- what it leaves of a copy at an answer
pub record Ends (token : List ℕ) (result : Option SyncAnswer) (before after : Copy) : Type 0 where
  pub run : after.run ≡ before.run
  pub held : after.held ≡ before.held
  pub entries : after.entries ≡ before.entries
  pub last_number : after.last_number ≡ before.last_number
  pub stage : StageEnds token result before.stage after.stage

-- the rounds that a stage may still take, at least
abbrev pub weight : Option StageState → ℕ
weight stage = (kind_count - kinds_of stage) * (row_limit + 2) + (row_limit + 1 - staged_of stage)

-- the bound so far: with the stage that stands now
abbrev pub BoundSoFar : ℕ → ℕ → ℕ → List ℕ → Option StageState → Option StageState → HubState → Type 0
BoundSoFar n tries limit token first None h = n ≡ 0
BoundSoFar n tries limit token first (Some s) h = n + tries * work limit token (Some s) (version_at h s.pin) ≤ tries * work limit token first (version_at h s.pin)

-- the pages go on, or their end is fine
abbrev pub IsDoneIf : Option SyncAnswer → Type 0
IsDoneIf None = Unit {0}
IsDoneIf (Some a) = IsDone a

-- the pages go on, or a link that tells says why they ended
abbrev pub ToldIf : List ℕ → LinkState → LinkState → Option SyncAnswer → Type 0
ToldIf token before after None = Unit {0}
ToldIf token before after (Some a) = ToldCause token before after a

-- the last request of the pages: the stage that it asked on, how many rows it asked for, and its exchange with what the
-- link keeps
pub record LastAsked : Type 0 where
  pub stage : Option StageState
  pub limit : ℕ
  pub own : KeptOf

-- the same from its parts
abbrev pub last_asked : Option StageState → ℕ → KeptOf → LastAsked
last_asked stage limit own = record { stage = stage; limit = limit; own = own }

-- the pages go on, or their end has its cause, where each try was missed or the keeper's count rose, as these say; no run
-- has ended with them, nor was a stage swapped in
abbrev pub CauseIf : LastAsked → Type 0 → Type 0 → Option SyncAnswer → Type 0
CauseIf asked missed broke None = Unit {0}
CauseIf asked missed broke (Some (answer.Complete v)) = ⊥
CauseIf asked missed broke (Some answer.LastRun) = ⊥
CauseIf asked missed broke (Some a) = CauseOf asked.stage asked.limit asked.own missed broke a

-- the pin of the pages, so far or at their end
abbrev pub IsCallPinIf : Option SyncAnswer → Copy → List Request → ℕ → Type 0
IsCallPinIf None c sent v = HasPin v c.stage
IsCallPinIf (Some a) c sent v = IsCallPin a c sent v

-- the answers that end the pages
abbrev pub IsEnd : SyncAnswer → Type 0
IsEnd (answer.Complete v) = ⊥
IsEnd answer.LastRun = ⊥
IsEnd a = Unit {0}

-- what an own reply makes of the answer; pages that go on came as pages
abbrev pub ExactIf : Option ℕ → WireReply → Option SyncAnswer → Type 0
ExactIf pin w None = IsPageStatus w.status
ExactIf pin w (Some a) = IsAside a ⊎ AnswersTo pin w a

-- the pages ended at an answer after which the stage stands where the last request asked on
abbrev pub AsksOnIf : Option SyncAnswer → Type 0
AsksOnIf None = ⊥
AsksOnIf (Some a) = AsksOn a

-- the pages go on, or ended with such an answer
abbrev pub IsEndIf : Option SyncAnswer → Type 0
IsEndIf None = Unit {0}
IsEndIf (Some a) = IsEnd a

-- after `Interrupted` the newest requests are the tries of the one for that place of that kind
abbrev pub TriedIf : Option SyncAnswer → Call → ℕ → ℕ → List Request → Type 0
TriedIf result call run count sent = IfSome result (λ a. TriedFor a call run count sent)
