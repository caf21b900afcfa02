-- Why a synchronisation answers as it does.
use Rattle.std.specs.Prelude.{◌≡◌, ◌≢◌, ◌⊎◌, ℕ, ◌+◌, ◌-◌, ◌<◌, ◌≤◌, ◌^◌, false, List, [], ◌∷◌, length, min, Option}
use Rattle.std.specs.Prelude.{Some, None, Ok, IsErr}
use Rattle.keeper_memory.specs.copy.Lists.{ascends}
use Rattle.keeper_memory.specs.declared.copy.state.StageState.{StageState}
use Rattle.keeper_memory.specs.declared.copy.state.TheConstants.{LAST}
use Rattle.http_wire.specs.Answers.{IsNoReply, IsReplyText}
use Rattle.http_wire.specs.declared.reply_reading.WireReply.{WireReply}
use Rattle.hub_spec.specs.rules.Growth.{Grew}
use Rattle.hub_spec.specs.rules.Verdicts.{newest_in}
use Rattle.version_core.specs.Grants.{grant_of}
use Rattle.roster_base.specs.Faults.{Rose}
use Rattle.roster_types.specs.Records.{Record}
use Rattle.row_json.specs.Reading.{rows_of}
use Rattle.version_core.specs.HubStates.{HubState, oldest_number}
use Rattle.version_core.specs.Version.{row_limit}
use Rattle.version_core.specs.declared.grant_row.GrantRow.{GrantRow}
use Rattle.exchange_link.specs.declared.answer.SyncAnswer.{SyncAnswer}
use Rattle.exchange_link.specs.declared.answer.SyncAnswer.TheVariants as answer
use Rattle.exchange_link.specs.Between.{Call, CopyRun, LinkRun}
use Rattle.exchange_link.specs.Exchanges.{LinkState}
use Rattle.exchange_link.specs.Sayings.{knows}
use Rattle.exchange_link.specs.Places.{IsStaged, last_of, next_kind, next_page, pin_of, staged_of, total_of}
use Rattle.exchange_link.specs.Pages.{page_request}
use Rattle.keeper_memory.specs.copy.Copies.{Copy}
use Rattle.status_info.specs.declared.request.Request.{Request}

-- a count rose at each of so many exchanges, or stands at the end of its type
abbrev pub RoseBy : ℕ → ℕ → ℕ → Type 0
RoseBy n before now = min (before + n) (2 ^ 64 - 1) ≤ now

-- ---- the own reply

-- what a link keeps is the reply to exchange `count` of this run, counted from 1
pub record IsOwnReply (kept : List ℕ) (run count : ℕ) (w : WireReply) : Type 0 where
  pub text : IsReplyText kept w
  pub number : w.echo ≡ Some (record { run = run; count = count })
  pub from : 1 ≤ count

-- the exchange to which a link keeps the reply, and what it keeps
pub record KeptOf : Type 0 where
  pub kept : List ℕ
  pub run : ℕ
  pub count : ℕ

-- the same from its parts
abbrev pub kept_of : List ℕ → ℕ → ℕ → KeptOf
kept_of kept run count = record { kept = kept; run = run; count = count }

-- the own reply to that exchange
abbrev pub IsKept : KeptOf → WireReply → Type 0
IsKept own w = IsOwnReply own.kept own.run own.count w

-- ---- replies that no hub gives

-- the status of a reply that lists rows, or says that the kind isn't opened
abbrev pub IsPageStatus : ℕ → Type 0
IsPageStatus status = (status ≡ 200) ⊎ (status ≡ 403)

-- a reply for the next page of a stage that can't be taken
pub data IsBad (stage : Option StageState) (limit : ℕ) (w : WireReply) : Type 0 where
  NoVersion : IsPageStatus w.status → w.version ≡ None → IsBad stage limit w
  OtherVersion : (v pin : ℕ) → IsPageStatus w.status → w.version ≡ Some v → pin_of stage ≡ Some pin → pin ≢ v → IsBad stage limit w
  ShutBehindRows : w.status ≡ 403 → 0 < staged_of stage → IsBad stage limit w
  NoTotal : w.status ≡ 200 → w.total ≡ None → IsBad stage limit w
  OtherTotal : (total before : ℕ) → w.status ≡ 200 → w.total ≡ Some total → total_of stage ≡ Some before → before ≢ total → IsBad stage limit w
  OtherCount : (total : ℕ) (rows : List Record) → w.status ≡ 200 → w.total ≡ Some total → rows_of (next_kind stage) w.body ≡ Ok rows
      → length rows ≢ min limit (total - staged_of stage) → IsBad stage limit w
  Unreadable : w.status ≡ 200 → IsErr (rows_of (next_kind stage) w.body) → IsBad stage limit w
  OutOfOrder : (rows : List Record) → w.status ≡ 200 → rows_of (next_kind stage) w.body ≡ Ok rows → ascends (last_of stage) rows ≡ false → IsBad stage limit w
  Unpinned : w.status ≡ 404 → ((pin_of stage ≡ None) ⊎ (w.oldest ≡ None)) → IsBad stage limit w
  OtherStatus : w.status ≢ 200 → w.status ≢ 401 → w.status ≢ 403 → w.status ≢ 404 → w.status ≢ 500 → w.status ≢ 503 → IsBad stage limit w

-- ---- only where

-- the cause of an answer: what the link keeps, that it missed each try, that the keeper's count rose
abbrev pub CauseOf : Option StageState → ℕ → KeptOf → Type 0 → Type 0 → SyncAnswer → Type 0
CauseOf stage limit own missed broke (answer.Complete v) = Unit {0}
CauseOf stage limit own missed broke answer.LastRun = Unit {0}
CauseOf stage limit own missed broke (answer.Interrupted kind offset) = missed × (kind ≡ next_kind stage) × (offset ≡ staged_of stage)
CauseOf stage limit own missed broke answer.KeeperFault = broke
CauseOf stage limit own missed broke answer.NoMemory = Unit {0}
CauseOf stage limit own missed broke (answer.PinGone pin oldest) = (w : WireReply) × IsKept own w × (w.status ≡ 404) × (w.oldest ≡ Some oldest) × (pin_of stage ≡ Some pin)
CauseOf stage limit own missed broke answer.UnknownToken = (w : WireReply) × IsKept own w × (w.status ≡ 401)
CauseOf stage limit own missed broke (answer.TooLarge kind total) = (w : WireReply) × IsKept own w × (w.status ≡ 200) × (w.total ≡ Some total) × (row_limit < total) × (kind ≡ next_kind stage)
CauseOf stage limit own missed broke (answer.BadReply kind offset) = (IsNoReply own.kept ⊎ ((w : WireReply) × IsKept own w × IsBad stage limit w)) × (kind ≡ next_kind stage) × (offset ≡ staged_of stage)
CauseOf stage limit own missed broke answer.HubFault = (w : WireReply) × IsKept own w × (w.status ≡ 500)
CauseOf stage limit own missed broke answer.HubNoMemory = (w : WireReply) × IsKept own w × (w.status ≡ 503)

-- ---- exactly where

-- want of memory, and the keeper's fault, come before the answer that a reply gives
abbrev pub IsAside : SyncAnswer → Type 0
IsAside answer.NoMemory = Unit {0}
IsAside answer.KeeperFault = Unit {0}
IsAside a = ⊥

-- the answer that the own reply to a request with this pin gives
pub record AnswersTo (pin : Option ℕ) (w : WireReply) (a : SyncAnswer) : Type 0 where
  pub unknown : w.status ≡ 401 → a ≡ answer.UnknownToken
  pub fault : w.status ≡ 500 → a ≡ answer.HubFault
  pub memory : w.status ≡ 503 → a ≡ answer.HubNoMemory
  pub gone : (p oldest : ℕ) → pin ≡ Some p → w.status ≡ 404 → w.oldest ≡ Some oldest → a ≡ answer.PinGone p oldest

-- ---- the whole

-- a count of exchanges after so many more; it may stand at the end of its type
pub record IsMore (before n after : ℕ) : Type 0 where
  pub least : min (before + n) (2 ^ 64 - 1) ≤ after
  pub most : after ≤ before + n

-- the last request that was sent
abbrev pub IsLast : Request → List Request → Type 0
IsLast q [] = ⊥
IsLast q (p ∷ sent) = p ≡ q

-- the answers after which the stage stands where the last request asked on
abbrev pub AsksOn : SyncAnswer → Type 0
AsksOn (answer.Complete v) = ⊥
AsksOn (answer.PinGone pin oldest) = ⊥
AsksOn answer.KeeperFault = ⊥
AsksOn answer.LastRun = ⊥
AsksOn answer.NoMemory = ⊥
AsksOn a = Unit {0}

-- so many tries in a row were missed, of so many exchanges, and each was told as a fault of the link
abbrev pub MissedTries : ℕ → ℕ → ℕ → ℕ → ℕ → Type 0
MissedTries tries missed count before now = (tries ≤ missed) × (tries ≤ count) × RoseBy tries before now

-- each try of a call's last request was missed
abbrev pub MissedAll : ℕ → LinkRun → ℕ → Type 0
MissedAll tries link n = MissedTries tries link.missed n link.faults_before link.faults_now

-- the cause of an answer: the run, the number of exchanges of the call, and where the stage stood when the last request
-- was sent
pub record Caused (call : Call) (copies : CopyRun) (link : LinkRun) (a : SyncAnswer) : Type 0 where
  pub run : ℕ
  pub count : ℕ
  pub asked : Option StageState
  pub counts : IsMore link.asked_before count link.asked_now
  pub runs : 1 ≤ count → (c : Copy) → copies.stands c → c.run ≡ run
  pub only : CauseOf asked call.limit (kept_of link.kept run count) (MissedAll call.tries link count)
      (Rose copies.faults_before copies.faults_now) a
  pub exact : (w : WireReply) → IsOwnReply link.kept run count w → IsAside a ⊎ AnswersTo (pin_of asked) w a
  pub last : 1 ≤ count → a ≢ answer.NoMemory → (t : LinkState) → link.tells t
      → IsLast (page_request (next_page call.token call.limit asked) (record { run = run; count = count })) t.sent
  pub on : AsksOn a → (1 ≤ count) × IsStaged copies.stands asked

-- `LastRun` comes exactly where the run number is the last one, and changes nothing
pub record LastLaw (a : SyncAnswer) (before after : Copy) : Type 0 where
  pub only : a ≡ answer.LastRun → (before.run ≡ LAST) × (after ≡ before)
  pub exact : before.run ≡ LAST → (a ≡ answer.LastRun) ⊎ IsAside a

-- ---- what a link that tells adds

-- the state at which the hub gave the reply
abbrev pub ToldCause : List ℕ → LinkState → LinkState → SyncAnswer → Type 0
ToldCause token before after (answer.TooLarge kind total) = ⊥
ToldCause token before after (answer.BadReply kind offset) = ⊥
ToldCause token before after answer.HubFault = Rose before.hub_faults after.hub_faults
ToldCause token before after (answer.PinGone pin oldest) = (mid : HubState) × Grew before.hub mid × Grew mid after.hub
    × (by : GrantRow) × (grant_of token (newest_in mid).grants ≡ Some by) × ((pin < oldest_number mid) ⊎ (pin < by.grant.since))
ToldCause token before after answer.UnknownToken = (mid : HubState) × Grew before.hub mid × Grew mid after.hub × (knows (newest_in mid) token ≡ false)
ToldCause token before after a = Unit {0}
