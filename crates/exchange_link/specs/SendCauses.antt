-- Why sending the entries ends as it does.
use Rattle.std.specs.Prelude.{◌≡◌, ◌≢◌, ◌⊎◌, ℕ, ◌≤◌, false, List, Some, None, ⊤}
use Rattle.keeper_memory.specs.copy.Copies.{Copy, first_unsettled}
use Rattle.keeper_memory.specs.declared.copy.entry.OutEntry.{OutEntry}
use Rattle.keeper_memory.specs.declared.copy.state.TheConstants.{LAST}
use Rattle.grant_scopes.specs.Opens.{opens}
use Rattle.http_wire.specs.Answers.{IsNoReply}
use Rattle.http_wire.specs.declared.reply_reading.WireReply.{WireReply}
use Rattle.hub_spec.specs.rules.Growth.{Grew}
use Rattle.hub_spec.specs.rules.Verdicts.{newest_in}
use Rattle.hub_spec.specs.marks.Answering.{access_to}
use Rattle.hub_spec.specs.marks.Marked.{mark_of, marked_by}
use Rattle.hub_spec.specs.marks.Sending.{write_request}
use Rattle.roster_base.specs.Faults.{Rose}
use Rattle.status_info.specs.declared.request.Echo.{Echo}
use Rattle.status_info.specs.declared.request.Request.{Request}
use Rattle.version_core.specs.Grants.{grant_of}
use Rattle.version_core.specs.HubStates.{HubState}
use Rattle.version_core.specs.Marks.{mark_at}
use Rattle.version_core.specs.declared.grant_row.GrantRow.{GrantRow}
use Rattle.version_core.specs.declared.mark.MarkRow.{MarkRow}
use Rattle.exchange_link.specs.Between.{CopyRun, LinkRun}
use Rattle.exchange_link.specs.Causes.{IsKept, IsLast, IsMore, IsOwnReply, KeptOf, MissedAll, kept_of}
use Rattle.exchange_link.specs.Exchanges.{LinkState}
use Rattle.exchange_link.specs.Pairs.{AtEach}
use Rattle.exchange_link.specs.Sayings.{knows}
use Rattle.exchange_link.specs.Sent.{NamesFirst}
use Rattle.exchange_link.specs.declared.send_answer.SendAnswer.{SendAnswer}
use Rattle.exchange_link.specs.declared.send_answer.SendAnswer.TheVariants as answer

-- ---- replies that no hub gives to the entry of this number

-- the statuses that are answers of their own, with a mark or without
abbrev pub IsOther : ℕ → Type 0
IsOther status = (status ≢ 401) × (status ≢ 500) × (status ≢ 503)

-- a reply that settles no entry, and is no answer of its own
pub data IsBadAnswer (number : ℕ) (w : WireReply) : Type 0 where
  Unmarked : IsOther w.status → w.status ≢ 403 → w.status ≢ 422 → w.mark ≡ None → IsBadAnswer number w
  OtherMark : (mark : ℕ) → IsOther w.status → w.mark ≡ Some mark → mark ≢ number → IsBadAnswer number w
  NoVersion : (mark : ℕ) → IsOther w.status → w.mark ≡ Some mark → w.version ≡ None → IsBadAnswer number w

-- ---- only where

-- the cause of an answer: what the link keeps, that it missed each try, that the keeper's count rose
abbrev pub SendCauseOf : KeptOf → Type 0 → Type 0 → SendAnswer → Type 0
SendCauseOf own missed broke (answer.Settled count) = ⊤
SendCauseOf own missed broke answer.LastRun = ⊤
SendCauseOf own missed broke answer.NoMemory = ⊤
SendCauseOf own missed broke (answer.Interrupted number) = missed
SendCauseOf own missed broke answer.KeeperFault = broke
SendCauseOf own missed broke answer.UnknownToken = (w : WireReply) × IsKept own w × (w.status ≡ 401)
SendCauseOf own missed broke (answer.NoScope number) = (w : WireReply) × IsKept own w × (w.status ≡ 403) × (w.mark ≡ None)
SendCauseOf own missed broke (answer.MarkTaken number) = (w : WireReply) × IsKept own w × (w.status ≡ 422) × (w.mark ≡ None)
SendCauseOf own missed broke (answer.BadReply number) = IsNoReply own.kept ⊎ ((w : WireReply) × IsKept own w × IsBadAnswer number w)
SendCauseOf own missed broke (answer.HubFault number) = (w : WireReply) × IsKept own w × (w.status ≡ 500)
SendCauseOf own missed broke (answer.HubNoMemory number) = (w : WireReply) × IsKept own w × (w.status ≡ 503)

-- ---- exactly where

-- want of memory, and the keeper's fault, come before the answer that a reply gives
abbrev pub IsSendAside : SendAnswer → Type 0
IsSendAside answer.NoMemory = ⊤
IsSendAside answer.KeeperFault = ⊤
IsSendAside a = ⊥

-- the answer that the own reply gives
pub record AnswersSend (w : WireReply) (a : SendAnswer) : Type 0 where
  pub unknown : w.status ≡ 401 → a ≡ answer.UnknownToken
  pub broke : w.status ≡ 500 → (number : ℕ) × (a ≡ answer.HubFault number)
  pub wants : w.status ≡ 503 → (number : ℕ) × (a ≡ answer.HubNoMemory number)
  pub shut : w.status ≡ 403 → w.mark ≡ None → (number : ℕ) × (a ≡ answer.NoScope number)
  pub taken : w.status ≡ 422 → w.mark ≡ None → (number : ℕ) × (a ≡ answer.MarkTaken number)

-- ---- the last request

-- the last request sends the first entry that isn't settled, under its mark; so a hub reads it
pub record CarriesFirst (token : List ℕ) (echo : Echo) (entries : List OutEntry) (sent : List Request) : Type 0 where
  pub entry : OutEntry
  pub first : first_unsettled entries ≡ Some entry
  pub request : IsLast (write_request token (mark_of entry) (Some echo)) sent
  pub read : marked_by (write_request token (mark_of entry) (Some echo)) ≡ Some (mark_of entry)

-- the answers after which it is sent so
abbrev pub EndsAtEntry : SendAnswer → Type 0
EndsAtEntry (answer.Settled count) = ⊥
EndsAtEntry answer.KeeperFault = ⊥
EndsAtEntry answer.LastRun = ⊥
EndsAtEntry answer.NoMemory = ⊥
EndsAtEntry a = ⊤

-- ---- all of it

-- the cause of an answer: the run, and the number of exchanges of the call
pub record SendCaused (token : List ℕ) (tries : ℕ) (copies : CopyRun) (link : LinkRun) (a : SendAnswer) : Type 0 where
  pub run : ℕ
  pub count : ℕ
  pub counts : IsMore link.asked_before count link.asked_now
  pub runs : 1 ≤ count → (c : Copy) → copies.stands c → c.run ≡ run
  pub only : SendCauseOf (kept_of link.kept run count) (MissedAll tries link count) (Rose copies.faults_before copies.faults_now) a
  pub exact : (w : WireReply) → IsOwnReply link.kept run count w → IsSendAside a ⊎ AnswersSend w a
  pub names : (c : Copy) → copies.stands c → NamesFirst a c.entries
  pub last : EndsAtEntry a → (1 ≤ count) × AtEach copies.stands link.tells (λ c t.
      CarriesFirst token (record { run = run; count = count }) c.entries t.sent)

-- `LastRun` comes exactly where the run number is the last one, and changes nothing
pub record SendLastLaw (a : SendAnswer) (before after : Copy) : Type 0 where
  pub only : a ≡ answer.LastRun → (before.run ≡ LAST) × (after ≡ before)
  pub exact : before.run ≡ LAST → (a ≡ answer.LastRun) ⊎ IsSendAside a

-- ---- what a link that tells adds

-- the first entry that isn't settled is shut out: the grant doesn't open its access
abbrev pub IsShut : GrantRow → List OutEntry → Type 0
IsShut by entries = (entry : OutEntry) × (first_unsettled entries ≡ Some entry) × (opens by.grant.scopes entry.write.kind (access_to entry.write) ≡ false)

-- the mark of the first entry that isn't settled is held with another write
abbrev pub IsTaken : HubState → GrantRow → List OutEntry → Type 0
IsTaken state by entries = (entry : OutEntry) × (kept : MarkRow) × (first_unsettled entries ≡ Some entry)
    × (mark_at (by.caller, entry.number) state.marks ≡ Some kept) × (kept.write ≢ entry.write)

-- a state at which the hub took a request of the call
pub record IsBetween (before after : LinkState) (mid : HubState) : Type 0 where
  pub from : Grew before.hub mid
  pub to : Grew mid after.hub

-- what it adds to the cause: a state of the hub at which the reply was due, or that its keeper failed
abbrev pub SendToldCause : List ℕ → LinkState → LinkState → List OutEntry → SendAnswer → Type 0
SendToldCause token before after entries (answer.BadReply number) = ⊥
SendToldCause token before after entries (answer.HubFault number) = Rose before.hub_faults after.hub_faults
SendToldCause token before after entries answer.UnknownToken = (mid : HubState) × IsBetween before after mid × (knows (newest_in mid) token ≡ false)
SendToldCause token before after entries (answer.NoScope number) = (mid : HubState) × IsBetween before after mid
    × (by : GrantRow) × (grant_of token (newest_in mid).grants ≡ Some by) × IsShut by entries
SendToldCause token before after entries (answer.MarkTaken number) = (mid : HubState) × IsBetween before after mid
    × (by : GrantRow) × (grant_of token (newest_in mid).grants ≡ Some by) × IsTaken mid by entries
SendToldCause token before after entries a = ⊤
