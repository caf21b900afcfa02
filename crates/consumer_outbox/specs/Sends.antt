-- The steps of sending.
use Rattle.std.specs.Prelude.{◌≡◌, ◌≢◌, ◌⊎◌, ℕ, ◌<◌, true, List, Option, Some, None, IfSome, is_none, ⊤}
use Rattle.std.specs.List.{AllByRecursion}
use Rattle.keeper_memory.specs.copy.Changes.{copy_after}
use Rattle.keeper_memory.specs.copy.Copies.{Copy}
use Rattle.keeper_memory.specs.declared.copy.change.CopyChange.TheVariants.{Settle}
use Rattle.keeper_memory.specs.declared.copy.entry.OutEntry.{OutEntry}
use Rattle.exchange_link.specs.Causes.{kept_of}
use Rattle.exchange_link.specs.Exchanges.{LinkState}
use Rattle.exchange_link.specs.Marks.{MarksTold}
use Rattle.exchange_link.specs.SendCauses.{AnswersSend, EndsAtEntry, IsSendAside, SendCauseOf, SendToldCause}
use Rattle.exchange_link.specs.SendCompleteness.{IsFine}
use Rattle.exchange_link.specs.Sent.{SettlesMore}
use Rattle.exchange_link.specs.declared.send_answer.SendAnswer.{SendAnswer}
use Rattle.exchange_link.specs.declared.send_answer.SendAnswer.TheVariants as answer
use Rattle.http_wire.specs.declared.reply_reading.WireReply.{WireReply}
use Rattle.hub_spec.specs.marks.Marked.{mark_of, marked_by}
use Rattle.hub_spec.specs.marks.Sending.{write_request}
use Rattle.roster_base.specs.declared.keeper.KeeperError.{KeeperError}
use Rattle.roster_base.specs.declared.keeper.KeeperError.TheVariants as fault
use Rattle.status_info.specs.declared.request.Request.{Request}
use Rattle.exchange_link.specs.Requests.{IsNumbered, IsReady}
use Rattle.exchange_link.specs.declared.beginning.NoRun.{NoRun}
use Rattle.exchange_link.specs.declared.beginning.NoRun.TheVariants as no_run
use Rattle.consumer_outbox.specs.Verdicts.{Settled}
use Rattle.consumer_outbox.specs.declared.verdict.Verdict.{Verdict}
use Rattle.consumer_outbox.specs.declared.verdict.Verdict.TheVariants as verdict

-- ---- answers

-- the answer of a call that began no run
abbrev pub not_begun : NoRun → SendAnswer
not_begun no_run.LastRun = answer.LastRun
not_begun no_run.KeeperFault = answer.KeeperFault
not_begun no_run.NoMemory = answer.NoMemory

-- the answer of a call whose keeper couldn't do its work
abbrev pub broken_answer : KeeperError → SendAnswer
broken_answer fault.Failed = answer.KeeperFault
broken_answer fault.NoMemory = answer.NoMemory

-- the keeper or memory gave up
abbrev pub IsBroken : Option SendAnswer → Type 0
IsBroken result = (result ≡ Some answer.KeeperFault) ⊎ (result ≡ Some answer.NoMemory)

-- the answer that a verdict on the entry of this number gives; none where it settles
abbrev pub answer_of : Verdict → ℕ → Option SendAnswer
answer_of (verdict.Settles status version) number = None
answer_of verdict.UnknownToken number = Some answer.UnknownToken
answer_of verdict.NoScope number = Some (answer.NoScope number)
answer_of verdict.MarkTaken number = Some (answer.MarkTaken number)
answer_of verdict.BadReply number = Some (answer.BadReply number)
answer_of verdict.HubFault number = Some (answer.HubFault number)
answer_of verdict.HubNoMemory number = Some (answer.HubNoMemory number)

-- ---- one entry

-- its request, still without a number of its exchange
abbrev pub request_of : List ℕ → OutEntry → Request
request_of token entry = write_request token (mark_of entry) None

-- its request under some number, in which a hub reads its write
abbrev pub Carries : List ℕ → OutEntry → Request → Type 0
Carries token entry q = IsNumbered (request_of token entry) q × (marked_by q ≡ Some (mark_of entry))

-- what the verdict on its reply makes of the copy: nothing at an answer; else the entry is settled, or may be where the
-- keeper or memory gave up
pub data Takes (v : Verdict) (number : ℕ) (result : Option SendAnswer) (before after : Copy) : Type 0 where
  Stays : result ≢ None → after ≡ before → Takes v number result before after
  Settles : (status version : ℕ) → v ≡ verdict.Settles status version → ((result ≡ None) ⊎ IsBroken result)
      → after ≡ copy_after (Settle number status version) before → Takes v number result before after

-- what sending it makes of the copy, whatever its reply was
pub data TakesAny (number : ℕ) (result : Option SendAnswer) (before after : Copy) : Type 0 where
  StaysAny : result ≢ None → after ≡ before → TakesAny number result before after
  SettlesAny : (status version : ℕ) → ((result ≡ None) ⊎ IsBroken result) → after ≡ copy_after (Settle number status version) before → TakesAny number result before after

-- an answer that one entry can end with
abbrev pub IsEntryEnd : SendAnswer → Type 0
IsEntryEnd (answer.Settled count) = ⊥
IsEntryEnd answer.LastRun = ⊥
IsEntryEnd a = ⊤

-- the entry is settled, or the answer has its cause
abbrev pub CauseIf : List ℕ → ℕ → ℕ → Type 0 → Type 0 → Option SendAnswer → Type 0
CauseIf kept run count missed broke result = IfSome result (λ a. IsEntryEnd a × SendCauseOf (kept_of kept run count) missed broke a)

-- what the own reply forces: an answer, or nothing more where it settled the entry
abbrev pub ExactIf : WireReply → Option SendAnswer → Type 0
ExactIf w None = Settled w
ExactIf w (Some a) = IsSendAside a ⊎ AnswersSend w a

-- the call ends at an answer after which the last request carried the entry
abbrev pub EndsIf : Option SendAnswer → Type 0
EndsIf None = ⊥
EndsIf (Some a) = EndsAtEntry a

-- the entry is settled, or a link that tells says why it isn't
abbrev pub ToldIf : List ℕ → LinkState → LinkState → List OutEntry → Option SendAnswer → Type 0
ToldIf token before after entries result = IfSome result (SendToldCause token before after entries)

-- the entry is settled, or memory wants at either end
abbrev pub IsFineIf : Option SendAnswer → Type 0
IsFineIf result = IfSome result IsFine

-- each try of the entry missed
abbrev pub IsInterrupted : Option SendAnswer → Type 0
IsInterrupted (Some (answer.Interrupted number)) = ⊤
IsInterrupted result = ⊥

-- ---- all of them

-- the entries that aren't settled have numbers above this one
abbrev pub SettledTo : ℕ → List OutEntry → Type 0
SettledTo number entries = AllByRecursion (λ entry. is_none entry.settled ≡ true → number < entry.number) entries

-- so far so many were settled, and all else is as it was
pub record SoFar (count : ℕ) (before after : Copy) : Type 0 where
  pub run : after.run ≡ before.run
  pub held : after.held ≡ before.held
  pub stage : after.stage ≡ before.stage
  pub last_number : after.last_number ≡ before.last_number
  pub entries : SettlesMore count before.entries after.entries

-- what sending rests on, over a link that tells: the entries and their marks agree, and each further number is new
pub record Ready (run count : ℕ) (c : Copy) (told : LinkState) : Type 0 where
  pub marks : MarksTold c told
  pub numbers : IsReady run count told.sent
