-- The requests of one call, over a link that tells. Lists of requests begin with the newest.
use Rattle.std.specs.Prelude.{◌≡◌, ◌⊎◌, ◌≤◌, ℕ, ◌+◌, ◌++◌, true, List, [], ◌∷◌, length, Option, Some, is_none, ⊤}
use Rattle.keeper_memory.specs.copy.Copies.{Copy, first_unsettled}
use Rattle.keeper_memory.specs.declared.copy.entry.OutEntry.{OutEntry}
use Rattle.hub_spec.specs.marks.Marked.{mark_of}
use Rattle.hub_spec.specs.marks.Sending.{write_request}
use Rattle.exchange_link.specs.Between.{Call, CopyAndLink, CopyRun, LinkRun}
use Rattle.exchange_link.specs.Causes.{IsMore}
use Rattle.exchange_link.specs.Pages.{Page, page_request}
use Rattle.exchange_link.specs.Requests.{number}
use Rattle.exchange_link.specs.declared.answer.SyncAnswer.{SyncAnswer}
use Rattle.exchange_link.specs.declared.answer.SyncAnswer.TheVariants as answer
use Rattle.exchange_link.specs.declared.send_answer.SendAnswer.{SendAnswer}
use Rattle.exchange_link.specs.declared.send_answer.SendAnswer.TheVariants as send
use Rattle.status_info.specs.declared.request.Echo.{Echo}
use Rattle.status_info.specs.declared.request.Request.{Request}

-- numbered in the order in which they were sent, behind the count `from` of a run; each is one that may be sent under
-- its number
abbrev pub AreNumbered : (Echo → Request → Type 0) → ℕ → ℕ → List Request → Type 0
AreNumbered may run from [] = ⊤
AreNumbered may run from (q ∷ earlier) = may (number run (from + length earlier + 1)) q × AreNumbered may run from earlier

-- the requests that were sent since, from one count of a run to another; where memory ran out, the last may be left out
pub record SendsOn (may : Echo → Request → Type 0) (run from to : ℕ) (wants : Type 0) (before after : List Request) : Type 0 where
  pub more : List Request
  pub sent : after ≡ more ++ before
  pub each : AreNumbered may run from more
  pub all : (from + length more ≡ to) ⊎ (wants × (from + length more + 1 ≡ to))

-- the try of one request under this number
abbrev pub IsTry : (Echo → Request) → Echo → Request → Type 0
IsTry make n q = q ≡ make n

-- the newest requests are so many tries of one request, numbered on to `count`
abbrev pub AreTries : (Echo → Request) → ℕ → ℕ → ℕ → List Request → Type 0
AreTries make run count tries sent = (earlier : List Request) × (from : ℕ) × (from + tries ≡ count) × SendsOn (IsTry make) run from count ⊥ earlier sent

-- ---- a synchronisation

-- a request for a page, under this number
abbrev pub IsPageUnder : List ℕ → ℕ → Echo → Request → Type 0
IsPageUnder token limit n q = (page : Page) × (page.token ≡ token) × (page.limit ≡ limit) × (q ≡ page_request page n)

-- after `Interrupted` the newest requests are the tries of the one for that place of that kind
abbrev pub TriedFor : SyncAnswer → Call → ℕ → ℕ → List Request → Type 0
TriedFor (answer.Interrupted kind offset) call run count sent =
    (pin : Option ℕ) × AreTries (page_request (record {
      token = call.token;
      kind = kind;
      limit = call.limit;
      offset = offset;
      pin = pin;
    })) run count call.tries sent
TriedFor a call run count sent = ⊤

-- all requests of the call are for pages of this token and limit, numbered from 1 on under its run
pub record AsksPages (call : Call) (copies : CopyRun) (link : LinkRun) (a : SyncAnswer) (before after : List Request) : Type 0 where
  pub run : ℕ
  pub count : ℕ
  pub runs : 1 ≤ count → (c : Copy) → copies.stands c → c.run ≡ run
  pub counts : IsMore link.asked_before count link.asked_now
  pub pages : SendsOn (IsPageUnder call.token call.limit) run 0 count (a ≡ answer.NoMemory) before after
  pub tried : TriedFor a call run count after

-- ---- sending the entries

-- one of these entries, which isn't settled
abbrev pub IsWaiting : List OutEntry → OutEntry → Type 0
IsWaiting [] entry = ⊥
IsWaiting (e ∷ entries) entry = ((e ≡ entry) × (is_none entry.settled ≡ true)) ⊎ IsWaiting entries entry

-- the request for such an entry's write, under this number
abbrev pub IsWriteUnder : List ℕ → List OutEntry → Echo → Request → Type 0
IsWriteUnder token entries n q = (entry : OutEntry) × IsWaiting entries entry × (q ≡ write_request token (mark_of entry) (Some n))

-- after `Interrupted` the newest requests are the tries of the one for the first entry that isn't settled
abbrev pub TriedEntry : SendAnswer → List ℕ → ℕ → ℕ → ℕ → List OutEntry → List Request → Type 0
TriedEntry (send.Interrupted number) token run count tries entries sent =
    (entry : OutEntry) × (first_unsettled entries ≡ Some entry) × AreTries (λ n. write_request token (mark_of entry) (Some n)) run count tries sent
TriedEntry a token run count tries entries sent = ⊤

-- all requests of the call are for writes that weren't settled before it, numbered from 1 on under its run
pub record AsksWrites (token : List ℕ) (tries : ℕ) (link : LinkRun) (a : SendAnswer) (before after : CopyAndLink) : Type 0 where
  pub run : ℕ
  pub count : ℕ
  pub runs : 1 ≤ count → after.copy.run ≡ run
  pub counts : IsMore link.asked_before count link.asked_now
  pub writes : SendsOn (IsWriteUnder token before.copy.entries) run 0 count (a ≡ send.NoMemory) before.told.sent
      after.told.sent
  pub tried : TriedEntry a token run count tries after.copy.entries after.told.sent
