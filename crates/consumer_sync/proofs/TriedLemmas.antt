-- The requests of a synchronisation.
use Rattle.std.proofs.Common.{◌≡◌, ◌⊎◌, ⊎_elim, ℕ, ◌+◌, List, Option, Some, refl, sym, subst}
use Rattle.consumer_sync.specs.Filling.{TriedIf}
use Rattle.consumer_sync.specs.Staging.{IsBroken, answer_of}
use Rattle.consumer_sync.specs.declared.judging.Act.{Act}
use Rattle.consumer_sync.specs.declared.judging.Act.TheVariants as act
use Rattle.exchange_link.proofs.AskedLemmas.{sends_trans, sends_weaker}
use Rattle.exchange_link.specs.Asked.{AreTries, IsPageUnder, IsTry, SendsOn, TriedFor}
use Rattle.exchange_link.specs.Between.{Call, call_with}
use Rattle.exchange_link.specs.Pages.{page_request}
use Rattle.exchange_link.specs.Places.{next_kind, next_page, pin_of, staged_of}
use Rattle.exchange_link.specs.declared.answer.SyncAnswer.{SyncAnswer}
use Rattle.exchange_link.specs.declared.answer.SyncAnswer.TheVariants as answer
use Rattle.exchange_link.specs.declared.beginning.NoRun.{NoRun}
use Rattle.exchange_link.specs.declared.beginning.NoRun.TheVariants as no_run
use Rattle.consumer_sync.specs.Starting.{StartCause, unentered}
use Rattle.keeper_memory.specs.declared.copy.state.StageState.{StageState}
use Rattle.roster_values.specs.declared.kind.Kind.{Kind}
use Rattle.status_info.specs.declared.request.Echo.{Echo}
use Rattle.status_info.specs.declared.request.Request.{Request}

is_page : (token : List ℕ) (limit : ℕ) (stage : Option StageState) (n : Echo) (q : Request) → IsTry (page_request (next_page token limit stage)) n q → IsPageUnder token limit n q
is_page token limit stage n q e = (next_page token limit stage, refl, refl, e)

-- the tries of one more page
pub sends_page : (token : List ℕ) (limit run a b c : ℕ) (stage : Option StageState) (wants given : Type 0) (x y z : List Request) → (wants → given) → SendsOn (IsPageUnder token limit) run a b ⊥ x y
    → SendsOn (IsTry (page_request (next_page token limit stage))) run b c wants y z → SendsOn (IsPageUnder token limit) run a c given x z
sends_page token limit run a b c stage wants given x y z f s t =
    sends_trans (IsPageUnder token limit) run a b c ⊥ given x y z (λ h. h) s (sends_weaker (IsTry (page_request (next_page token limit stage))) (IsPageUnder token limit) run b c wants given y z (is_page token limit stage) f t)

abbrev page_at : List ℕ → ℕ → Option ℕ → Kind → ℕ → Echo → Request
page_at token limit pin kind offset n = page_request (record { token = token; kind = kind; limit = limit; offset = offset; pin = pin }) n

-- all its tries
pub tried_page : (token : List ℕ) (limit run from count tries : ℕ) (stage : Option StageState) (kind : Kind) (offset : ℕ) (wants : Type 0) (y z : List Request) → kind ≡ next_kind stage → offset ≡ staged_of stage → count ≡ from + tries → (wants → ⊥)
    → SendsOn (IsTry (page_request (next_page token limit stage))) run from count wants y z → TriedFor (answer.Interrupted kind offset) (call_with token limit tries) run count z
tried_page token limit run from count tries stage kind offset wants y z ek eo e f s =
    let tries_at : AreTries (page_at token limit (pin_of stage) (next_kind stage) (staged_of stage)) run count tries z = (y, from, sym e, sends_weaker (IsTry (page_request (next_page token limit stage))) (IsTry (page_request (next_page token limit stage))) run from count wants ⊥ y z (λ n q h. h) f s) in (
      pin_of stage,
      subst (λ (k : Kind). AreTries (page_at token limit (pin_of stage) k offset) run count tries z) (sym ek)
          (subst (λ (o : ℕ). AreTries (page_at token limit (pin_of stage) (next_kind stage) o) run count tries z) (sym eo) tries_at),
    )

untried : (a : Act) (kind : Kind) (offset : ℕ) (call : Call) (run count : ℕ) (sent : List Request) → TriedIf (answer_of a kind offset) call run count sent
untried (act.Take pin rows total done) kind offset call run count sent = tt
untried (act.Close pin) kind offset call run count sent = tt
untried (act.PinGone pin oldest) kind offset call run count sent = tt
untried act.UnknownToken kind offset call run count sent = tt
untried (act.TooLarge total) kind offset call run count sent = tt
untried act.BadReply kind offset call run count sent = tt
untried act.HubFault kind offset call run count sent = tt
untried act.HubNoMemory kind offset call run count sent = tt

-- an own reply is no interruption
pub tried_own : (stage : Option StageState) (result : Option SyncAnswer) (a : Act) (call : Call) (run count : ℕ) (sent : List Request) → IsBroken result ⊎ (result ≡ answer_of a (next_kind stage) (staged_of stage))
    → TriedIf result call run count sent
tried_own stage result a call run count sent x = ⊎_elim
    (λ (b : IsBroken result). ⊎_elim
    (λ (e : result ≡ Some answer.KeeperFault). subst (λ (r : Option SyncAnswer). TriedIf r call run count sent) (sym e) tt)
    (λ (e : result ≡ Some answer.NoMemory). subst (λ (r : Option SyncAnswer). TriedIf r call run count sent) (sym e) tt) b)
    (λ (e : result ≡ answer_of a (next_kind stage) (staged_of stage)). subst (λ (r : Option SyncAnswer). TriedIf r call run count sent) (sym e) (untried a (next_kind stage) (staged_of stage) call run count sent)) x

-- nor is a beginning that fails
pub tried_start : (K : Type 0) (e : SyncAnswer) (call : Call) (run count : ℕ) (sent : List Request) → StartCause K e → TriedFor e call run count sent
tried_start K answer.LastRun call run count sent k = tt
tried_start K answer.KeeperFault call run count sent k = tt
tried_start K answer.NoMemory call run count sent k = tt
tried_start K e call run count sent k = absurd k

pub tried_entered : (e : NoRun) (call : Call) (run count : ℕ) (sent : List Request) → TriedFor (unentered e) call run count sent
tried_entered no_run.LastRun call run count sent = tt
tried_entered no_run.KeeperFault call run count sent = tt
tried_entered no_run.NoMemory call run count sent = tt
