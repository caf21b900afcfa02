-- The requests of sending the entries.
use Rattle.std.proofs.Common.{◌≡◌, ◌⊎◌, inl, inr, ⊎_elim, ℕ, ◌+◌, true, List, [], ◌∷◌, Option, Some, refl, sym, subst}
use Rattle.std.specs.Prelude.{is_none}
use Rattle.std.specs.List.{AllByRecursion}
use Rattle.keeper_memory.specs.copy.Copies.{Copy, first_unsettled}
use Rattle.keeper_memory.specs.declared.copy.entry.OutEntry.{OutEntry}
use Rattle.exchange_link.proofs.AskedLemmas.{sends_trans, sends_weaker}
use Rattle.exchange_link.specs.Asked.{IsTry, IsWaiting, IsWriteUnder, SendsOn, TriedEntry}
use Rattle.exchange_link.specs.Requests.{numbered}
use Rattle.exchange_link.specs.SendCauses.{EndsAtEntry, IsSendAside}
use Rattle.exchange_link.specs.declared.beginning.NoRun.{NoRun}
use Rattle.exchange_link.specs.declared.beginning.NoRun.TheVariants as why
use Rattle.exchange_link.specs.declared.send_answer.SendAnswer.{SendAnswer}
use Rattle.exchange_link.specs.declared.send_answer.SendAnswer.TheVariants as answer
use Rattle.status_info.specs.declared.request.Request.{Request}
use Rattle.consumer_outbox.proofs.WalkLemmas.{open_by, open_is}
use Rattle.consumer_outbox.specs.Sends.{IsBroken, IsInterrupted, SoFar, answer_of, not_begun, request_of}
use Rattle.consumer_outbox.specs.Verdicts.{does_settle}
use Rattle.consumer_outbox.specs.declared.verdict.Verdict.{Verdict}
use Rattle.consumer_outbox.specs.declared.verdict.Verdict.TheVariants as verdict

-- the tries of one entry, as the answer of the entry says whether memory wanted
pub sends_try : (token : List ℕ) (entry : OutEntry) (run from to : ℕ) (wants given : Type 0) (x y : List Request) → (wants → given)
    → SendsOn (IsTry (numbered (request_of token entry))) run from to wants x y → SendsOn (IsTry (numbered (request_of token entry))) run from to given x y
sends_try token entry run from to wants given x y f s = sends_weaker (IsTry (numbered (request_of token entry))) (IsTry (numbered (request_of token entry))) run from to wants given x y (λ n q h. h) f s

verdict_ends : (v : Verdict) (number : ℕ) → IsInterrupted (answer_of v number) → ⊥
verdict_ends (verdict.Settles status version) number x = x
verdict_ends verdict.UnknownToken number x = x
verdict_ends verdict.NoScope number x = x
verdict_ends verdict.MarkTaken number x = x
verdict_ends verdict.BadReply number x = x
verdict_ends verdict.HubFault number x = x
verdict_ends verdict.HubNoMemory number x = x

broken_ends : (result : Option SendAnswer) → IsBroken result → IsInterrupted result → ⊥
broken_ends result b x = ⊎_elim
    (λ (e : result ≡ Some answer.KeeperFault). subst (λ (r : Option SendAnswer). IsInterrupted r) e x)
    (λ (e : result ≡ Some answer.NoMemory). subst (λ (r : Option SendAnswer). IsInterrupted r) e x) b

-- an own reply is no interruption
pub own_ends : (v : Verdict) (number : ℕ) (result : Option SendAnswer) → (result ≡ answer_of v number) ⊎ (IsBroken result × (does_settle v ≡ true)) → IsInterrupted result → ⊥
own_ends v number result h x = ⊎_elim
    (λ (e : result ≡ answer_of v number). verdict_ends v number (subst (λ (r : Option SendAnswer). IsInterrupted r) e x))
    (λ (b : IsBroken result × (does_settle v ≡ true)). broken_ends result b.0 x) h

-- ---- the entries that wait

waiting_more : (xs : List OutEntry) (x : OutEntry) (ys : List OutEntry) → AllByRecursion (λ (e : OutEntry). is_none e.settled ≡ true → IsWaiting xs e) ys → AllByRecursion (λ (e : OutEntry). is_none e.settled ≡ true → IsWaiting (x ∷ xs) e) ys
waiting_more xs x [] h = tt
waiting_more xs x (y ∷ ys) h = (λ yet. inr (h.0 yet), waiting_more xs x ys h.1)

waiting_all : (xs : List OutEntry) → AllByRecursion (λ (e : OutEntry). is_none e.settled ≡ true → IsWaiting xs e) xs
waiting_all [] = tt
waiting_all (x ∷ xs) = (λ yet. inl (refl, yet), waiting_more xs x xs (waiting_all xs))

-- the first that isn't settled yet was one of them
waiting_first : (n : ℕ) (before mid : Copy) (entry : OutEntry) → SoFar n before mid → first_unsettled mid.entries ≡ Some entry → IsWaiting before.entries entry
waiting_first n before mid entry x first =
    open_is (IsWaiting before.entries) mid.entries entry first
    (subst (λ es. AllByRecursion (λ (e : OutEntry). is_none e.settled ≡ true → IsWaiting before.entries e) es) (sym x.entries.entries)
    (open_by (IsWaiting before.entries) x.entries.settled before.entries (waiting_all before.entries)))

-- one entry more
pub sends_entry : (token : List ℕ) (settled run count to : ℕ) (before mid : Copy) (entry : OutEntry) (wants given : Type 0) (x y z : List Request) → SoFar settled before mid → first_unsettled mid.entries ≡ Some entry → (wants → given)
    → SendsOn (IsWriteUnder token before.entries) run 0 count ⊥ x y → SendsOn (IsTry (numbered (request_of token entry))) run count to wants y z → SendsOn (IsWriteUnder token before.entries) run 0 to given x z
sends_entry token settled run count to before mid entry wants given x y z so first f s t =
    sends_trans (IsWriteUnder token before.entries) run 0 count to ⊥ given x y z (λ h. h) s
    (sends_weaker (IsTry (numbered (request_of token entry))) (IsWriteUnder token before.entries) run count to wants given y z (λ n q e. (entry, waiting_first settled before mid entry so first, e)) f t)

-- ---- the tries at the end

pub aside_tried : (a : SendAnswer) (token : List ℕ) (run count tries : ℕ) (entries : List OutEntry) (sent : List Request) → IsSendAside a → TriedEntry a token run count tries entries sent
aside_tried answer.NoMemory token run count tries entries sent x = tt
aside_tried answer.KeeperFault token run count tries entries sent x = tt
aside_tried a token run count tries entries sent x = absurd x

interrupted_memory : {number : ℕ} → Some (answer.Interrupted number) ≡ Some answer.NoMemory → ⊥
interrupted_memory e = cc

pub entry_tried : (a : SendAnswer) (token : List ℕ) (run count to tries : ℕ) (entry : OutEntry) (entries : List OutEntry) (x y : List Request) → (EndsAtEntry a → first_unsettled entries ≡ Some entry) → (IsInterrupted (Some a) → to ≡ count + tries)
    → SendsOn (IsTry (numbered (request_of token entry))) run count to (Some a ≡ Some answer.NoMemory) x y → TriedEntry a token run to tries entries y
entry_tried (answer.Interrupted number) token run count to tries entry entries x y first full s =
    (entry, first tt, (x, count, sym (full tt), sends_try token entry run count to _ ⊥ x y (λ e. interrupted_memory e) s))
entry_tried other token run count to tries entry entries x y first full s = tt

pub begun_tried : (cause : NoRun) (token : List ℕ) (run count tries : ℕ) (entries : List OutEntry) (sent : List Request) → TriedEntry (not_begun cause) token run count tries entries sent
begun_tried why.LastRun token run count tries entries sent = tt
begun_tried why.KeeperFault token run count tries entries sent = tt
begun_tried why.NoMemory token run count tries entries sent = tt
