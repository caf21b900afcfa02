-- The steps of a copy.
use Rattle.std.proofs.Common.{◌≡◌, inl, inr, ⊎_elim, ℕ, List, Option, Some, None, refl, sym, subst}
use Rattle.std.proofs.lemmas.Option.{none-some}
use Rattle.std.specs.Prelude.{Err, IfSome, IsSomeAnd}
use Rattle.keeper_memory.specs.copy.Changes.{Commits, copy_after}
use Rattle.keeper_memory.specs.copy.Copies.{Copy, first_unsettled}
use Rattle.keeper_memory.specs.declared.copy.change.CopyChange.TheVariants.{Settle}
use Rattle.keeper_memory.specs.declared.copy.entry.OutEntry.{OutEntry}
use Rattle.exchange_link.specs.Sent.{NamesFirst, number_in}
use Rattle.exchange_link.specs.declared.send_answer.SendAnswer.{SendAnswer}
use Rattle.exchange_link.specs.declared.send_answer.SendAnswer.TheVariants as answer
use Rattle.roster_base.specs.declared.keeper.KeeperError.{KeeperError}
use Rattle.roster_base.specs.declared.keeper.KeeperError.TheVariants as fault
use Rattle.exchange_link.specs.Causes.{IsLast}
use Rattle.exchange_link.specs.SendCauses.{CarriesFirst}
use Rattle.hub_spec.specs.marks.Marked.{mark_of, marked_by}
use Rattle.status_info.specs.declared.request.Echo.{Echo}
use Rattle.status_info.specs.declared.request.Request.{Request}
use Rattle.exchange_link.specs.Requests.{numbered}
use Rattle.consumer_outbox.specs.Sends.{EndsIf, IsBroken, Settles, SettlesAny, Stays, StaysAny, Takes, TakesAny}
use Rattle.consumer_outbox.specs.Sends.{broken_answer, request_of}
use Rattle.consumer_outbox.specs.declared.verdict.Verdict.{Verdict}
use Rattle.consumer_outbox.specs.declared.verdict.Verdict.TheVariants as verdict

-- a commit that fails
pub takes_err : (status version number : ℕ) (error : KeeperError) (before after : Copy) → Commits (Settle number status version) (Err error) before after
    → Takes (verdict.Settles status version) number (Some (broken_answer error)) before after
takes_err status version number fault.Failed before after x = ⊎_elim
    (λ (e : after ≡ before). Stays (λ none. none-some _ (sym none)) e)
    (λ (e : after ≡ copy_after (Settle number status version) before). Settles status version refl (inr (inl refl)) e) x
takes_err status version number fault.NoMemory before after e = Stays (λ none. none-some _ (sym none)) e

pub broken_is : (error : KeeperError) → IsBroken (Some (broken_answer error))
broken_is fault.Failed = inl refl
broken_is fault.NoMemory = inr refl

-- another verdict changes nothing
pub takes_any : (v : Verdict) (number : ℕ) (result : Option SendAnswer) (before after : Copy) → Takes v number result before after → TakesAny number result before after
takes_any v number result before after (Stays n e) = StaysAny n e
takes_any v number result before after (Settles status version is x e) = SettlesAny status version x e

-- the first entry's number
pub first_number : (entries : List OutEntry) (entry : OutEntry) → first_unsettled entries ≡ Some entry → IsSomeAnd (first_unsettled entries) (λ e. e.number ≡ entry.number)
first_number entries entry e = subst (λ o. IsSomeAnd o (λ (x : OutEntry). x.number ≡ entry.number)) (sym e) refl

pub names_first : (a : SendAnswer) (entries : List OutEntry) (entry : OutEntry) → first_unsettled entries ≡ Some entry → IfSome (number_in a) (λ n. n ≡ entry.number) → NamesFirst a entries
names_first a entries entry e named = subst (λ (o : Option OutEntry). IfSome (number_in a) (λ number. IsSomeAnd o (λ (x : OutEntry). x.number ≡ number))) (sym e) (by (number_in a) named)
  where
    by : (o : Option ℕ) → IfSome o (λ n. n ≡ entry.number) → IfSome o (λ n. entry.number ≡ n)
    by None x = tt
    by (Some n) x = sym x

-- an answer that ends at the entry leaves it the first
pub stays_first : (v : Verdict) (number : ℕ) (result : Option SendAnswer) (before after : Copy) (entry : OutEntry) → Takes v number result before after → EndsIf result → first_unsettled before.entries ≡ Some entry → first_unsettled after.entries ≡ Some entry
stays_first v number result before after entry (Stays n e) ends first = subst (λ (c : Copy). first_unsettled c.entries ≡ Some entry) (sym e) first
stays_first v number result before after entry (Settles status version is x e) ends first = absurd (⊎_elim
    (λ (none : result ≡ None). subst EndsIf none ends)
    (λ (broken : IsBroken result). ⊎_elim (λ (f : result ≡ Some answer.KeeperFault). subst EndsIf f ends) (λ (f : result ≡ Some answer.NoMemory). subst EndsIf f ends) broken) x)

pub carries_first : (token : List ℕ) (echo : Echo) (entries : List OutEntry) (sent : List Request) (entry : OutEntry) → first_unsettled entries ≡ Some entry → IsLast (numbered (request_of token entry) echo) sent
    → marked_by (numbered (request_of token entry) echo) ≡ Some (mark_of entry) → CarriesFirst token echo entries sent
carries_first token echo entries sent entry first last read = record { entry = entry; first = first; request = last; read = read }
