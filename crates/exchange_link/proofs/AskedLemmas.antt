-- How the requests of a call go on.
use Rattle.std.proofs.Common.{◌≡◌, inl, inr, ⊎_elim, ℕ, ◌+◌, List, [], ◌∷◌, ◌++◌, length, refl, sym, ◌∙◌, ap, subst}
use Rattle.std.proofs.Common.{arith, append_assoc, length-append}
use Rattle.exchange_link.specs.Asked.{AreNumbered, SendsOn}
use Rattle.exchange_link.specs.Exchanges.{LinkState}
use Rattle.exchange_link.specs.Owning.{Tries}
use Rattle.exchange_link.specs.Requests.{number}
use Rattle.exchange_link.specs.declared.asking.Outcome.{Outcome}
use Rattle.exchange_link.specs.declared.asking.Outcome.TheVariants as outcome
use Rattle.status_info.specs.declared.request.Echo.{Echo}
use Rattle.status_info.specs.declared.request.Request.{Request}

module _ (may : Echo → Request → Type 0) (run : ℕ) where
  numbered_append : (from mid : ℕ) (first then : List Request) → from + length first ≡ mid → AreNumbered may run from first → AreNumbered may run mid then → AreNumbered may run from (then ++ first)
  numbered_append from mid first [] count before after = before
  numbered_append from mid first (request ∷ then) count before after =
      let same : mid + length then + 1 ≡ from + length (then ++ first) + 1 = omega (arith, length-append then first, count) in
      (subst (λ k. may (number run k) request) same after.0, numbered_append from mid first then count before after.1)

  pub sends_refl : (n : ℕ) (wants : Type 0) (sent : List Request) → SendsOn may run n n wants sent sent
  sends_refl n wants sent = record { more = []; sent = refl; each = tt; all = inl (omega arith) }

  -- one call behind another in which memory didn't run out
  pub sends_trans : (from mid to : ℕ) (never wants : Type 0) (before between after : List Request) → (never → ⊥)
      → SendsOn may run from mid never before between → SendsOn may run mid to wants between after → SendsOn may run from to wants before after
  sends_trans from mid to never wants before between after never_so first then =
      let whole : from + length first.more ≡ mid = ⊎_elim (λ (e : from + length first.more ≡ mid). e) (λ e. absurd (never_so e.0)) first.all in
      let long : length (then.more ++ first.more) ≡ length then.more + length first.more = length-append then.more first.more in
      record {
        more = then.more ++ first.more;
        sent = then.sent ∙ ap (λ l. then.more ++ l) first.sent ∙ sym (append_assoc then.more first.more before);
        each = numbered_append from mid first.more then.more whole first.each then.each;
        all = ⊎_elim (λ (e : mid + length then.more ≡ to). inl (omega (arith, e, whole, long))) (λ (e : wants × (mid + length then.more + 1 ≡ to)). inr (e.0, omega (arith, e.1, whole, long))) then.all;
      }

  -- one exchange
  pub sends_once : (n next : ℕ) (request : Request) (result : Outcome) (before after : LinkState) → next ≡ n + 1 → may (number run next) request
      → Tries request result before after → SendsOn may run n next (result ≡ outcome.NoMemory) before.sent after.sent
  sends_once n next request result before after is_next is tried =
      let same : next ≡ n + 0 + 1 = omega (arith, is_next) in
      ⊎_elim
      (λ (sent : after.sent ≡ request ∷ before.sent). record { more = request ∷ []; sent = sent; each = (subst (λ k. may (number run k) request) same is, tt); all = inl (omega (arith, is_next)) })
      (λ (none : (result ≡ outcome.NoMemory) × (after.sent ≡ before.sent)). record { more = []; sent = none.1; each = tt; all = inr (none.0, omega (arith, is_next)) }) tried.sent

numbered_weaker : (may other : Echo → Request → Type 0) (run from : ℕ) (sent : List Request) → ((n : Echo) (request : Request) → may n request → other n request) → AreNumbered may run from sent → AreNumbered other run from sent
numbered_weaker may other run from [] weaker are = tt
numbered_weaker may other run from (request ∷ sent) weaker are = (weaker _ request are.0, numbered_weaker may other run from sent weaker are.1)

pub sends_weaker : (may other : Echo → Request → Type 0) (run from to : ℕ) (wants given : Type 0) (before after : List Request) → ((n : Echo) (request : Request) → may n request → other n request) → (wants → given)
    → SendsOn may run from to wants before after → SendsOn other run from to given before after
sends_weaker may other run from to wants given before after weaker gives sends = record {
  more = sends.more;
  sent = sends.sent;
  each = numbered_weaker may other run from sends.more weaker sends.each;
  all = ⊎_elim (λ (e : from + length sends.more ≡ to). inl e) (λ (e : wants × (from + length sends.more + 1 ≡ to)). inr (gives e.0, e.1)) sends.all;
}
