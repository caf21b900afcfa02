-- Requests, one behind the other.
use Rattle.std.proofs.Common.{◌≡◌, ℕ, List, [], ◌∷◌, ◌++◌, Bool, true, false, Option, Some, None, Ok, Err, refl, sym}
use Rattle.std.proofs.Common.{◌∙◌, subst}
use Rattle.std.specs.Prelude.{MatchBool, MatchOption, ⊤}
use Rattle.std.proofs.lemmas.List.{append-nil}
use Rattle.status_info.specs.declared.request.Request.{Request}
use Rattle.http_wire.specs.declared.fault.WireFault.{WireFault}
use Rattle.http_wire.specs.Lasting.{lasting}
use Rattle.http_wire.specs.Reading.{AreFirst, AreRequests, BeginsWith, Fails, FailsAgain, HasRead, Held, OnStream}

-- done are the first requests of a known stream
abbrev pub Continues : Option (List ℕ) → Option (List ℕ) → List Request → Type 0
Continues None now done = ⊤
Continues (Some stream) None done = ⊥
Continues (Some stream) (Some left) done = AreFirst stream done left

pub continues_none : (stream : Option (List ℕ)) → Continues stream stream []
continues_none None = tt
continues_none (Some stream) = refl

-- one more, which doesn't close the stream
first_push : (stream left new : List ℕ) (xs : List Request) (r : Request) → AreFirst stream xs left → BeginsWith left r new → r.close ≡ false → AreFirst stream (xs ++ r ∷ []) new
first_push stream left new [] r first begins stays = (new, subst (λ (bytes : List ℕ). BeginsWith bytes r new) first begins, stays, refl)
first_push stream left new (x ∷ xs) r (after, starts, open_still, first) begins stays = (after, starts, open_still, first_push after left new xs r first begins stays)

-- the others stand in what is left
first_then : (stream left : List ℕ) (xs more : List Request) (rest : List ℕ) → AreFirst stream xs left → AreRequests left more rest → AreRequests stream (xs ++ more) rest
first_then stream left [] more rest first are = subst (λ (bytes : List ℕ). AreRequests bytes more rest) first are
first_then stream left (x ∷ xs) more rest (after, starts, stays, first) are = (
  after,
  starts,
  subst (λ (b : Bool). MatchBool b ((xs ++ more ≡ []) × (rest ≡ after)) (AreRequests after (xs ++ more) rest)) (sym stays)
      (first_then after left xs more rest first are),
)

-- a request that doesn't close the stream
pub continues_more : (known : Option WireFault) (stream left new : Option (List ℕ)) (xs : List Request) (r : Request) → Continues stream left xs
    → OnStream known left new (Ok r) → r.close ≡ false → Continues stream new ((xs ++ r ∷ []))
continues_more known None left new xs r done on stays = tt
continues_more known (Some stream) None new xs r done on stays = absurd done
continues_more known (Some stream) (Some left) None xs r done on stays = absurd on
continues_more known (Some stream) (Some left) (Some new) xs r done on stays = first_push stream left new xs r done on stays

-- one that closes it
pub closes_behind : (known : Option WireFault) (stream left new : Option (List ℕ)) (xs : List Request) (r : Request) → Continues stream left xs
    → OnStream known left new (Ok r) → r.close ≡ true → HasRead stream new ((xs ++ r ∷ [])) None
closes_behind known None left new xs r done on closed = tt
closes_behind known (Some stream) None new xs r done on closed = absurd done
closes_behind known (Some stream) (Some left) None xs r done on closed = absurd on
closes_behind known (Some stream) (Some left) (Some new) xs r done on closed =
    let behind : MatchBool r.close ((◌≡◌ {A = List Request} [] []) × (new ≡ new)) (AreRequests new [] new) =
    subst (λ (b : Bool). MatchBool b ((◌≡◌ {A = List Request} [] []) × (new ≡ new)) (AreRequests new [] new)) (sym closed) (refl, refl) in
    first_then stream left xs (r ∷ []) new done (new, on, behind)

-- a fault
pub fails_behind : (known : Option WireFault) → known ≡ None → (stream left new : Option (List ℕ)) (done : List Request) (e : WireFault) → Continues stream left done
    → OnStream known left new (Err e) → HasRead stream new done (Some e)
fails_behind known fresh None left new done e first on = tt
fails_behind known fresh (Some stream) None new done e first on = absurd first
fails_behind known fresh (Some stream) (Some left) None done e first on = absurd on
fails_behind known fresh (Some stream) (Some left) (Some new) done e first (same, none) = (
  subst (λ (bytes : List ℕ). AreFirst stream done bytes) (sym same) first,
  (λ lasts. subst (λ (ys : List Request). AreRequests stream ys new) (append-nil done) (first_then stream left done [] new first (none fresh lasts, same))),
)

-- no memory for one more
pub stops_behind : (stream left : Option (List ℕ)) (done : List Request) (e : WireFault) → lasting e ≡ None → Continues stream left done → HasRead stream left done (Some e)
stops_behind None left done e none first = tt
stops_behind (Some stream) None done e none first = absurd first
stops_behind (Some stream) (Some left) done e none first = (first, (λ lasts. let x : Some e ≡ None = sym lasts ∙ none in cc))

-- the fault of a call stands as far as it lasts
pub fault_stands : (known : Option WireFault) (e : WireFault) (bytes taken : List ℕ) (old new : Held) (left : Option (List ℕ)) → known ≡ None
    → MatchOption known (Fails e bytes new left) (λ k. FailsAgain k e taken old new) → new.fault ≡ lasting e
fault_stands None e bytes taken old new left fresh fails = fails.fault
fault_stands (Some k) e bytes taken old new left fresh fails = cc
