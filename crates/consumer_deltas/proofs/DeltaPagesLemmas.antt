-- How many exchanges the pages of a kind take.
use Rattle.std.proofs.Common.{◌≡◌, inl, inr, ◌+◌, ◌-◌, ◌*◌, ◌/◌, ◌<◌, ◌≤◌, ℕ, zero, suc, List, length, min, Some, sym}
use Rattle.std.proofs.Common.{ap, ◌∙◌, arith}
use Rattle.std.specs.Prelude.{Result}
use Rattle.std.proofs.Math.Nat.{add-div_right, mul-le-mul_left}
use Rattle.exchange_link.specs.Bounds.{pages}
use Rattle.hub_spec.specs.rules.Checks.{version_at}
use Rattle.hub_spec.specs.rules.Growth.{Grew}
use Rattle.hub_spec.specs.views.Deltas.{delta as what_differs}
use Rattle.version_core.specs.HubStates.{HubState}
use Rattle.consumer_deltas.specs.DeltaJudging.{Sofar, count_in}
use Rattle.consumer_deltas.specs.DeltaTelling.{IsAtPin, IsPinFrom, PagesBounded}
use Rattle.consumer_deltas.specs.declared.answer.DeltaAnswer.{DeltaAnswer}
use Rattle.consumer_deltas.specs.declared.gathering.Delta.{Delta}
use Rattle.consumer_deltas.specs.declared.judging.Place.{Place}

-- a page more for each whole page
pages_on : (limit n : ℕ) → 0 < limit → pages limit (n + limit) ≡ pages limit n + 1
pages_on limit n pos = let e : (n + limit) + (limit - 1) ≡ (n + (limit - 1)) + limit = omega arith in ap (λ x. x / limit) e ∙ add-div_right (n + (limit - 1)) pos

one_page : (limit n : ℕ) → 0 < limit → 0 < n → 1 ≤ pages limit n
one_page limit n pos some =
    let e : n + (limit - 1) ≡ (n - 1) + limit = omega (arith, pos, some) in
    let x : pages limit n ≡ (n - 1) / limit + 1 = ap (λ x. x / limit) e ∙ add-div_right (n - 1) pos in
    omega (arith, x)

-- behind k whole pages, which aren't all, there is one page more
pub more_pages : (limit k n : ℕ) → 0 < limit → k * limit < n → k + 1 ≤ pages limit n
more_pages limit zero n pos less = let some : 0 < n = omega (arith, less) in one_page limit n pos some
more_pages limit (suc k) n pos less =
    let step : suc k * limit ≡ k * limit + limit = grind arith in
    let e : (n - limit) + limit ≡ n = omega (arith, less, step) in
    let rest : k * limit < n - limit = omega (arith, less, step) in
    let on : pages limit n ≡ pages limit (n - limit) + 1 = ap (pages limit) (sym e) ∙ pages_on limit (n - limit) pos in
    let before = more_pages limit k (n - limit) pos rest in
    omega (arith, on, before)

-- nothing came yet, or k pages at a pin, and not all
pub data Paged (before h : HubState) (token : List ℕ) (place here : Place) (sofar : Sofar) (tries n : ℕ) : Type 0 where
  NoneYet : n ≡ 0 → count_in sofar ≡ 0 → here.pin ≡ place.pin → Paged before h token place here sofar tries n
  Behind : (v k : ℕ) → here.pin ≡ Some v → IsPinFrom place.pin before v → v < length h.published → n ≤ tries * k → count_in sofar ≡ k * place.limit
      → count_in sofar < length (what_differs (version_at h place.base) (version_at h v) token place.kind) → Paged before h token place here sofar tries n

times_more : (n m t k p : ℕ) → n ≤ t * k → m ≤ t → k + 1 ≤ p → n + m ≤ t * p
times_more n m t k p le few more =
    let x : t * (k + 1) ≤ t * p = mul-le-mul_left t more in
    let y : t * (k + 1) ≡ t * k + t = grind arith in
    omega (arith, le, few, x, y)

times_next : (n m t k : ℕ) → n ≤ t * k → m ≤ t → n + m ≤ t * (k + 1)
times_next n m t k le few = let y : t * (k + 1) ≡ t * k + t = grind arith in omega (arith, le, few, y)

first_next : (n m t : ℕ) → n ≡ 0 → m ≤ t → n + m ≤ t * 1
first_next n m t none few = let y : t * 1 ≡ t = grind arith in omega (arith, none, few, y)

module _ (before h i : HubState) (token : List ℕ) (place here : Place) (sofar : Sofar) (tries n m : ℕ) (grew : Grew h i) (based : place.base < length h.published) (some : 0 < place.limit) (few : m ≤ tries) where
  abbrev count_at : HubState → ℕ → ℕ
  count_at s v = length (what_differs (version_at s place.base) (version_at s v) token place.kind)

  same_count : (v : ℕ) → v < length h.published → count_at i v ≡ count_at h v
  same_count v stands = λ k. length (what_differs (grew.same place.base based k) (grew.same v stands k) token place.kind)

  -- one page more, which isn't the last
  pub paged_next : (v : ℕ) (there : Place) (next : Sofar) → ((p : ℕ) → here.pin ≡ Some p → p ≡ v) → there.pin ≡ Some v → IsPinFrom place.pin before v → v < length i.published
      → count_in next ≡ count_in sofar + min place.limit (count_at i v - count_in sofar) → count_in next < count_at i v → Paged before h token place here sofar tries n → Paged before i token place there next tries (n + m)
  paged_next v there next agrees at from stands count less (NoneYet none came pin) =
      let one : count_in next ≡ 1 * place.limit = omega (arith, count, less, came) in
      Behind v 1 at from stands (first_next n m tries none few) one less
  paged_next v there next agrees at from stands count less (Behind u k pin was low le came part) =
      let step : (k + 1) * place.limit ≡ k * place.limit + place.limit = grind arith in
      let more : count_in next ≡ (k + 1) * place.limit = omega (arith, count, less, came, step) in
      Behind v (k + 1) at from stands (times_next n m tries k le few) more less

  -- and to the end
  pub paged_end : (r : Result Delta DeltaAnswer) → ((p : ℕ) → here.pin ≡ Some p → IsAtPin r p) → Paged before h token place here sofar tries n → PagesBounded before i token place tries (n + m) r
  paged_end r named (NoneYet none came pin) = inl (omega (arith, none, few))
  paged_end r named (Behind v k pin from stands le came part) =
      let all : k * place.limit < count_at i v = omega (arith, came, part, same_count v stands) in
      inr (v, from, omega (arith, stands, grew.longer), named v pin, times_more n m tries k (pages place.limit (count_at i v)) le few (more_pages place.limit k (count_at i v) some all))
