-- The versions of a state by their numbers.
use Rattle.std.proofs.Common.{◌≡◌, ℕ, zero, suc, ◌+◌, ◌-◌, ◌<◌, ◌≤◌, List, [], ◌∷◌, length, drop, get_or, length-drop}
use Rattle.std.proofs.Common.{slice_get, Some, inl, inr, refl, sym, ap, subst, ◌∙◌, arith}
use Rattle.std.proofs.lemmas.Bool.{cases_lt}
use Rattle.std.specs.List.{AllByRecursion}
use Rattle.hub_spec.specs.rules.Checks.{version_at}
use Rattle.hub_spec.specs.rules.States.{ReadsAs}
use Rattle.hub_spec.specs.rules.Verdicts.{newest_in}
use Rattle.version_core.specs.Changes.{AreChanges}
use Rattle.version_core.specs.HubStates.{AreVersionsFrom, HubState, IsHubState, newest_number, oldest_number}
use Rattle.version_core.specs.Version.{IsVersion, empty_version, last_or}
use Rattle.version_core.specs.declared.change.BaseVersion.{BaseVersion}

-- a version at its place has its number
pub number_from : (first n : ℕ) (versions : List BaseVersion) → AreVersionsFrom first versions → n < length versions → (get_or versions n empty_version).number ≡ first + n
number_from first n [] run within = absurd (omega arith)
number_from first zero (v ∷ vs) run within = run.0 ∙ omega arith
number_from first (suc n) (v ∷ vs) run within = number_from (first + 1) n vs run.2 (omega arith) ∙ omega arith

pub is_version_from : (first n : ℕ) (versions : List BaseVersion) → AreVersionsFrom first versions → n < length versions → IsVersion (get_or versions n empty_version)
is_version_from first n [] run within = absurd (omega arith)
is_version_from first zero (v ∷ vs) run within = run.1
is_version_from first (suc n) (v ∷ vs) run within = is_version_from (first + 1) n vs run.2 (omega arith)

-- beyond them there is the empty version
pub beyond : (n : ℕ) (versions : List BaseVersion) → length versions ≤ n → get_or versions n empty_version ≡ empty_version
beyond n [] above = refl
beyond zero (v ∷ vs) above = absurd (omega arith)
beyond (suc n) (v ∷ vs) above = beyond n vs (omega arith)

pub last_at : (d : BaseVersion) (versions : List BaseVersion) → 0 < length versions → last_or d versions ≡ get_or versions (length versions - 1) empty_version
last_at d [] some = absurd (omega arith)
last_at d (v ∷ []) some = refl
last_at d (v ∷ w ∷ vs) some =
    let more : suc (length (w ∷ vs) - 1) ≡ length (v ∷ w ∷ vs) - 1 = omega arith in
    last_at v (w ∷ vs) (omega arith) ∙ ap (λ n. get_or (v ∷ w ∷ vs) n empty_version) more

pub all_at : (P : BaseVersion → Type 0) (n : ℕ) (versions : List BaseVersion) → AllByRecursion P versions → n < length versions → P (get_or versions n empty_version)
all_at P n [] all within = absurd (omega arith)
all_at P zero (v ∷ vs) all within = all.0
all_at P (suc n) (v ∷ vs) all within = all_at P n vs all.1 (omega arith)

has_first : (versions : List BaseVersion) → slice_get versions 0 ≡ Some empty_version → 0 < length versions
has_first [] first = cc
has_first (v ∷ vs) first = omega arith

module _ (state : HubState) (is : IsHubState state) where
  pub some_version : 0 < length state.published
  some_version = has_first state.published is.first

  -- the newest version is the one with the newest number
  pub newest_at : newest_in state ≡ version_at state (newest_number state)
  newest_at = last_at empty_version state.published some_version

  pub number_at : (n : ℕ) → n ≤ newest_number state → (version_at state n).number ≡ n
  number_at n within = number_from 0 n state.published is.run (omega (arith, some_version)) ∙ omega arith

  pub version_is : (n : ℕ) → n ≤ newest_number state → IsVersion (version_at state n)
  version_is n within = is_version_from 0 n state.published is.run (omega (arith, some_version))

  pub newest_is : IsVersion (newest_in state)
  newest_is = subst IsVersion (sym newest_at) (version_is (newest_number state) (omega arith))

  pub newest_has : (newest_in state).number ≡ newest_number state
  newest_has = ap (λ (v : BaseVersion). v.number) newest_at ∙ number_at (newest_number state) (omega arith)

  -- the rows of each version ascend
  pub rows_ascend : (n : ℕ) → AreChanges (version_at state n).rows
  rows_ascend n = elim (cases_lt n (length state.published)) as (λ _. AreChanges (version_at state n).rows) [
    | inl within ↦ (is_version_from 0 n state.published is.run within).rows
    | inr above ↦ subst (λ (v : BaseVersion). AreChanges v.rows) (sym (beyond n state.published above)) refl
  ]

-- ---- the kept versions alone

get_drop : (n k : ℕ) (versions : List BaseVersion) → get_or (drop k versions) n empty_version ≡ get_or versions (k + n) empty_version
get_drop n zero versions = ap (λ m. get_or versions m empty_version) (omega arith)
get_drop n (suc k) [] = sym (beyond (suc k + n) [] (omega arith))
get_drop n (suc k) (v ∷ vs) = get_drop n k vs ∙ ap (λ m. get_or (v ∷ vs) m empty_version) more
  where
    more : suc (k + n) ≡ suc k + n
    more = omega arith

last_drop : (d : BaseVersion) (k : ℕ) (versions : List BaseVersion) → k < length versions → last_or d (drop k versions) ≡ last_or d versions
last_drop d zero versions within = refl
last_drop d (suc k) [] within = absurd (omega arith)
last_drop d (suc k) (v ∷ vs) within = last_same d v (drop k vs) (let e = length-drop k vs in omega arith) ∙ last_drop v k vs (omega arith)
  where
    last_same : (d v : BaseVersion) (ws : List BaseVersion) → 0 < length ws → last_or d ws ≡ last_or v ws
    last_same d v [] some = absurd (omega arith)
    last_same d v (w ∷ ws) some = refl

-- what is read of a state is read of its kept versions
pub reads_kept : (state : HubState) → IsHubState state → (versions : List BaseVersion) → drop (oldest_number state) state.published ≡ versions → ReadsAs state versions
reads_kept state is versions kept = record {
  newest = subst (λ vs. newest_in state ≡ last_or empty_version vs) kept (sym (last_drop empty_version (oldest_number state) state.published (omega (arith, some_version state is))));
  at = λ n old new. subst (λ vs. version_at state n ≡ get_or vs (n - oldest_number state) empty_version) kept
      (let place : oldest_number state + (n - oldest_number state) ≡ n = omega arith in ap (λ m. get_or state.published m empty_version) (sym place) ∙ sym (get_drop (n - oldest_number state) (oldest_number state) state.published));
}
