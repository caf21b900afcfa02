-- Versions by their places.
use Rattle.std.proofs.Common.{◌≡◌, ℕ, zero, suc, ◌+◌, ◌<◌, ◌≤◌, if◌then◌else◌, List, [], ◌∷◌, ◌++◌, ℤ, true, leb}
use Rattle.std.proofs.Common.{length, slice_get, None, Some, refl, sym, ap, subst, ◌∙◌, add-zero, arith, unwrap_or}
use Rattle.std.proofs.lemmas.Bool.Decides.{nat_tests}
use Rattle.std.specs.List.{AllByRecursion}
use Rattle.std.specs.Option.{option_or, option_to_list}
use Rattle.version_core.specs.History.{AreUpTo, Past, rows_at}
use Rattle.version_core.specs.Since.{standing}
use Rattle.version_core.specs.VersionLog.{version_at, versions_at}
use Rattle.version_core.specs.Version.{last_or}
use Rattle.version_core.specs.declared.change.BaseVersion.{BaseVersion}
use Rattle.version_core.specs.declared.grant_row.GrantRow.{GrantRow}
use Rattle.version_core.specs.declared.since.Since.{Since}

pub held_at : {X : Type 0} (P : X → Type 0) (xs : List X) (n : ℕ) (x : X) → AllByRecursion P xs → slice_get xs n ≡ Some x → P x
held_at P [] n x all at = cc
held_at P (y ∷ xs) zero x all at = let same : y ≡ x = cc in subst P same all.0
held_at P (y ∷ xs) (suc n) x all at = held_at P xs n x all.1 at

-- at two versions that are no older than any entry the same stands
pub standing_later : {A : Type 0} (n v w : ℕ) (entries : List (Since A)) → AllByRecursion (λ entry. entry.version ≤ n) entries → n ≤ v → n ≤ w → standing v entries ≡ standing w entries
standing_later n v w [] to le le' = refl
standing_later n v w (entry ∷ entries) to le le' =
    let here = to.0 in
    let now : leb entry.version v ≡ true = let e : entry.version ≤ v = omega (arith, here, le) in grind (arith, nat_tests) in
    let now' : leb entry.version w ≡ true = let e : entry.version ≤ w = omega (arith, here, le') in grind (arith, nat_tests) in
    (λ i. option_or (standing_later n v w entries to.1 le le' i) (if now i then Some entry.value else None))
    ∙ ap (λ b. option_or (standing w entries) (if b then Some entry.value else None)) (sym now')

pub rows_later : (n v w : ℕ) (pasts : List Past) → AreUpTo n pasts → n ≤ v → n ≤ w → rows_at v pasts ≡ rows_at w pasts
rows_later n v w [] to le le' = refl
rows_later n v w (past ∷ pasts) to le le' = λ i. option_to_list (standing_later n v w past to.0 le le' i) ++ rows_later n v w pasts to.1 le le' i

pub entries_later : {A : Type 0} (n v : ℕ) (entries : List (Since A)) → n ≤ v → AllByRecursion (λ entry. entry.version ≤ n) entries → AllByRecursion (λ entry. entry.version ≤ v) entries
entries_later n v [] le to = tt
entries_later n v (entry ∷ entries) le to = let here = to.0 in (omega (arith, here, le), entries_later n v entries le to.1)

pub up_to_later : (n v : ℕ) (pasts : List Past) → n ≤ v → AreUpTo n pasts → AreUpTo v pasts
up_to_later n v [] le to = tt
up_to_later n v (past ∷ pasts) le to = (entries_later n v past le to.0, up_to_later n v pasts le to.1)

module _ (pasts : List Past) (grants : List (Since (List GrantRow))) where
  pub length-versions_at : (n : ℕ) (moments : List ℤ) → length (versions_at n moments pasts grants) ≡ length moments
  length-versions_at n [] = refl
  length-versions_at n (moment ∷ moments) = ap suc (length-versions_at (n + 1) moments)

  -- one moment more
  pub versions_at-push : (n : ℕ) (moments : List ℤ) (moment : ℤ) → versions_at n (moments ++ moment ∷ []) pasts grants ≡ versions_at n moments pasts grants ++ version_at (n + length moments) moment pasts grants ∷ []
  versions_at-push n [] moment = ap (λ k. version_at k moment pasts grants ∷ []) (sym (add-zero n))
  versions_at-push n (m ∷ moments) moment =
      let number : (n + 1) + length moments ≡ n + suc (length moments) = omega arith in
      ap (λ vs. version_at n m pasts grants ∷ vs) (versions_at-push (n + 1) moments moment)
      ∙ ap (λ k. version_at n m pasts grants ∷ (versions_at (n + 1) moments pasts grants ++ version_at k moment pasts grants ∷ [])) number

  -- the newest version
  pub last_version_at : (d : BaseVersion) (n : ℕ) (moment : ℤ) (moments : List ℤ) → last_or d (versions_at n (moment ∷ moments) pasts grants) ≡ version_at (n + length moments) (last_or moment moments) pasts grants
  last_version_at d n moment [] = ap (λ k. version_at k moment pasts grants) (sym (add-zero n))
  last_version_at d n moment (m ∷ moments) =
      let number : (n + 1) + length moments ≡ n + suc (length moments) = omega arith in
      last_version_at (version_at n moment pasts grants) (n + 1) m moments ∙ ap (λ k. version_at k (last_or m moments) pasts grants) number

  -- the version at a place
  pub version_at_place : (n : ℕ) (moments : List ℤ) (place : ℕ) (moment : ℤ) → slice_get moments place ≡ Some moment → slice_get (versions_at n moments pasts grants) place ≡ Some (version_at (n + place) moment pasts grants)
  version_at_place n [] place moment at = cc
  version_at_place n (m ∷ moments) zero moment at =
      let same : m ≡ moment = cc in λ i. Some (version_at (sym (add-zero n) i) (same i) pasts grants)
  version_at_place n (m ∷ moments) (suc place) moment at =
      let number : (n + 1) + place ≡ n + suc place = omega arith in
      version_at_place (n + 1) moments place moment at ∙ ap (λ k. Some (version_at k moment pasts grants)) number

-- the versions are the same where the same stands at each
pub versions_at-same : (pasts pasts' : List Past) (grants grants' : List (Since (List GrantRow))) (n : ℕ) (moments : List ℤ) → ((v : ℕ) → n ≤ v → v < n + length moments → rows_at v pasts' ≡ rows_at v pasts) → ((v : ℕ) → n ≤ v → v < n + length moments → standing v grants' ≡ standing v grants) → versions_at n moments pasts' grants' ≡ versions_at n moments pasts grants
versions_at-same pasts pasts' grants grants' n [] rows held = refl
versions_at-same pasts pasts' grants grants' n (moment ∷ moments) rows held =
    let here = rows n (omega arith) (omega arith) in
    let granted = held n (omega arith) (omega arith) in
    λ i. record { number = n; moment = moment; rows = here i; grants = unwrap_or (granted i) [] }
    ∷ versions_at-same pasts pasts' grants grants' (n + 1) moments (λ v le lt. rows v (omega (arith, le)) (omega (arith, lt))) (λ v le lt. held v (omega (arith, le)) (omega (arith, lt))) i

pub last_place : {X : Type 0} (x : X) (xs : List X) → slice_get (x ∷ xs) (length xs) ≡ Some (last_or x xs)
last_place x [] = refl
last_place x (y ∷ xs) = last_place y xs

pub all_last : {X : Type 0} (P : X → Type 0) (x : X) (xs : List X) → AllByRecursion P (x ∷ xs) → P (last_or x xs)
all_last P x [] all = all.0
all_last P x (y ∷ xs) all = all_last P y xs all.1
