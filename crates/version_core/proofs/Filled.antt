-- A state of a hub whose kept versions are these: versions without rows are filled in below them.
use Rattle.std.proofs.Common.{◌≡◌, ℕ, zero, suc, pos, ◌+◌, ◌-◌, ◌≤◌, List, [], ◌∷◌, ◌++◌, append_assoc, Some, drop}
use Rattle.std.proofs.Common.{length, slice_get, refl, sym, subst, ap, ◌∙◌, add-one, arith}
use Rattle.std.specs.List.{AllByRecursion}
use Rattle.version_core.specs.declared.change.BaseVersion.{BaseVersion}
use Rattle.version_core.specs.declared.grant_row.GrantRow.{GrantRow}
use Rattle.version_core.specs.declared.mark.MarkRow.{MarkRow}
use Rattle.version_core.specs.Grants.{AreGrants, HasGrant}
use Rattle.version_core.specs.HubStates.{AreVersionsFrom, HasFromSince, HubState, IsHubState, KeepGrants, oldest_number}
use Rattle.version_core.specs.Marks.{AreMarks}
use Rattle.version_core.specs.Table.{AreKept}
use Rattle.version_core.specs.Version.{IsVersion, empty_version, first_or, last_or, last_version}
use Rattle.version_core.proofs.GrantLemmas.{AreGrants-until, HasGrant-until, none_before, until}
use Rattle.version_core.proofs.TableLemmas.{last_meets, last_number, versions_are}

-- a version without rows, with those grants whose `since` is at most its number
bare : List GrantRow → ℕ → BaseVersion
bare grants n = record { number = n; moment = pos 0; rows = []; grants = until n grants }

module _ (grants : List GrantRow) where
  -- so many of them below versions
  filled : ℕ → List BaseVersion → List BaseVersion
  filled zero versions = versions
  filled (suc n) versions = filled n (bare grants n ∷ versions)

  is_bare : (n newest : ℕ) → n ≤ last_version → AreGrants newest grants → IsVersion (bare grants n)
  unfolding bare
  is_bare n newest le are = record { number = le; rows = refl; few = λ kind. omega arith; grants = AreGrants-until n newest grants are }

  run_filled : (newest n : ℕ) (versions : List BaseVersion) → AreGrants newest grants → n ≤ last_version → AreVersionsFrom n versions → AreVersionsFrom 0 (filled n versions)
  unfolding filled bare
  run_filled newest zero versions are le run = run
  run_filled newest (suc n) versions are le run = run_filled newest n (bare grants n ∷ versions) are (omega arith) (refl, is_bare n newest (omega arith) are, rw add-one run)

  drop_filled : (n : ℕ) (versions : List BaseVersion) → drop n (filled n versions) ≡ versions
  unfolding filled
  drop_filled zero versions = refl
  drop_filled (suc n) versions = drop_more n (filled n (bare grants n ∷ versions)) (bare grants n) versions (drop_filled n (bare grants n ∷ versions))
    where
      drop_more : {X : Type 0} (n : ℕ) (xs : List X) (x : X) (ys : List X) → drop n xs ≡ x ∷ ys → drop (suc n) xs ≡ ys
      drop_more zero [] x ys e = cc
      drop_more zero (z ∷ xs) x ys e = ap (drop 1) e
      drop_more (suc n) [] x ys e = cc
      drop_more (suc n) (z ∷ xs) x ys e = drop_more n xs x ys e

  length_filled : (n : ℕ) (versions : List BaseVersion) → length (filled n versions) ≡ n + length versions
  unfolding filled
  length_filled zero versions = omega arith
  length_filled (suc n) versions = let e = length_filled n (bare grants n ∷ versions) in omega (arith, e)

  first_filled : (n : ℕ) (versions : List BaseVersion) → AllByRecursion (λ row. 1 ≤ row.grant.since) grants → slice_get (filled (suc n) versions) 0 ≡ Some empty_version
  unfolding filled bare
  first_filled zero versions late = λ i. Some (record { number = 0; moment = pos 0; rows = []; grants = none_before grants late i })
  first_filled (suc n) versions late = first_filled n (bare grants (suc n) ∷ versions) late

  first_of : (n : ℕ) (base : BaseVersion) (rest : List BaseVersion) → AllByRecursion (λ row. 1 ≤ row.grant.since) grants → (n ≡ 0 → base ≡ empty_version) → slice_get (filled n (base ∷ rest)) 0 ≡ Some empty_version
  unfolding filled
  first_of zero base rest late first = ap (λ v. Some v) (first refl)
  first_of (suc n) base rest late first = first_filled n (base ∷ rest) late

  -- the newest version stays
  last_below : (n : ℕ) (d : BaseVersion) (versions : List BaseVersion) → ((e : BaseVersion) → last_or e versions ≡ last_or d versions) → last_or d (filled n versions) ≡ last_or d versions
  unfolding filled
  last_below zero d versions same = refl
  last_below (suc n) d versions same = last_below n d (bare grants n ∷ versions) (λ e. refl) ∙ same (bare grants n)

  -- who has a grant from its `since` on has it in the versions below too
  has_filled : (row : GrantRow) (n : ℕ) (versions : List BaseVersion) → HasGrant grants row → HasFromSince versions row → HasFromSince (filled n versions) row
  unfolding filled bare
  has_filled row zero versions has all = all
  has_filled row (suc n) versions has all = has_filled row n (bare grants n ∷ versions) has ((λ le. HasGrant-until n grants row has le), all)

  -- those that were filled in
  below : ℕ → List BaseVersion
  below zero = []
  below (suc n) = below n ++ bare grants n ∷ []

  filled_below : (n : ℕ) (versions : List BaseVersion) → filled n versions ≡ below n ++ versions
  unfolding filled below
  filled_below zero versions = refl
  filled_below (suc n) versions = filled_below n (bare grants n ∷ versions) ∙ sym (append_assoc (below n) (bare grants n ∷ []) versions)

  none_below : (n : ℕ) → AllByRecursion (λ version. version.rows ≡ []) (below n)
  unfolding below bare
  none_below zero = tt
  none_below (suc n) = with_one (below n) (bare grants n) (none_below n) refl
    where
      with_one : (versions : List BaseVersion) (next : BaseVersion) → AllByRecursion (λ version. version.rows ≡ []) versions → next.rows ≡ [] → AllByRecursion (λ version. version.rows ≡ []) (versions ++ next ∷ [])
      with_one [] next all none = (none, tt)
      with_one (version ∷ versions) next all none = (all.0, with_one versions next all.1 none)

AllByRecursion-two : {X : Type 0} (P Q R : X → Type 0) (xs : List X) → AllByRecursion P xs → AllByRecursion Q xs → ((x : X) → P x → Q x → R x) → AllByRecursion R xs
AllByRecursion-two P Q R [] ps qs both = tt
AllByRecursion-two P Q R (x ∷ xs) ps qs both = (both x ps.0 qs.0, AllByRecursion-two P Q R xs ps.1 qs.1 both)

-- these are the versions that a state keeps, those before them have no rows, and the marks are the state's
pub record AreVersionsOf (keep : ℕ) (versions : List BaseVersion) (marks : List MarkRow) (state : HubState) : Type 0 where
  pub is : IsHubState state
  pub grants : KeepGrants state.published
  pub keep_is : keep ≡ state.keep
  pub oldest : (first_or empty_version versions).number ≡ oldest_number state
  pub versions_are_last : drop (oldest_number state) state.published ≡ versions
  pub marks_are : marks ≡ state.marks
  pub earlier : List BaseVersion
  pub published : state.published ≡ earlier ++ versions
  pub no_rows : AllByRecursion (λ version. version.rows ≡ []) earlier

pub state_of : (keep : ℕ) (versions : List BaseVersion) (marks : List MarkRow) → AreKept keep versions → ((first_or empty_version versions).number ≡ 0 → first_or empty_version versions ≡ empty_version)
    → AllByRecursion (λ row. 1 ≤ row.grant.since) (last_or empty_version versions).grants → KeepGrants versions → AreMarks (last_or empty_version versions).number marks
    → (state : HubState) × AreVersionsOf keep versions marks state
state_of keep [] marks are first since keeps marked = absurd (let some = are.some in omega (arith, some))
state_of keep (base ∷ rest) marks are first since keeps marked =
    let n = base.number in
    let newest = last_or base rest in
    let kept : List BaseVersion = base ∷ rest in
    let published = filled newest.grants n kept in
    let is = last_meets IsVersion base rest (versions_are n kept are.run) in
    let long = length_filled newest.grants n kept in
    let number = last_number empty_version n kept are.run are.some in
    let oldest : (length published - 1) - keep ≡ n = let e = are.oldest in omega (arith, long, number, e) in
    let grants = AllByRecursion-two (λ row. row.grant.since ≤ newest.number) (HasFromSince kept) (HasFromSince published) newest.grants is.grants.since keeps
    (λ row le all. has_filled newest.grants row n kept (last_meets (λ version. row.grant.since ≤ version.number → HasGrant version.grants row) base rest all le) all) in (
      record { keep = keep; published = published; marks = marks },
      record {
        is = record {
          first = first_of newest.grants n base rest since first;
          run = run_filled newest.grants newest.number n kept is.grants are.run.1.number are.run;
          marks = subst (λ m. AreMarks m marks) (omega (arith, long, number)) marked;
        };
        grants = subst (λ (version : BaseVersion). AllByRecursion (HasFromSince published) version.grants) (sym (last_below newest.grants n empty_version kept (λ e. refl))) grants;
        keep_is = refl;
        oldest = sym oldest;
        versions_are_last = ap (λ m. drop m published) oldest ∙ drop_filled newest.grants n kept;
        marks_are = refl;
        earlier = below newest.grants n;
        published = filled_below newest.grants n kept;
        no_rows = none_below newest.grants n;
      },
    )
