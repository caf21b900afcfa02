-- Grants that are kept from version to version.
use Rattle.std.proofs.Common.{◌≡◌, ◌+◌, ◌<◌, ◌≤◌, ℕ, List, [], ◌∷◌, drop, get_or, length, refl, sym, ap, subst, ◌∙◌}
use Rattle.std.specs.Prelude.{⊤}
use Rattle.std.specs.List.{AllByRecursion}
use Rattle.std.proofs.lemmas.List.{drop_all}
use Rattle.version_core.specs.Grants.{HasGrant}
use Rattle.version_core.specs.HubStates.{HasFromSince, KeepGrants}
use Rattle.version_core.specs.Version.{after, empty_version, last_or, versions_from}
use Rattle.version_core.specs.declared.change.BaseVersion.{BaseVersion}
use Rattle.version_core.specs.declared.change.Change.{Change}
use Rattle.version_core.specs.declared.grant_row.GrantRow.{GrantRow}
use Rattle.version_changes.specs.sound.Behind.{KeepAt, KeepBehind, grants_after, last_grants}
use Rattle.version_changes.proofs.AdjacentLemmas.{drop_more}

pub last_more : (grants current : List GrantRow) (changes : List Change) (k : ℕ) (change : Change) → last_grants grants changes ≡ last_grants current (drop k changes) → k < length changes → change ≡ get_or changes k change
    → last_grants grants changes ≡ last_grants (grants_after current change) (drop (k + 1) changes)
last_more grants current changes k change so_far lt is =
    let split : drop k changes ≡ change ∷ drop (k + 1) changes = rw (drop_more changes k change lt, ← is) refl in
    so_far ∙ ap (last_grants current) split

pub last_left : (grants current : List GrantRow) (changes : List Change) (k : ℕ) → last_grants grants changes ≡ last_grants current (drop k changes) → length changes ≤ k → current ≡ last_grants grants changes
last_left grants current changes k so_far le = sym (so_far ∙ ap (last_grants current) (drop_all k changes le))

pub keep_more : (newest grants current : List GrantRow) (changes : List Change) (k : ℕ) (change : Change) → (KeepBehind newest current (drop k changes) → KeepBehind newest grants changes) → k < length changes
    → change ≡ get_or changes k change → KeepAt newest change.version (grants_after current change) → KeepBehind newest (grants_after current change) (drop (k + 1) changes) → KeepBehind newest grants changes
keep_more newest grants current changes k change so_far lt is here rest =
    let split : drop k changes ≡ change ∷ drop (k + 1) changes = rw (drop_more changes k change lt, ← is) refl in
    so_far (subst (KeepBehind newest current) (sym split) (here, rest))

pub keep_left : (newest grants current : List GrantRow) (changes : List Change) (k : ℕ) → (KeepBehind newest current (drop k changes) → KeepBehind newest grants changes) → length changes ≤ k → KeepBehind newest grants changes
keep_left newest grants current changes k so_far le = so_far (subst (KeepBehind newest current) (sym (drop_all k changes le)) tt)

both : {X : Type 0} (P Q : X → Type 0) (xs : List X) → AllByRecursion P xs → AllByRecursion Q xs → AllByRecursion (λ x. P x × Q x) xs
both P Q [] all more = tt
both P Q (x ∷ xs) all more = ((all.0, more.0), both P Q xs all.1 more.1)

alone : {X : Type 0} (P : X → Type 0) (xs : List X) → AllByRecursion P xs → AllByRecursion (λ x. P x × ⊤) xs
alone P [] all = tt
alone P (x ∷ xs) all = ((all.0, tt), alone P xs all.1)

-- in each version, so from each grant's `since` on
kept_in_all : (newest : List GrantRow) (base : BaseVersion) (changes : List Change) → KeepAt newest base.number base.grants → KeepBehind newest base.grants changes → AllByRecursion (HasFromSince (versions_from base changes)) newest
kept_in_all newest base [] here behind = alone (λ row. row.grant.since ≤ base.number → HasGrant base.grants row) newest here
kept_in_all newest base (change ∷ changes) here behind =
    both (λ row. row.grant.since ≤ base.number → HasGrant base.grants row) (HasFromSince (versions_from (after base change) changes)) newest here (kept_in_all newest (after base change) changes behind.0 behind.1)

pub newest_grants : (d base : BaseVersion) (changes : List Change) → (last_or d (versions_from base changes)).grants ≡ last_grants base.grants changes
newest_grants d base [] = refl
newest_grants d base (change ∷ changes) = newest_grants base (after base change) changes

pub grants_kept : (base : BaseVersion) (changes : List Change) (newest : List GrantRow) → newest ≡ last_grants base.grants changes → KeepAt newest base.number base.grants → KeepBehind newest base.grants changes → KeepGrants (versions_from base changes)
grants_kept base changes newest is here behind =
    subst (AllByRecursion (HasFromSince (versions_from base changes))) (is ∙ sym (newest_grants empty_version base changes)) (kept_in_all newest base changes here behind)
