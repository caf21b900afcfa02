-- The tables of a state.
use Rattle.std.proofs.Common.{◌≡◌, ℕ, zero, suc, ◌+◌, ◌<◌, ◌≤◌, List, [], ◌∷◌, Some, drop, length, length-drop}
use Rattle.std.proofs.Common.{slice_get, refl, sym, subst, ap, ◌∙◌, add-zero, zero-add, arith, inl, inr}
use Rattle.std.proofs.lemmas.Bool.{cases_lt}
use Rattle.std.specs.List.{AllByRecursion}
use Rattle.version_core.specs.declared.change.BaseVersion.{BaseVersion}
use Rattle.version_core.specs.declared.change.Change.{Change}
use Rattle.version_core.specs.declared.grant_row.GrantRow.{GrantRow}
use Rattle.version_core.specs.declared.hub_tables.HubTables.{HubTables}
use Rattle.version_core.specs.Changes.{AreChanges}
use Rattle.version_core.specs.Grants.{HasGrant}
use Rattle.version_core.specs.HubStates.{AreVersionsFrom, HasFromSince, HubState, IsHubState, KeepGrants, StandsFor}
use Rattle.version_core.specs.HubStates.{newest_number as newest_of_state, oldest_number}
use Rattle.version_core.specs.Marks.{AreMarks}
use Rattle.version_core.specs.Table.{LeadOn}
use Rattle.version_core.specs.Tables.{AreTables}
use Rattle.version_core.specs.Version.{after, empty_version, last_or, versions_from}
use Rattle.version_core.proofs.HistoryLemmas.{all_drop}
use Rattle.version_core.proofs.RoomLemmas.{all_weaken}
use Rattle.version_core.proofs.TableLemmas.{versions_are}
use Rattle.version_core.proofs.VersionLemmas.{length-versions_from, newest_number}

run_drop : (n k : ℕ) (versions : List BaseVersion) → AreVersionsFrom n versions → AreVersionsFrom (n + k) (drop k versions)
run_drop n zero versions run = subst (λ m. AreVersionsFrom m versions) (sym (add-zero n)) run
run_drop n (suc k) [] run = tt
run_drop n (suc k) (version ∷ versions) run =
    let number : (n + 1) + k ≡ n + suc k = omega arith in
    subst (λ m. AreVersionsFrom m (drop k versions)) number (run_drop (n + 1) k versions run.2)

first_of_run : (n : ℕ) (base : BaseVersion) (changes : List Change) → AreVersionsFrom n (versions_from base changes) → base.number ≡ n
first_of_run n base [] run = run.0
first_of_run n base (change ∷ changes) run = run.0

lead_from : (base : BaseVersion) (changes : List Change) → AreVersionsFrom base.number (versions_from base changes) → LeadOn base.number changes
lead_from base [] run = tt
lead_from base (change ∷ changes) run =
    let next = first_of_run (base.number + 1) (after base change) changes run.2 in
    (next, lead_from (after base change) changes (subst (λ n. AreVersionsFrom n (versions_from (after base change) changes)) (sym next) run.2))

last_drop : {X : Type 0} (d : X) (n : ℕ) (xs : List X) → n < length xs → last_or d (drop n xs) ≡ last_or d xs
last_drop d zero xs lt = refl
last_drop d (suc n) [] lt = absurd (omega arith)
last_drop d (suc n) (x ∷ []) lt = absurd (omega arith)
last_drop d (suc n) (x ∷ y ∷ xs) lt = last_drop d n (y ∷ xs) (omega arith)

-- no grant of a caller who has had it from its `since` on is as old as the empty version
late : (versions : List BaseVersion) (rows : List GrantRow) → slice_get versions 0 ≡ Some empty_version → AllByRecursion (HasFromSince versions) rows → AllByRecursion (λ row. 1 ≤ row.grant.since) rows
late versions rows first all = all_weaken (HasFromSince versions) (λ row. 1 ≤ row.grant.since) rows (λ row has. is_late versions row first has) all
  where
    is_late : (versions : List BaseVersion) (row : GrantRow) → slice_get versions 0 ≡ Some empty_version → HasFromSince versions row → 1 ≤ row.grant.since
    is_late [] row first has = cc
    is_late (version ∷ versions) row first has =
        let empty : version ≡ empty_version = cc in
        let had = subst (λ (v : BaseVersion). row.grant.since ≤ v.number → HasGrant v.grants row) empty has.0 in
        elim (cases_lt row.grant.since 1) [
          | inl early ↦ let none = had (omega (arith, early)) in cc
          | inr from ↦ from
        ]

first_from : (base : BaseVersion) (changes : List Change) → slice_get (versions_from base changes) 0 ≡ Some base
first_from base [] = refl
first_from base (change ∷ changes) = refl

pub tables_of : (tables : HubTables) (state : HubState) → IsHubState state → KeepGrants state.published → StandsFor tables state → AllByRecursion (λ change. AreChanges change.rows) tables.changes → AreTables tables
tables_of tables state is keep stands rows =
    let base = tables.base in
    let changes = tables.changes in
    let oldest = oldest_number state in
    let versions = versions_from base changes in
    let last_kept = last_or empty_version versions in
    let dropped_run = subst (λ n. AreVersionsFrom n (drop oldest state.published)) (zero-add oldest) (run_drop 0 oldest state.published is.run) in
    let run_at = subst (AreVersionsFrom oldest) stands.kept dropped_run in
    let run : AreVersionsFrom base.number versions = subst (λ n. AreVersionsFrom n versions) (sym stands.oldest) run_at in
    let lead = lead_from base changes run in
    let count = ap length stands.kept in
    let dropped = length-drop oldest state.published in
    let long = length-versions_from base changes in
    let some : oldest < length state.published = omega (arith, count, dropped, long) in
    let last : last_kept ≡ last_or empty_version state.published = ap (last_or empty_version) (sym stands.kept) ∙ last_drop empty_version oldest state.published some in
    let newest = newest_number empty_version base changes lead in
    let number : newest_of_state state ≡ last_kept.number = omega (arith, newest, count, dropped, long, stands.oldest, some) in
    let kept : AllByRecursion (HasFromSince state.published) last_kept.grants = subst (λ (v : BaseVersion). AllByRecursion (HasFromSince state.published) v.grants) (sym last) keep in
    record {
      versions = versions_are base.number versions run;
      changes = rows;
      lead = lead;
      oldest = omega (arith, newest, number, stands.oldest, stands.keep);
      first = λ none.
          let all : drop oldest state.published ≡ state.published = ap (λ n. drop n state.published) (sym stands.oldest ∙ none) in
          let first : Some base ≡ Some empty_version = sym (first_from base changes) ∙ ap (λ vs. slice_get vs 0) (sym stands.kept ∙ all) ∙ is.first in
          cc;
      since = late state.published last_kept.grants is.first kept;
      grants = all_weaken (HasFromSince state.published) (HasFromSince versions) last_kept.grants
          (λ row has. subst (λ vs. HasFromSince vs row) stands.kept (all_drop (λ (version : BaseVersion). row.grant.since ≤ version.number → HasGrant version.grants row) state.published oldest has)) kept;
      marks = subst (λ ms. AreMarks last_kept.number ms) (sym stands.marks) (subst (λ n. AreMarks n state.marks) number is.marks);
    }
