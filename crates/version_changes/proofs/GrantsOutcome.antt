-- Each list of grants makes an outcome.
use Rattle.std.proofs.Common.{◌≡◌, ℤ, ◌+◌, ◌≤◌, ◌==◌, ◌⊎◌, inl, inr, Bool, true, false, ◌&&◌, List, bytes_eq, refl, ap}
use Rattle.std.proofs.Common.{arith}
use Rattle.std.proofs.lemmas.Bool.{cases_lt}
use Rattle.std.proofs.lemmas.Bool.Decides.{Decides-eqb, Decides-like, Decides-and, not_from_Decides}
use Rattle.std.proofs.lemmas.Slice.Eq.{bytes_eq-Decides, slice_eq-Decides}
use Rattle.std.specs.Bool.{Decides}
use Rattle.std.specs.Cmp.Lexicographic.{pointwise}
use Rattle.version_changes.proofs.Granted.{Decides-same_schools}
use Rattle.version_changes.specs.grants.Granting.{GrantsMake, grants_from, same_schools}
use Rattle.grant_scopes.specs.declared.entry.GrantEntry.{GrantEntry}
use Rattle.version_changes.specs.sets.Applying.{Leads, Outcome, Refuses, Unchanged}
use Rattle.version_changes.specs.declared.sets.publish_fault.PublishFault.TheVariants.{LastVersion}
use Rattle.version_core.specs.Version.{last_version}
use Rattle.version_core.specs.declared.change.BaseVersion.{BaseVersion}
use Rattle.version_core.specs.declared.grant_row.GrantRow.{GrantRow}

same_row : GrantRow → GrantRow → Bool
same_row a b =
    bytes_eq a.caller b.caller && (bytes_eq a.grant.token b.grant.token && ((a.grant.scopes == b.grant.scopes) && (same_schools a.grant.schools b.grant.schools && (a.grant.since == b.grant.since))))

row-Decides : (a b : GrantRow) → Decides (same_row a b) (a ≡ b)
unfolding same_row
row-Decides a b =
    Decides-like _ (λ e. λ i. record { caller = e.0 i; grant = record { token = e.1.0 i; scopes = e.1.1.0 i; schools = e.1.1.1.0 i; since = e.1.1.1.1 i } })
    (λ e. (ap (λ (r : GrantRow). r.caller) e, (ap (λ (r : GrantRow). r.grant.token) e, (ap (λ (r : GrantRow). r.grant.scopes) e, (ap (λ (r : GrantRow). r.grant.schools) e, ap (λ (r : GrantRow). r.grant.since) e)))))
    (Decides-and _ _ (bytes_eq-Decides a.caller b.caller) (Decides-and _ _ (bytes_eq-Decides a.grant.token b.grant.token) (Decides-and _ _ (Decides-eqb a.grant.scopes b.grant.scopes)
    (Decides-and _ _ (Decides-same_schools a.grant.schools b.grant.schools) (Decides-eqb a.grant.since b.grant.since)))))

deciding : (xs ys : List GrantRow) → (xs ≡ ys) ⊎ ((xs ≡ ys) → ⊥)
deciding xs ys =
    elim (pointwise same_row xs ys) as (λ b. pointwise same_row xs ys ≡ b → (xs ≡ ys) ⊎ ((xs ≡ ys) → ⊥)) [
      | true ↦ λ e. inl ((slice_eq-Decides row-Decides xs ys _ refl).0 e)
      | false ↦ λ e. inr (not_from_Decides _ (slice_eq-Decides row-Decides xs ys _ refl) e)
    ] refl

pub has_outcome : (version : BaseVersion) (entries : List GrantEntry) (at : ℤ) → version.number ≤ last_version → (outcome : Outcome) × GrantsMake version entries at outcome
has_outcome version entries at le =
    elim (deciding version.grants (grants_from version entries)) as (λ _. (outcome : Outcome) × GrantsMake version entries at outcome) [
      | inl same ↦ (Unchanged, same)
      | inr other ↦ elim (cases_lt version.number last_version) as (λ _. (outcome : Outcome) × GrantsMake version entries at outcome) [
        | inl lt ↦ (Leads (record version { number = version.number + 1; moment = at; grants = grants_from version entries }), (other, lt, refl))
        | inr ge ↦ (Refuses LastVersion, (other, omega (arith, le, ge), refl))
      ]
    ]
