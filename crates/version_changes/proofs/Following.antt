-- Each caller keeps its grant where one more version stands behind others.
use Rattle.std.proofs.Common.{◌≡◌, ℕ, ◌+◌, ◌<◌, ◌≤◌, ◌⊎◌, inl, inr, true, false, cond, List, [], ◌∷◌, ◌++◌, length, map}
use Rattle.std.proofs.Common.{Some, bytes_eq, refl, sym, ap, subst, ◌∙◌, arith}
use Rattle.std.proofs.lemmas.Cmp.{nat_list_cmp_total, tied_itself}
use Rattle.std.proofs.lemmas.Slice.Eq.{bytes_eq-Decides}
use Rattle.std.specs.Cmp.Lexicographic.{slice_cmp}
use Rattle.std.specs.List.{AllByRecursion}
use Rattle.std.specs.List.Sorted.{IsStrictlySortedBy}
use Rattle.std.specs.Ordering.{nat_cmp}
use Rattle.std.specs.declared.cmp.Ordering.TheVariants.{Equal, Less}
use Rattle.version_changes.proofs.Finding.{all_each, all_two, found_meets, same_text}
use Rattle.version_changes.specs.grants.Next.{IsNext}
use Rattle.roster_base.specs.Order.{RiseBy}
use Rattle.version_core.proofs.TableLemmas.{last-push}
use Rattle.version_core.proofs.VersionLemmas.{AllByRecursion-push}
use Rattle.version_core.specs.Grants.{HasGrant, caller_of, grant_row_of}
use Rattle.version_core.specs.HubStates.{AreVersionsFrom, HasFromSince, KeepGrants}
use Rattle.version_core.specs.Version.{IsVersion, empty_version, last_or}
use Rattle.version_core.specs.declared.change.BaseVersion.{BaseVersion}
use Rattle.version_core.specs.declared.grant_row.GrantRow.{GrantRow}

-- each of the grants is had by its caller, as callers differ
each_had : (grants : List GrantRow) → RiseBy caller_of grants → AllByRecursion (HasGrant grants) grants
unfolding IsStrictlySortedBy
each_had [] rise = tt
each_had (row ∷ grants) rise = (
  ap (λ b. cond b (Some row) (grant_row_of row.caller grants)) ((bytes_eq-Decides row.caller row.caller).1 refl),
  all_two (λ other. slice_cmp nat_cmp row.caller other.caller ≡ Less) (HasGrant grants) (HasGrant (row ∷ grants)) grants
      (λ other less has. ap (λ b. cond b (Some row) (grant_row_of other.caller grants)) (apart row.caller other.caller less) ∙ has)
      (callers_above grants rise.0) (each_had grants rise.1),
)
  where
    callers_above : (others : List GrantRow) → AllByRecursion (λ k. slice_cmp nat_cmp row.caller k ≡ Less) (map caller_of others) → AllByRecursion (λ other. slice_cmp nat_cmp row.caller other.caller ≡ Less) others
    callers_above [] all = tt
    callers_above (o ∷ os) all = (all.0, callers_above os all.1)

    apart : (a b : List ℕ) → slice_cmp nat_cmp a b ≡ Less → bytes_eq a b ≡ false
    apart a b less = elim (bytes_eq a b) as (λ t. bytes_eq a b ≡ t → t ≡ false) [
      | true ↦ λ e. let tied : slice_cmp nat_cmp a b ≡ Equal = subst (λ x. slice_cmp nat_cmp a x ≡ Equal) (same_text a b e) (tied_itself nat_list_cmp_total a) in cc
      | false ↦ λ _. refl
    ] refl

-- the same grants, one version later
pub same_grants : (version : BaseVersion) → IsVersion version → (number : ℕ) → AllByRecursion (λ row. (row.grant.since ≡ number) ⊎ HasGrant version.grants row) version.grants
same_grants version is number = all_each (HasGrant version.grants) (λ row. (row.grant.since ≡ number) ⊎ HasGrant version.grants row) version.grants (λ row has. inr has) (each_had version.grants is.grants.rise)

-- versions lie below the one behind them
pub below : (first : ℕ) (versions : List BaseVersion) (n : ℕ) → AreVersionsFrom first versions → first + length versions ≤ n → AllByRecursion (λ v. v.number < n) versions
below first [] n run le = tt
below first (v ∷ vs) n run le = let is = run.0 in (omega arith, below (first + 1) vs n run.2 (omega arith))

module _ (versions : List BaseVersion) (grants : KeepGrants versions) (next : BaseVersion) (is : IsNext (last_or empty_version versions) next) (above : AllByRecursion (λ v. v.number < next.number) versions) where
  -- who has such a grant has it in each version from its `since` on
  keeps : (row : GrantRow) → (row.grant.since ≡ next.number) ⊎ HasGrant (last_or empty_version versions).grants row → HasGrant next.grants row → HasFromSince (versions ++ next ∷ []) row
  keeps row (inl new) has =
      AllByRecursion-push (λ v. row.grant.since ≤ v.number → HasGrant v.grants row) versions next
      (all_each (λ v. v.number < next.number) (λ v. row.grant.since ≤ v.number → HasGrant v.grants row) versions (λ v low le. absurd (omega arith)) above)
      (λ _. has)
  keeps row (inr old) has =
      AllByRecursion-push (λ v. row.grant.since ≤ v.number → HasGrant v.grants row) versions next
      (found_meets (HasFromSince versions) (λ r. bytes_eq r.caller row.caller) (last_or empty_version versions).grants row grants old)
      (λ _. has)

  pub KeepGrants-push : KeepGrants (versions ++ next ∷ [])
  KeepGrants-push = subst (λ (v : BaseVersion). AllByRecursion (HasFromSince (versions ++ next ∷ [])) v.grants) (sym (last-push empty_version next versions))
      (all_two (λ row. (row.grant.since ≡ next.number) ⊎ HasGrant (last_or empty_version versions).grants row) (HasGrant next.grants) (HasFromSince (versions ++ next ∷ [])) next.grants keeps is.grants (each_had next.grants is.version.grants.rise))
