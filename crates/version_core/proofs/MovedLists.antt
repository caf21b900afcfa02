-- Versions of a log whose lists moved to where there is more room.
use Rattle.std.proofs.Common.{◌≡◌, ◌+◌, ◌≤◌, ◌∷◌, ℕ, ℤ, List, vec_len, sym, ap, subst}
use Rattle.std.specs.List.{AllByRecursion}
use Rattle.version_core.specs.History.{ArePasts, AreUpTo, Past, pasts_of}
use Rattle.version_core.specs.VersionLog.{IsLog, kept_of, last_number, versions_at}
use Rattle.version_core.specs.Version.{IsVersion}
use Rattle.version_core.specs.declared.grant_row.GrantRow.{GrantRow}
use Rattle.version_core.specs.declared.since.Since.{Since}
use Rattle.version_core.specs.declared.version_log.VersionLog.TheInside.{Inside}

-- what a log keeps of its versions, with these moments, so many, these pasts and these grants in place of its own
pub record KeepsVersions (log : Inside) (moments : List ℤ) (count : ℕ) (histories : List Past) (given : List (Since (List GrantRow))) : Type 0 where
  pub same : kept_of log ≡ versions_at log.number (log.moment ∷ moments) histories given
  pub versions : AllByRecursion IsVersion (versions_at log.number (log.moment ∷ moments) histories given)
  pub pasts : ArePasts histories
  pub up_to : AreUpTo (log.number + count) histories
  pub grants : AllByRecursion (λ entry. entry.version ≤ log.number + count) given

-- lists that have what the log's own have keep the same versions
pub moved : {log : Inside} {moments : List ℤ} {count : ℕ} {histories : List Past} {given : List (Since (List GrantRow))} → IsLog log
    → moments ≡ log.moments.items → count ≡ vec_len log.moments → histories ≡ pasts_of log.histories.items → given ≡ log.grants.items
    → KeepsVersions log moments count histories given
moved {log} {moments} {count} {histories} {given} is same_moments same_count same_pasts same_grants =
    let same : kept_of log ≡ versions_at log.number (log.moment ∷ moments) histories given =
    λ i. versions_at log.number (log.moment ∷ sym same_moments i) (sym same_pasts i) (sym same_grants i) in
    let last : last_number log ≡ log.number + count = ap (λ n. log.number + n) (sym same_count) in
    record {
      same = same;
      versions = subst (AllByRecursion IsVersion) same is.versions;
      pasts = subst ArePasts (sym same_pasts) is.pasts;
      up_to = subst (λ k. AreUpTo k histories) last (subst (AreUpTo (last_number log)) (sym same_pasts) is.up_to);
      grants = subst (λ k. AllByRecursion (λ (entry : Since (List GrantRow)). entry.version ≤ k) given) last
          (subst (AllByRecursion (λ (entry : Since (List GrantRow)). entry.version ≤ last_number log)) (sym same_grants) is.grants);
    }
