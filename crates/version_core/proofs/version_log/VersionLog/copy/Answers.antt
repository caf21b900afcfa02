use Rattle.std.proofs.Common.{◌≡◌, ◌+◌, ◌∷◌, ℕ, ℤ, ◌≤◌, List, length, vec_len, sym, ap, subst, ◌∙◌, arith, None}
use Rattle.std.specs.List.{AllByRecursion}
use Rattle.version_core.specs.History.{ArePasts, AreUpTo, Past, pasts_of}
use Rattle.version_core.specs.VersionLog.{kept_of, versions_at}
use Rattle.version_core.specs.Version.{IsVersion}
use Rattle.version_core.specs.declared.change.BaseVersion.{BaseVersion}
use Rattle.version_core.specs.declared.grant_row.GrantRow.{GrantRow}
use Rattle.version_core.specs.declared.since.Since.{Since}
use Rattle.version_core.specs.declared.version_log.VersionLog.TheInside.{Inside}
use Rattle.version_core.proofs.version_log.VersionLog.copy.Goals as goal
use Rattle.version_core.proofs.version_log.VersionLog.copy.Goals.{After-new-3}

module _ (c : After-new-3) where
  abbrev log : Inside
  log = c.self.inside

  abbrev moments : List ℤ
  moments = c.in_ok-moments.moments.items

  abbrev grants : List (Since (List GrantRow))
  grants = c.in_ok-grants.grants.items

  abbrev pasts : List Past
  pasts = pasts_of c.in_ok-histories.histories.items

  -- the parts are copies of the log's
  at : moments ≡ log.moments.items
  at = c.in_ok-moments.ensures.items ∙ c.as_slice.ensures.value

  granted : grants ≡ log.grants.items
  granted = c.in_ok-grants.ensures ∙ c.deref.ensures.value

  stood : pasts ≡ pasts_of log.histories.items
  stood = c.in_ok-histories.ensures ∙ ap pasts_of c.deref-2.ensures.value

  -- and so the versions are the log's
  same : versions_at log.number (log.moment ∷ moments) pasts grants ≡ kept_of log
  same = λ i. versions_at log.number (log.moment ∷ at i) (stood i) (granted i)

pub invariant_of-result : goal.invariant_of-result
invariant_of-result c =
    let log = c.self.inside in
    let is = c.self.invariant in
    let last : log.number + vec_len log.moments ≡ log.number + vec_len c.in_ok-moments.moments = omega (arith, ap length (at c)) in
    record {
      versions = subst (AllByRecursion IsVersion) (sym (same c)) is.versions;
      pasts = subst ArePasts (sym (stood c)) is.pasts;
      up_to = subst (λ (n : ℕ). AreUpTo n (pasts c)) last (subst (AreUpTo (log.number + vec_len log.moments)) (sym (stood c)) is.up_to);
      grants = subst (λ (n : ℕ). AllByRecursion (λ (entry : Since (List GrantRow)). entry.version ≤ n) (grants c)) last (subst (AllByRecursion (λ (entry : Since (List GrantRow)). entry.version ≤ log.number + vec_len log.moments)) (sym (granted c)) is.grants);
      spare = c.new.ensures.items;
      fresh = rw c.new-2.ensures.items tt;
      room = λ keys none. cc;
      index = λ on. cc;
    }

pub returns : goal.returns
returns c =
    rw (← c.self.view_is) (ap (λ (vs : List BaseVersion). record { versions = vs; room = None }) (same c))
