use Rattle.std.proofs.Common.{◌≡◌, ◌+◌, ◌<◌, ◌≤◌, ℕ, ℤ, List, ◌∷◌, None, length, get_or, vec_len, sym, ap, subst, ◌∙◌}
use Rattle.std.proofs.Common.{arith, rules}
use Rattle.std.specs.List.{AllByRecursion, remove}
use Rattle.version_core.specs.History.{AreUpTo, pasts_of}
use Rattle.version_core.specs.VersionLog.{IsVersionIndexed, kept_of, last_number, versions_at}
use Rattle.version_core.specs.Version.{IsVersion}
use Rattle.version_core.specs.declared.change.BaseVersion.{BaseVersion}
use Rattle.version_core.specs.declared.grant_row.GrantRow.{GrantRow}
use Rattle.version_core.specs.declared.since.Since.{Since}
use Rattle.version_core.specs.declared.version_log.VersionLog.TheInside.{Inside}
use Rattle.version_core.proofs.AddLemmas.{versions_trimmed}
use Rattle.version_core.proofs.TrimLemmas.{trimmed_all}
use Rattle.version_core.proofs.VersionLemmas.{split_first}
use Rattle.version_core.proofs.ViewLemmas.{length-versions_at}
use Rattle.version_core.proofs.version_log.VersionLog.retire.Goals as goal

-- more than one version has a moment after the first
later_some : (log : Inside) → 2 ≤ length (kept_of log) → 0 < vec_len log.moments
later_some log more =
    let count = length-versions_at (pasts_of log.histories.items) log.grants.items log.number (log.moment ∷ log.moments.items) in
    let len : vec_len log.moments ≡ length log.moments.items = search rules in
    omega (arith, more, count, len)

pub remove-self-inside-requires : goal.remove-self-inside-requires
remove-self-inside-requires c = later_some c.self.inside (rw (← c.self.view_is) at c.requires)

-- the moments from the second version on
later_are : (log : Inside) (first : ℤ) (rest : List ℤ) → 0 < vec_len log.moments → first ≡ get_or log.moments.items 0 first → rest ≡ remove log.moments.items 0 → log.moments.items ≡ first ∷ rest
later_are log first rest some here others =
    let len : vec_len log.moments ≡ length log.moments.items = search rules in
    split_first log.moments.items rest first (omega (arith, some, len)) here others

pub invariant_of-self : goal.invariant_of-self
invariant_of-self c =
    let log = c.self.inside in
    let removed = c.remove-self-inside.ensures in
    let first = c.remove-self-inside.result in
    let rest = c.remove-self-inside.new.self.items in
    let pasts = pasts_of log.histories.items in
    let pasts' = pasts_of c.trim_share-swept.new.histories.items in
    let n : ℕ = log.number + 1 in
    let some = later_some log (rw (← c.self.view_is) at c.requires) in
    let parts = later_are log first rest some removed.value removed.items in
    let number : last_number log ≡ n + vec_len c.remove-self-inside.new.self = omega (arith, some, removed.len) in
    record {
      versions = subst (λ (gs : List (Since (List GrantRow))). AllByRecursion IsVersion (versions_at n (first ∷ rest) pasts' gs)) (sym c.trim.ensures.entries)
          (subst (AllByRecursion IsVersion) (sym (versions_trimmed n (first ∷ rest) pasts pasts' log.grants.items c.trim_share-swept.ensures)) (subst (λ (ms : List ℤ). AllByRecursion IsVersion (versions_at n ms pasts log.grants.items)) parts c.self.invariant.versions.1));
      pasts = c.trim_share-swept.ensures.pasts c.self.invariant.pasts;
      up_to = subst (λ k. AreUpTo k pasts') number (c.trim_share-swept.ensures.up_to (last_number log) c.self.invariant.up_to);
      grants = subst (AllByRecursion (λ (e : Since (List GrantRow)). e.version ≤ n + vec_len c.remove-self-inside.new.self)) (sym c.trim.ensures.entries) (trimmed_all (λ (e : Since (List GrantRow)). e.version ≤ n + vec_len c.remove-self-inside.new.self) n log.grants.items
          (subst (λ k. AllByRecursion (λ (e : Since (List GrantRow)). e.version ≤ k) log.grants.items) number c.self.invariant.grants));
      spare = c.self.invariant.spare;
      fresh = c.self.invariant.fresh;
      room = λ keys none. cc;
      index = λ on.
          let P = IsVersionIndexed log.refs.items in
          subst (λ (gs : List (Since (List GrantRow))). AllByRecursion P (versions_at n (first ∷ rest) pasts' gs)) (sym c.trim.ensures.entries)
          (subst (AllByRecursion P) (sym (versions_trimmed n (first ∷ rest) pasts pasts' log.grants.items c.trim_share-swept.ensures)) (subst (λ (ms : List ℤ). AllByRecursion P (versions_at n ms pasts log.grants.items)) parts (c.self.invariant.index on).1));
    }

pub returns : goal.returns
returns c =
    let log = c.self.inside in
    let removed = c.remove-self-inside.ensures in
    let first = c.remove-self-inside.result in
    let rest = c.remove-self-inside.new.self.items in
    let pasts = pasts_of log.histories.items in
    let pasts' = pasts_of c.trim_share-swept.new.histories.items in
    let n : ℕ = log.number + 1 in
    let some = later_some log (rw (← c.self.view_is) at c.requires) in
    let parts = later_are log first rest some removed.value removed.items in
    rw (← c.self.view_is)
    (ap (λ (gs : List (Since (List GrantRow))). record { versions = versions_at n (first ∷ rest) pasts' gs; room = None }) c.trim.ensures.entries
    ∙ ap (λ (vs : List BaseVersion). record { versions = vs; room = None }) (versions_trimmed n (first ∷ rest) pasts pasts' log.grants.items c.trim_share-swept.ensures ∙ ap (λ (ms : List ℤ). versions_at n ms pasts log.grants.items) (sym parts)))
