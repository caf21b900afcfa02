use Rattle.std.proofs.Common.{◌≡◌, ◌+◌, ◌-◌, List, Some, length, slice_get, ap, ◌∙◌, arith}
use Rattle.version_core.specs.History.{pasts_of}
use Rattle.version_core.specs.VersionLog.{kept_of, version_at, versions_at}
use Rattle.version_core.specs.Version.{IsVersion, empty_version, last_or}
use Rattle.version_core.specs.declared.change.BaseVersion.{BaseVersion}
use Rattle.version_core.specs.declared.version_log.VersionLog.TheInside.{Inside}
use Rattle.version_core.proofs.ViewLemmas.{all_last, last_place, last_version_at, length-versions_at}
use Rattle.version_core.proofs.version_log.VersionLog.newest_rows.Goals as goal

module _ (table : Inside) where
  pub number : (last_or empty_version (kept_of table)).number ≡ table.number + length table.moments.items
  number = ap (λ (v : BaseVersion). v.number) (last_version_at (pasts_of table.histories.items) table.grants.items empty_version table.number table.moment table.moments.items)

  later : List BaseVersion
  later = versions_at (table.number + 1) table.moments.items (pasts_of table.histories.items) table.grants.items

  pub stands : (n : _) → n ≡ (last_or empty_version (kept_of table)).number → slice_get (kept_of table) (n - table.number) ≡ Some (last_or empty_version (kept_of table))
  unfolding later
  stands n same =
      let place : n - table.number ≡ length later = let e = number in let len = length-versions_at (pasts_of table.histories.items) table.grants.items (table.number + 1) table.moments.items in omega (arith, e, len, same) in
      ap (slice_get (kept_of table)) place ∙ last_place (version_at table.number table.moment (pasts_of table.histories.items) table.grants.items) later

pub rows_at-requires-clause-oldest : goal.rows_at-requires-clause-oldest
rows_at-requires-clause-oldest c =
    let e = number c.self.inside in
    let newest = rw (← c.self.view_is) at c.newest.ensures in
    rw (← c.self.view_is) (omega (arith, e, newest))

pub returns-clause-newest : goal.returns-clause-newest
returns-clause-newest c =
    let newest = rw (← c.self.view_is) at c.newest.ensures in
    let here = rw (← c.self.view_is) at c.rows_at.ensures.at in
    let there = stands c.self.inside c.newest.result newest in
    rw (← c.self.view_is) (cc)

pub returns-clause-version : goal.returns-clause-version
returns-clause-version c =
    let table = c.self.inside in
    rw (← c.self.view_is) (all_last IsVersion (version_at table.number table.moment (pasts_of table.histories.items) table.grants.items) (versions_at (table.number + 1) table.moments.items (pasts_of table.histories.items) table.grants.items) c.self.invariant.versions)
