-- Versions that may stand behind others.
use Rattle.std.specs.Prelude.{◌≡◌, ◌+◌, ◌⊎◌}
use Rattle.std.specs.List.{AllByRecursion}
use Rattle.version_core.specs.Grants.{HasGrant}
use Rattle.version_core.specs.Version.{IsVersion}
use Rattle.version_core.specs.declared.change.BaseVersion.{BaseVersion}

-- a version that may stand behind another: each of its grants is new with it, or was there already
pub record IsNext (newest next : BaseVersion) : Type 0 where
  pub number : next.number ≡ newest.number + 1
  pub version : IsVersion next
  pub grants : AllByRecursion (λ row. (row.grant.since ≡ next.number) ⊎ HasGrant newest.grants row) next.grants
