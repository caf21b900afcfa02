-- Where a change stands.
use Rattle.std.proofs.Common.{◌≡◌, ◌+◌, length, arith}
use Rattle.keeper_memory.specs.Commits.{CanLead}
use Rattle.version_core.specs.Tables.{AreTables}
use Rattle.version_core.specs.Version.{empty_version, versions_from}
use Rattle.version_core.specs.declared.change.Change.{Change}
use Rattle.version_core.specs.declared.hub_tables.HubTables.{HubTables}
use Rattle.version_core.proofs.VersionLemmas.{newest_number}

-- how far the change's version is from the base
pub so_many : (t : HubTables) (change : Change) → AreTables t → CanLead (versions_from t.base t.changes) change → change.version ≡ t.base.number + (length t.changes + 1)
so_many t change are can =
    let next = can.follows.number in
    let newest = newest_number empty_version t.base t.changes are.lead in
    omega (arith, next, newest)
