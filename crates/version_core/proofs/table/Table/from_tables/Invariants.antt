use Rattle.std.proofs.Common.{◌≡◌, None, take}
use Rattle.version_core.specs.Version.{versions_from}
use Rattle.version_core.proofs.table.Table.from_tables.Given as goal

-- the versions that the changes so far lead to
abbrev pub invariant-loop-change : goal.invariant-loop-change
invariant-loop-change l = l.log ≡ record { versions = versions_from l.tables.base (take l.change-index l.change-items); room = None }
