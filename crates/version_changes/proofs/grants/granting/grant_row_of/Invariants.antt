use Rattle.std.proofs.Common.{◌≡◌, drop}
use Rattle.version_core.specs.Grants.{grant_row_of}
use Rattle.version_changes.proofs.grants.granting.grant_row_of.Given as goal

abbrev pub invariant-loop-row : goal.invariant-loop-row
invariant-loop-row l = grant_row_of l.caller l.grants ≡ grant_row_of l.caller (drop l.row-index l.grants)
