use Rattle.std.proofs.Common.{◌≡◌, drop}
use Rattle.hub_spec.specs.rules.Refusals.{all_name_seen, is_within}
use Rattle.roster_types.specs.Records.{all_values}
use Rattle.roster_values.specs.Table.{table}
use Rattle.version_core.specs.Changes.{rows_of}
use Rattle.gradebook_core.proofs.fields.is_within.Given as goal

abbrev pub invariant-loop-place : goal.invariant-loop-place
invariant-loop-place l =
    all_name_seen l.grant.schools (rows_of l.view.rows) (drop l.place (table l.row.kind)) (drop l.place (all_values l.row)) ≡ is_within l.grant.schools (rows_of l.view.rows) l.row
