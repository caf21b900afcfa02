use Rattle.roster_types.specs.declared.status.Status.TheVariants.{ToBeDeleted}
use Rattle.roster_types.specs.Records.{all_values}
use Rattle.roster_types.proofs.BoundLaws.{BoundSums}
use Rattle.roster_values.specs.Table.{table}
use Rattle.roster_types.proofs.parts.RowParts.members_bound.Given as goal

abbrev pub invariant-loop-place : goal.invariant-loop-place
invariant-loop-place l = BoundSums (table l.self.kind) (all_values (record l.self { status = ToBeDeleted })) l.place l.bound
