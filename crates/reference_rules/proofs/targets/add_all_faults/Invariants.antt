use Rattle.roster_values.specs.Table.{info_of}
use Rattle.reference_rules.proofs.ListSteps.{Collects}
use Rattle.reference_rules.specs.Faults.{target_faults}
use Rattle.reference_rules.proofs.targets.add_all_faults.Given as goal

abbrev pub invariant-loop-id : goal.invariant-loop-id
invariant-loop-id g l = Collects (target_faults (g.R.Rows.rows l.rows) l.row (info_of l.info)) l.ids l.id-index l.fn.found.items l.found.items
