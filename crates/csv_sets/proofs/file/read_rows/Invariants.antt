use Rattle.std.proofs.Common.{◌≡◌, length, true}
use Rattle.roster_base.specs.Order.{RiseBy}
use Rattle.csv_sets.specs.Files.{id_in}
use Rattle.csv_sets.proofs.RepeatSteps.{Leads}
use Rattle.csv_sets.proofs.file.read_rows.Given as goal

abbrev pub invariant-loop-values : goal.invariant-loop-values
invariant-loop-values l = record {
  leads : Leads l.kind l.mode l.header l.rows.items l.number l.reader l.fn.reader;
  rise : l.rise ≡ true → RiseBy id_in l.rows.items;
}

abbrev pub decreases-loop-values : goal.decreases-loop-values
decreases-loop-values l = length l.reader
