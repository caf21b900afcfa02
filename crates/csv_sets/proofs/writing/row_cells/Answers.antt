use Rattle.std.proofs.Common.{refl}
use Rattle.csv_sets.proofs.writing.row_cells.Goals as goal

pub returns-clause-cells : goal.returns-clause-cells
returns-clause-cells c = rw (c.in_ok-push_metadata.ensures, c.in_ok-cells.ensures.cells, c.entries.ensures.entries, c.metadata.ensures) refl
