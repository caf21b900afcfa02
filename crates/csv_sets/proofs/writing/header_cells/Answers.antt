use Rattle.std.proofs.Common.{refl}
use Rattle.csv_sets.proofs.LineSteps.{columns-of}
use Rattle.csv_sets.proofs.writing.header_cells.Goals as goal

pub returns-clause-cells : goal.returns-clause-cells
returns-clause-cells c =
    rw (c.in_ok-push_key_columns.ensures.cells, c.in_ok-push_columns.ensures, c.new-cells.ensures.items, columns-of c.fields.result.now, c.fields.ensures) refl
