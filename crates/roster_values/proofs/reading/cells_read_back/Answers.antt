use Rattle.roster_values.proofs.CellLaws.{cell_reads}
use Rattle.roster_values.proofs.reading.cells_read_back.Goals as goal

pub returns : goal.returns
returns c = cell_reads
