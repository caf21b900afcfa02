use Rattle.csv_sets.proofs.LineSteps.{texts_plain}
use Rattle.csv_sets.proofs.writing.write_line.Goals as goal

pub returns-clause-plain : goal.returns-clause-plain
returns-clause-plain c = texts_plain c.args.cells.now
