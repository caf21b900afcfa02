use Rattle.std.proofs.Common.{rules}
use Rattle.csv_sets.proofs.TextLaws.{cells_text, few_records}
use Rattle.csv_sets.proofs.records.RecordReader.new.Goals as goal

pub returns-clause-text : goal.returns-clause-text
returns-clause-text c = cells_text c.args.text.now _ (search rules) c.utf8.text

pub returns-clause-few : goal.returns-clause-few
returns-clause-few c = few_records c.args.text.now _ (search rules)
