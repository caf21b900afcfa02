use Rattle.csv_sets.proofs.SetSteps.{other_listed, text_listed}
use Rattle.csv_sets.proofs.set.listed_in.Goals as goal

pub returns-in-Ok-clause-listed : goal.returns-in-Ok-clause-listed
returns-in-Ok-clause-listed c = text_listed c.args.bytes.now c.in-Ok.text.now c.listed_by.result c.in-Ok.ensures.cases.0 c.in-Ok.ensures.cases.1 c.listed_by.ensures.listed

pub returns-in-Err-clause-listed : goal.returns-in-Err-clause-listed
returns-in-Err-clause-listed c = other_listed c.args.bytes.now c.in-Err.ensures.cases.0
