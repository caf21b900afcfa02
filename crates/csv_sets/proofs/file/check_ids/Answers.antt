use Rattle.std.proofs.Common.{[]}
use Rattle.csv_sets.specs.Files.{first_repeat}
use Rattle.csv_sets.proofs.RepeatSteps.{no_repeat}
use Rattle.csv_sets.proofs.RisingIds.{rise_differ}
use Rattle.csv_sets.proofs.file.check_ids.Goals as goal

pub returns-then-rise : goal.returns-then-rise
returns-then-rise c = no_repeat c.args.kind (first_repeat [] c.args.rows.now) c.args.rows.now (rise_differ [] c.args.rows.now (c.requires.rise c.if-rise.true))
