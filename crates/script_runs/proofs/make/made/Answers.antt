use Rattle.script_runs.proofs.Making.{made_in}
use Rattle.script_runs.proofs.make.made.Goals as goal

pub returns-in-Ok : goal.returns-in-Ok
returns-in-Ok c = made_in c.make_in-made.result c.args.count c.in-Ok.play c.in-Ok.ensures.opens c.make_in-made.ensures
