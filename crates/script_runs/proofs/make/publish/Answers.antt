use Rattle.script_runs.proofs.Making.{publishes}
use Rattle.script_runs.proofs.make.publish.Goals as goal

pub returns-clause-publishes : goal.returns-clause-publishes
returns-clause-publishes c =
    publishes c.carry_out-2.result c.args.count c.args.play.now c.carry_out.new.play c.carry_out-2.new.play c.in_ok-folder.folder.files c.carry_out.new.folder.files c.in_ok-set_line.field-0 c.in_ok-grant_line.field-0
    c.in_ok-folder.ensures c.in_ok-carry_out.ensures.files c.in_ok-set_line.ensures c.in_ok-grant_line.ensures c.in_ok-carry_out.ensures.step c.carry_out-2.ensures.step
