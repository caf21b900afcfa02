use Rattle.script_runs.proofs.Consuming.{entered}
use Rattle.script_runs.proofs.play.Play.enter_write.Goals as goal

pub returns : goal.returns
returns c = entered c.entered_text.result c.args.self.now c.enter_write.new.copy c.args.write c.enter_write.result c.enter_write.ensures.copy_leads c.enter_write.ensures.entered c.entered_text.ensures
