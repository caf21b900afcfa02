use Rattle.std.proofs.Common.{rules}
use Rattle.script_runs.proofs.Consuming.{sent}
use Rattle.script_runs.proofs.play.Play.send.Goals as goal

pub returns-in_ok-send_line-in_default : goal.returns-in_ok-send_line-in_default
returns-in_ok-send_line-in_default c =
    sent c.said_with.result c.args.self.now c.said_with.new.self c.send_writes.new.copy c.send_writes.new.link _ c.requires c.send_writes.ensures.link_leads (search rules) c.send_writes.ensures.copy_leads c.said_with.ensures.text c.said_with.ensures.taken
    c.args.task.now c.send_writes.result c.in_default.not-NoMemory c.send_writes.ensures.sent c.in_ok-send_line-in_default.ensures
