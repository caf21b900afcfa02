use Rattle.std.proofs.Common.{rules}
use Rattle.script_runs.proofs.Consuming.{synced}
use Rattle.script_runs.proofs.play.Play.synchronise.Goals as goal

pub returns-in_default : goal.returns-in_default
returns-in_default c =
    synced c.told_sync.result c.args.self.now c.told_sync.new.self c.synchronise-answer.new.copy c.synchronise-answer.new.link c.args.task.now c.synchronise-answer.result c.requires c.in_default.not-NoMemory
    c.synchronise-answer.ensures.link_leads (search rules) c.synchronise-answer.ensures.copy_leads c.synchronise-answer.ensures.sync c.look.ensures.hub c.look.ensures.copy c.told_sync.ensures.answer c.told_sync.ensures.text c.told_sync.ensures.taken
