use Rattle.sync_world.proofs.DoneLemmas.{if_done, only_tells}
use Rattle.sync_world.proofs.acts.act.Goals as goal

pub returns-in-Tell-clause-acted : goal.returns-in-Tell-clause-acted
returns-in-Tell-clause-acted c = if_done c.say.result (only_tells c.args.act c.in-Tell.lines c.args.at c.args.world.now c.args.said.now.items c.say.new.said.items c.in-Tell.is) c.say.ensures
