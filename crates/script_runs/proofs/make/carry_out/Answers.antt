use Rattle.std.proofs.Common.{Some, string_bytes}
use Rattle.script_runs.proofs.Sounding.{hub_sound}
use Rattle.script_runs.proofs.make.carry_out.Goals as goal

pub returns-in-Ok-clause-sound : goal.returns-in-Ok-clause-sound
returns-in-Ok-clause-sound c = hub_sound (Some c.args.folder.now.files) c.args.line c.args.play.now c.hub-done.new.self (string_bytes c.in-Ok.text) c.requires c.in-Ok.ensures.step c.look.ensures.hub c.look.ensures.copy
