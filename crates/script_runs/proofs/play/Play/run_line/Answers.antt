use Rattle.std.proofs.Common.{string_bytes}
use Rattle.script_runs.proofs.Sounding.{line_sound}
use Rattle.script_runs.proofs.play.Play.run_line.Goals as goal

pub returns-clause-sound : goal.returns-clause-sound
returns-clause-sound g c = line_sound string_bytes c.step-text.result _ c.args.line.now c.args.self.now c.step-text.new.self c.requires c.step-text.ensures.step c.look.ensures.hub c.look.ensures.copy
