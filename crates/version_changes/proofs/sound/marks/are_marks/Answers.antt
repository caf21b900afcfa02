use Rattle.std.proofs.Common.{sym, ◌∙◌}
use Rattle.version_changes.proofs.SoundMarks.{marks_are}
use Rattle.version_changes.proofs.sound.marks.are_marks.Goals as goal

pub returns : goal.returns
returns c = λ yes. marks_are c.args.newest c.args.marks.now (sym c.are_sound.ensures ∙ c.if-not-are_sound.false) (c.rise.ensures yes)
