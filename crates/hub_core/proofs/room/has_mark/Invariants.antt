use Rattle.std.proofs.Common.{◌≡◌, drop}
use Rattle.version_core.specs.Marks.{mark_at}
use Rattle.hub_core.proofs.room.has_mark.Given as goal

abbrev pub invariant-loop-mark : goal.invariant-loop-mark
invariant-loop-mark l = mark_at (l.caller, l.number) l.marks ≡ mark_at (l.caller, l.number) (drop l.mark-index l.marks)
