use Rattle.std.proofs.Common.{◌≡◌, ◌+◌, ◌<◌, ℕ, get_or}
use Rattle.std.specs.declared.cmp.Ordering.TheVariants.{Less}
use Rattle.version_core.specs.Marks.{mark_cmp}
use Rattle.version_core.specs.declared.mark.MarkRow.{MarkRow}
use Rattle.version_changes.proofs.sound.marks.rise.Given as goal

-- each mark so far is below the next
abbrev pub invariant-loop-place : goal.invariant-loop-place
invariant-loop-place l = (k : ℕ) (d : MarkRow) → k + 1 < l.place → mark_cmp (get_or l.marks k d) (get_or l.marks (k + 1) d) ≡ Less
