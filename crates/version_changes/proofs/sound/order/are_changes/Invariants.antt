use Rattle.std.proofs.Common.{◌≡◌, ◌+◌, ◌<◌, ℕ, get_or}
use Rattle.std.specs.declared.cmp.Ordering.TheVariants.{Less}
use Rattle.roster_types.specs.Keys.{key_cmp}
use Rattle.version_core.specs.Changes.{change_key}
use Rattle.version_core.specs.declared.row_change.RowChange.{RowChange}
use Rattle.version_changes.proofs.sound.order.are_changes.Given as goal

-- each row so far is below the next
abbrev pub invariant-loop-place : goal.invariant-loop-place
invariant-loop-place l = (k : ℕ) (d : RowChange) → k + 1 < l.place → key_cmp (change_key (get_or l.rows k d)) (change_key (get_or l.rows (k + 1) d)) ≡ Less
