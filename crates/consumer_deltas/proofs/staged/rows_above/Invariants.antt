use Rattle.std.proofs.Common.{◌≡◌, drop, map, option_copied}
use Rattle.consumer_deltas.specs.DeltaStaging.{above}
use Rattle.consumer_deltas.proofs.staged.rows_above.Given as goal

-- no row so far is above
abbrev pub invariant-loop-place : goal.invariant-loop-place
invariant-loop-place l = above (option_copied l.last) (map (λ row. row.now) (drop l.place l.rows)) ≡ above (option_copied l.last) (map (λ row. row.now) l.rows)
