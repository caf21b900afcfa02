use Rattle.std.proofs.Common.{◌≡◌, map, take}
use Rattle.consumer_deltas.proofs.staged.copies.Given as goal

-- the rows so far
abbrev pub invariant-loop-row : goal.invariant-loop-row
invariant-loop-row l = l.copied.items ≡ map (λ row. row.now) (take l.row-index l.rows)
