use Rattle.std.proofs.Common.{◌≡◌, Some, length}
use Rattle.reference_rules.specs.Parents.{ArePassed, nth_parent}
use Rattle.reference_rules.proofs.cycles.follow.Given as goal

-- the chain has come so far
abbrev pub invariant-loop-turn : goal.invariant-loop-turn
invariant-loop-turn g l = record {
  passed : ArePassed (g.R.Rows.rows l.rows) l.kind l.id l.passed.items;
  follows : nth_parent (g.R.Rows.rows l.rows) l.kind l.id (length l.passed.items) ≡ Some l.current;
}
