use Rattle.std.proofs.Common.{◌≡◌, Some, false}
use Rattle.reference_rules.specs.Parents.{returns_within, nth_parent}
use Rattle.reference_rules.proofs.chains.returns_within.Given as goal

-- the chain has come so far, and not back
abbrev pub invariant-loop-turn : goal.invariant-loop-turn
invariant-loop-turn g l = record {
  follows : nth_parent (g.R.Rows.rows l.rows) l.kind l.id l._turn ≡ Some l.current;
  not_yet : returns_within (g.R.Rows.rows l.rows) l.kind l.id l._turn ≡ false;
}
