use Rattle.std.proofs.Common.{◌≡◌, ◌<◌, Some, false, true}
use Rattle.reference_rules.specs.Notes.{note_of}
use Rattle.reference_rules.specs.Parents.{returns_within, nth_parent}
use Rattle.reference_rules.proofs.CycleLemmas.{AreNotesTo}
use Rattle.reference_rules.proofs.cycles.note_cycle.Given as goal

-- the cycle has come so far, and not back, and its ids are noted so far
abbrev pub invariant-loop-turn : goal.invariant-loop-turn
invariant-loop-turn g l = record {
  notes : AreNotesTo (g.R.Rows.rows l.rows) l.kind l.notes l.current;
  first : 0 < l._turn → note_of l.notes l.id ≡ Some true;
  follows : nth_parent (g.R.Rows.rows l.rows) l.kind l.id l._turn ≡ Some l.current;
  not_yet : returns_within (g.R.Rows.rows l.rows) l.kind l.id l._turn ≡ false;
}
