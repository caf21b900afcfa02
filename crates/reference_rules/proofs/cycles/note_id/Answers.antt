use Rattle.std.proofs.Common.{sym, ap, ◌∙◌}
use Rattle.reference_rules.specs.Parents.{returns_within}
use Rattle.reference_rules.proofs.PassedLemmas.{one_noted}
use Rattle.reference_rules.proofs.cycles.note_id.Goals as goal

pub returns-clause-notes : goal.returns-clause-notes
returns-clause-notes g c =
    let rows = g.R.Rows.rows c.args.rows.now in
    let isnt = ap (returns_within rows c.args.kind c.args.id.now) (sym c.requires.turns) ∙ sym c.returns_within.ensures ∙ c.if-returns_within.false in
    one_noted rows c.args.kind c.args.notes.now c.note_unless_known.new.notes c.args.id.now c.in_ok-note_unless_known.ensures.notes c.requires.notes (λ _. isnt)
