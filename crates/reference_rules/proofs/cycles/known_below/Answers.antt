use Rattle.std.proofs.lemmas.Result.{on_ok_weaker}
use Rattle.reference_rules.proofs.CycleLemmas.{not_below}
use Rattle.reference_rules.proofs.PassedLemmas.{one_known, one_noted}
use Rattle.reference_rules.proofs.cycles.known_below.Goals as goal

pub returns-clause-notes : goal.returns-clause-notes
returns-clause-notes g c =
    let rows = g.R.Rows.rows c.args.rows.now in
    let notes = c.args.notes.now in
    let in_none = not_below rows c.args.kind notes c.requires.notes c.args.id.now c.args.parent.now c.requires.parent c.requires.known in
    on_ok_weaker c.note_unless_known.result (λ beside. one_noted rows c.args.kind notes c.note_unless_known.new.notes c.args.id.now beside c.requires.notes in_none) c.note_unless_known.ensures.notes

pub returns-clause-value : goal.returns-clause-value
returns-clause-value g c =
    one_known (g.R.Rows.rows c.args.rows.now) c.args.kind c.note_unless_known.new.notes c.args.id.now c.note_unless_known.result (returns-clause-notes g c) c.note_unless_known.ensures.known
