use Rattle.std.proofs.Common.{subst, ◌∙◌}
use Rattle.std.proofs.lemmas.Result.{on_ok_weaker}
use Rattle.reference_rules.specs.Notes.{AreNotedBeside, AreNotedOver}
use Rattle.reference_rules.proofs.PassedLemmas.{among, lap_known, lap_notes, passed_known, passed_notes}
use Rattle.reference_rules.proofs.cycles.learn.Goals as goal

pub returns-clause-notes : goal.returns-clause-notes
returns-clause-notes g c =
    let chain = c.in_ok-chain.chain in
    on_ok_weaker c.note_passed.result (λ beside. passed_notes (g.R.Rows.rows c.args.rows.now) c.args.kind c.note_end.new.notes c.note_passed.new.notes c.args.id.now chain.passed.items _
    c.in_ok-chain.ensures.passed c.in_ok-chain.ensures.end c.in_ok-note_end.ensures.end
    (subst (λ ids. AreNotedBeside (among ids) c.note_end.new.notes c.note_passed.new.notes) c.as_slice-2.ensures.value beside) c.in_ok-note_end.ensures.notes) c.note_passed.ensures

pub returns-clause-known : goal.returns-clause-known
returns-clause-known g c =
    let chain = c.in_ok-chain.chain in
    on_ok_weaker c.note_passed.result (λ beside. passed_known (g.R.Rows.rows c.args.rows.now) c.args.kind c.note_end.new.notes c.note_passed.new.notes c.args.id.now chain.passed.items _
    c.in_ok-chain.ensures.passed c.in_ok-chain.ensures.end c.in_ok-note_end.ensures.end
    (subst (λ ids. AreNotedBeside (among ids) c.note_end.new.notes c.note_passed.new.notes) c.as_slice-2.ensures.value beside)) c.note_passed.ensures

pub returns-then-came_back-clause-notes : goal.returns-then-came_back-clause-notes
returns-then-came_back-clause-notes g c =
    let chain = c.in_ok-chain.chain in
    on_ok_weaker c.note_lap.result (λ over. lap_notes (g.R.Rows.rows c.args.rows.now) c.args.kind c.args.notes.now c.note_lap.new.notes c.args.id.now chain.passed.items
    (c.came_back.ensures.some c.if-came_back.true) c.in_ok-chain.ensures.passed (c.in_ok-chain.ensures.end ∙ c.came_back.ensures.end c.if-came_back.true)
    (subst (λ ids. AreNotedOver (among ids) c.args.notes.now c.note_lap.new.notes) c.as_slice.ensures.value over) c.requires.notes) c.note_lap.ensures

pub returns-then-came_back-clause-known : goal.returns-then-came_back-clause-known
returns-then-came_back-clause-known g c =
    let chain = c.in_ok-chain.chain in
    on_ok_weaker c.note_lap.result (λ over. lap_known (g.R.Rows.rows c.args.rows.now) c.args.kind c.args.notes.now c.note_lap.new.notes c.args.id.now chain.passed.items
    (c.came_back.ensures.some c.if-came_back.true) c.in_ok-chain.ensures.passed (c.in_ok-chain.ensures.end ∙ c.came_back.ensures.end c.if-came_back.true)
    (subst (λ ids. AreNotedOver (among ids) c.args.notes.now c.note_lap.new.notes) c.as_slice.ensures.value over)) c.note_lap.ensures
