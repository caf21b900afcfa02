use Rattle.std.proofs.Common.{sym, ◌∙◌}
use Rattle.reference_rules.proofs.PassedLemmas.{follows_passed, passed_more}
use Rattle.reference_rules.proofs.cycles.follow.Goals.{else-loop-turn-test, then-loop-turn-test+then-contains_key}
use Rattle.reference_rules.proofs.cycles.follow.Goals.{then-loop-turn-test+else-contains_key+in_ok-push+in-Some+then-is_same}
use Rattle.reference_rules.proofs.cycles.follow.Goals as goal

pub loop-turn-preserved : goal.loop-turn-preserved
loop-turn-preserved g c =
    let rows = g.R.Rows.rows c.args.rows.now in
    let follows = c.loop-turn.invariant.follows in
    let push = c.in_ok-push.ensures.items in
    record {
      passed = passed_more rows c.args.kind c.args.id.now c.loop-turn.passed.items c.push.new.self.items c.loop-turn.current push follows c.loop-turn.invariant.passed;
      follows = follows_passed rows c.args.kind c.args.id.now c.loop-turn.passed.items c.push.new.self.items c.loop-turn.current push follows ∙ sym c.in-Some.ensures;
    }

pub returns-clause-passed : goal.returns-clause-passed
returns-clause-passed g c = elim c.loop-turn-test.branch [
  | else-loop-turn-test w ↦ rw w.passed-is c.loop-turn.invariant.passed
  | then-loop-turn-test+then-contains_key w ↦ rw w.passed-is c.loop-turn.invariant.passed
  | then-loop-turn-test+else-contains_key+in_ok-push+in-Some+then-is_same w ↦
      rw w.passed-is (passed_more (g.R.Rows.rows c.args.rows.now) c.args.kind c.args.id.now c.loop-turn.passed.items w.push.new.self.items c.loop-turn.current w.in_ok-push.ensures.items c.loop-turn.invariant.follows c.loop-turn.invariant.passed)
]

pub returns-clause-end : goal.returns-clause-end
returns-clause-end g c = elim c.loop-turn-test.branch [
  | else-loop-turn-test w ↦ rw (w.passed-is, w.current-is) c.loop-turn.invariant.follows
  | then-loop-turn-test+then-contains_key w ↦ rw (w.passed-is, w.current-is) c.loop-turn.invariant.follows
  | then-loop-turn-test+else-contains_key+in_ok-push+in-Some+then-is_same w ↦
      rw (w.passed-is, w.current-is) (follows_passed (g.R.Rows.rows c.args.rows.now) c.args.kind c.args.id.now c.loop-turn.passed.items w.push.new.self.items c.loop-turn.current w.in_ok-push.ensures.items c.loop-turn.invariant.follows ∙ sym w.in-Some.ensures)
]
