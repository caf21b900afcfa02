use Rattle.std.proofs.Common.{sym, ◌∙◌, ◌≡◌, true, arith}
use Rattle.reference_rules.proofs.ParentChains.{follows_more, returns_at_end, returns_here, not_yet_more}
use Rattle.reference_rules.proofs.chains.returns_within.Goals as goal

-- the chain has ended
pub returns-in-None : goal.returns-in-None
returns-in-None g c =
    sym (returns_at_end (g.R.Rows.rows c.args.rows.now) c.args.kind c.args.id.now c.loop-turn._turn c.args.turns c.loop-turn.current.now c.loop-turn.invariant.follows c.loop-turn.invariant.not_yet (omega arith) (sym c.in-None.ensures))

-- the chain has come back
pub returns-then-is_same : goal.returns-then-is_same
returns-then-is_same g c =
    let same = c.is_same.ensures.0 c.if-is_same.true in
    sym (returns_here (g.R.Rows.rows c.args.rows.now) c.args.kind c.args.id.now c.loop-turn._turn c.args.turns c.loop-turn.current.now c.loop-turn.invariant.follows c.loop-turn.invariant.not_yet c.loop-turn-test.true (rw same at (sym c.in-Some.ensures)))

-- it hasn't come back in any turn
pub returns : goal.returns
returns g c =
    let all : c.loop-turn._turn ≡ c.args.turns = omega arith in
    sym (rw all at c.loop-turn.invariant.not_yet)

pub loop-turn-preserved : goal.loop-turn-preserved
loop-turn-preserved g c = record {
  follows = follows_more (g.R.Rows.rows c.args.rows.now) c.args.kind c.args.id.now c.loop-turn._turn c.loop-turn.current.now c.loop-turn.invariant.follows ∙ sym c.in-Some.ensures;
  not_yet = not_yet_more (g.R.Rows.rows c.args.rows.now) c.args.kind c.args.id.now c.loop-turn._turn c.args.turns c.loop-turn.current.now c.loop-turn.invariant.follows c.loop-turn.invariant.not_yet c.in-Some.parent.now (sym c.in-Some.ensures) (λ same. let back : c.is_same.result ≡ true = c.is_same.ensures.1 same in let no = c.if-is_same.false in cc);
}
