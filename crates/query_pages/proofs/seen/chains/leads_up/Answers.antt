use Rattle.std.proofs.Common.{◌≡◌, bytes_eq, true, sym, arith}
use Rattle.query_pages.proofs.Upward.{up_at_end, up_at_once, up_here}
use Rattle.query_pages.proofs.seen.chains.leads_up.Goals as goal

-- it is the school's own id
pub returns-then-eq : goal.returns-then-eq
returns-then-eq g c =
    let school = c.as_str.ensures.text in
    let id = c.as_str-2.ensures.text in
    let tested = c.eq.ensures in
    let yes = c.if-eq.true in
    let same : bytes_eq c.args.school.now c.args.id.now ≡ true = cc in
    sym (up_at_once (g.R.Rows.rows c.args.rows.now) c.args.id.now c.args.school.now c.args.turns same)

-- the chain has ended
pub returns-in-None : goal.returns-in-None
returns-in-None g c =
    sym (up_at_end (g.R.Rows.rows c.args.rows.now) c.args.id.now c.args.school.now c.loop-turn._turn c.args.turns c.loop-turn.current.now c.loop-turn.invariant.follows c.loop-turn.invariant.not_yet (omega arith) (sym c.in-None.ensures))

-- the chain has come to the id
pub returns-then-eq-2 : goal.returns-then-eq-2
returns-then-eq-2 g c =
    let parent = c.as_str-in-Some.ensures.text in
    let id = c.as_str-in-Some-2.ensures.text in
    let tested = c.eq-in-Some.ensures in
    let yes = c.if-eq-2.true in
    let same : bytes_eq c.in-Some.parent.now c.args.id.now ≡ true = cc in
    sym (up_here (g.R.Rows.rows c.args.rows.now) c.args.id.now c.args.school.now c.loop-turn._turn c.args.turns c.loop-turn.current.now c.loop-turn.invariant.follows c.loop-turn.invariant.not_yet c.in-Some.parent.now c.loop-turn-test.true (sym c.in-Some.ensures) same)
