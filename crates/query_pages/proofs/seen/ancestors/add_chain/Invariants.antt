use Rattle.query_pages.proofs.Adding.{Adding}
use Rattle.query_pages.proofs.seen.ancestors.add_chain.Given as goal

-- the chain has come so far
abbrev pub invariant-loop-turn : goal.invariant-loop-turn
invariant-loop-turn g l = Adding (g.R.Rows.rows l.rows) l.school l.fn.ids l.ids l._turn l.current
