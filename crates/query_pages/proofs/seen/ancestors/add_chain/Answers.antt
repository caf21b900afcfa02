use Rattle.std.proofs.Common.{◌≡◌, ◌+◌, ◌≤◌, ◌||◌, List, ℕ, None, Some, false, true, cond, bytes_eq, arith}
use Rattle.hub_spec.specs.views.Seen.{leads_up}
use Rattle.query_pages.specs.Ancestors.{IsClosed, has_id}
use Rattle.query_pages.proofs.Adding.{added_all, adding_more, closed_end, closed_known, closed_turns, put_of, was_in}
use Rattle.query_pages.proofs.Adding.{Adding, Putting, was_out}
use Rattle.reference_rules.specs.Parents.{parent_of}
use Rattle.roster_types.specs.Records.{Record}
use Rattle.roster_values.specs.declared.kind.Kind.TheVariants.{Orgs}
use Rattle.query_pages.proofs.seen.ancestors.add_chain.Given.{Over}
use Rattle.query_pages.proofs.seen.ancestors.add_chain.Goals.{In_ok-insert, In_ok-insert-2}
use Rattle.query_pages.proofs.seen.ancestors.add_chain.Goals as goal

-- a turn in which the id was put in
module _ (g : Over) (c : In_ok-insert g) where
  abbrev rows : List Record
  rows = g.R.Rows.rows c.args.rows.now

  abbrev current : List ℕ
  current = c.loop-turn.current.now

  put : (q : List ℕ) → has_id c.insert.new.self q ≡ cond (bytes_eq current q) true (has_id c.loop-turn.ids q)
  put = put_of c.loop-turn.ids c.insert.new.self c.as_str.result current c.as_str.ensures.text
      c.in_ok-insert.ensures.updates

  known : c.in_ok-insert.field-0 ≡ false → has_id c.loop-turn.ids current ≡ true
  known = was_in c.loop-turn.ids c.as_str.result.now current c.in_ok-insert.field-0 c.as_str.ensures.text
      c.in_ok-insert.ensures.added

  fresh : c.in_ok-insert.field-0 ≡ true → has_id c.loop-turn.ids current ≡ false
  fresh = was_out c.loop-turn.ids c.as_str.result.now current c.in_ok-insert.field-0 c.as_str.ensures.text
      c.in_ok-insert.ensures.added

  putting : Putting rows c.args.school.now c.args.ids.now c.loop-turn.ids c.insert.new.self c.loop-turn._turn current
  putting = record { put = put; adding = c.loop-turn.invariant }

  known_closed : c.in_ok-insert.field-0 ≡ false → IsClosed rows c.insert.new.self
  known_closed old = closed_known putting (known old)

  end_closed : None ≡ parent_of rows Orgs current → IsClosed rows c.insert.new.self
  end_closed = closed_end putting

  added : c.loop-turn._turn ≤ c.args.turns → IsClosed rows c.insert.new.self → (id : List ℕ)
      → has_id c.insert.new.self id ≡ (has_id c.args.ids.now id || leads_up rows id c.args.turns c.args.school.now)
  added = added_all putting c.args.turns

  more : c.in_ok-insert.field-0 ≡ true → (next : List ℕ) → Some next ≡ parent_of rows Orgs current
      → Adding rows c.args.school.now c.args.ids.now c.insert.new.self (c.loop-turn._turn + 1) next
  more new = adding_more putting (fresh new)

-- the chain has come to an id that was in before
pub returns-then-not-branch-clause-closed : goal.returns-then-not-branch-clause-closed
returns-then-not-branch-clause-closed g c =
    known_closed g (goal.at.returns-then-not-branch-clause-closed g c).In_ok-insert c.if-not-branch.true

pub returns-then-not-branch-clause-added : goal.returns-then-not-branch-clause-added
returns-then-not-branch-clause-added g c =
    let here = (goal.at.returns-then-not-branch-clause-added g c).In_ok-insert in
    added g here (omega arith) (known_closed g here c.if-not-branch.true)

-- the chain has ended
pub returns-in-None-clause-closed : goal.returns-in-None-clause-closed
returns-in-None-clause-closed g c =
    end_closed g (goal.at.returns-in-None-clause-closed g c).In_ok-insert c.in-None.ensures

pub returns-in-None-clause-added : goal.returns-in-None-clause-added
returns-in-None-clause-added g c =
    let here = (goal.at.returns-in-None-clause-added g c).In_ok-insert in
    added g here (omega arith) (end_closed g here c.in-None.ensures)

pub loop-turn-preserved : goal.loop-turn-preserved
loop-turn-preserved g c =
    let here = (goal.at.loop-turn-preserved g c).In_ok-insert in
    more g here c.if-not-branch.false c.in-Some.parent.now c.in-Some.ensures

-- the chain has passed all orgs: its last id is put in
module _ (g : Over) (c : In_ok-insert-2 g) where
  last_put : (q : List ℕ)
      → has_id c.insert-2.new.self q ≡ cond (bytes_eq c.loop-turn.current.now q) true (has_id c.loop-turn.ids q)
  last_put = put_of c.loop-turn.ids c.insert-2.new.self c.as_str-2.result c.loop-turn.current.now
      c.as_str-2.ensures.text c.in_ok-insert-2.ensures.updates

  last_putting : Putting (g.R.Rows.rows c.args.rows.now) c.args.school.now c.args.ids.now c.loop-turn.ids
      c.insert-2.new.self c.loop-turn._turn c.loop-turn.current.now
  last_putting = record { put = last_put; adding = c.loop-turn.invariant }

pub returns-clause-closed : goal.returns-clause-closed
returns-clause-closed g c =
    let turns = c.requires.turns in
    closed_turns (last_putting g (goal.at.returns-clause-closed g c).In_ok-insert-2) (omega (arith, turns))

pub returns-clause-added : goal.returns-clause-added
returns-clause-added g c =
    let here = (goal.at.returns-clause-added g c).In_ok-insert-2 in
    let last = last_putting g here in
    let turns = c.requires.turns in
    added_all last c.args.turns (omega arith) (closed_turns last (omega (arith, turns)))
