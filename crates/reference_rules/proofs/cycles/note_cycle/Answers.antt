use Rattle.std.proofs.Common.{◌≡◌, ◌+◌, List, ℕ, true, false, Some, None, cond, bytes_eq, sym, ap, subst, ◌∙◌}
use Rattle.std.specs.Prelude.{is_some}
use Rattle.std.proofs.lemmas.Map.Text.{hash_map_updates_str}
use Rattle.roster_types.specs.Records.{Record}
use Rattle.reference_rules.specs.Notes.{AreNotes, note_of}
use Rattle.reference_rules.specs.Parents.{is_in_cycle, nth_parent, parent_of, returns_within}
use Rattle.reference_rules.proofs.CycleLemmas.{AreNotesTo, cycle_first, cycle_put, in_cycle_on, put_back, put_end}
use Rattle.reference_rules.proofs.CycleLemmas.{put_next}
use Rattle.reference_rules.proofs.ParentChains.{follows_more, not_yet_more}
use Rattle.reference_rules.proofs.cycles.note_cycle.Given.{Over}
use Rattle.reference_rules.proofs.cycles.note_cycle.Goals.{After-parent}
use Rattle.reference_rules.proofs.cycles.note_cycle.Goals as goal

-- a turn in which an id was noted
module _ (g : Over) (c : After-parent g) where
  abbrev rows : List Record
  rows = g.R.Rows.rows c.args.rows.now

  abbrev current : List ℕ
  current = c.loop-turn.current.now

  -- the id is in the cycle
  is : is_in_cycle rows c.args.kind current ≡ true
  is = in_cycle_on rows c.args.kind c.args.id.now current c.loop-turn._turn c.loop-turn.invariant.follows
      (subst (λ n. returns_within rows c.args.kind c.args.id.now n ≡ true) c.requires.turns c.requires.cycle)

  put_key : (q : List ℕ) → note_of c.insert.new.self q
      ≡ cond (bytes_eq c.as_str.result.now q) (Some true) (note_of c.loop-turn.notes q)
  put_key = hash_map_updates_str c.as_str.result.now c.loop-turn.notes c.insert.new.self (Some true)
      c.in_ok-insert.ensures.updates

  -- it alone was noted
  put : (q : List ℕ) → note_of c.insert.new.self q
      ≡ cond (bytes_eq current q) (Some true) (note_of c.loop-turn.notes q)
  put = cycle_put rows c.args.kind c.loop-turn.notes c.insert.new.self c.args.id.now current c.as_str.result.now
      c.as_str.ensures.text c.loop-turn._turn c.loop-turn.invariant.follows put_key

  -- the first id of the cycle is noted
  first : note_of c.insert.new.self c.args.id.now ≡ Some true
  first = cycle_first rows c.args.kind c.loop-turn.notes c.insert.new.self c.args.id.now current c.as_str.result.now
      c.as_str.ensures.text c.loop-turn._turn c.loop-turn.invariant.follows put_key is c.loop-turn.invariant.notes
      c.loop-turn.invariant.first

  at_end : None ≡ parent_of rows c.args.kind current → AreNotes rows c.args.kind c.insert.new.self
  at_end none = put_end rows c.args.kind c.loop-turn.notes c.insert.new.self current put is
      c.loop-turn.invariant.notes (sym none)

  at_first : (next : List ℕ) → Some next ≡ parent_of rows c.args.kind current → next ≡ c.args.id.now
      → AreNotes rows c.args.kind c.insert.new.self
  at_first next goes same = put_back rows c.args.kind c.loop-turn.notes c.insert.new.self current put is
      c.loop-turn.invariant.notes c.args.id.now (sym goes ∙ ap (λ x. Some x) same) first

  at_next : (next : List ℕ) → Some next ≡ parent_of rows c.args.kind current
      → AreNotesTo rows c.args.kind c.insert.new.self next
  at_next next goes = put_next rows c.args.kind c.loop-turn.notes c.insert.new.self current put is
      c.loop-turn.invariant.notes next (sym goes)

  chain_on : (next : List ℕ) → Some next ≡ parent_of rows c.args.kind current
      → nth_parent rows c.args.kind c.args.id.now (c.loop-turn._turn + 1) ≡ Some next
  chain_on next goes = follows_more rows c.args.kind c.args.id.now c.loop-turn._turn current
      c.loop-turn.invariant.follows ∙ sym goes

  not_back : (next : List ℕ) → Some next ≡ parent_of rows c.args.kind current → (next ≡ c.args.id.now → ⊥)
      → returns_within rows c.args.kind c.args.id.now (c.loop-turn._turn + 1) ≡ false
  not_back next goes other = not_yet_more rows c.args.kind c.args.id.now c.loop-turn._turn c.args.turns current
      c.loop-turn.invariant.follows c.loop-turn.invariant.not_yet next (sym goes) other

pub returns-in-None-clause-notes : goal.returns-in-None-clause-notes
returns-in-None-clause-notes g c =
    at_end g (goal.at.returns-in-None-clause-notes g c).After-parent c.in-None.ensures

pub returns-in-None-clause-known : goal.returns-in-None-clause-known
returns-in-None-clause-known g c =
    ap is_some (first g (goal.at.returns-in-None-clause-known g c).After-parent)

pub returns-then-is_same-clause-notes : goal.returns-then-is_same-clause-notes
returns-then-is_same-clause-notes g c =
    at_first g (goal.at.returns-then-is_same-clause-notes g c).After-parent c.in-Some.parent.now c.in-Some.ensures
    (c.is_same.ensures.0 c.if-is_same.true)

pub returns-then-is_same-clause-known : goal.returns-then-is_same-clause-known
returns-then-is_same-clause-known g c =
    ap is_some (first g (goal.at.returns-then-is_same-clause-known g c).After-parent)

pub loop-turn-preserved : goal.loop-turn-preserved
loop-turn-preserved g c =
    let here = (goal.at.loop-turn-preserved g c).After-parent in
    let next = c.in-Some.parent.now in
    record {
      notes = at_next g here next c.in-Some.ensures;
      first = λ _. first g here;
      follows = chain_on g here next c.in-Some.ensures;
      not_yet = not_back g here next c.in-Some.ensures (λ same.
          let back : c.is_same.result ≡ true = c.is_same.ensures.1 same in
          let no = c.if-is_same.false in
          cc);
    }
