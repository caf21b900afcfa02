use Rattle.std.proofs.Common.{◌≡◌, ◌≤◌, ◌∙◌, sym, arith, filter, length, List, Option, Some, None, option_copied}
use Rattle.std.proofs.Common.{slice_get}
use Rattle.delta_parts.proofs.Walking.{length-kinds, walk_few, walk_fewer, walk_on, walk_part, walk_start}
use Rattle.delta_parts.specs.Turns.{turn_of, turn_shown, TurnParts}
use Rattle.roster_types.specs.Keys.{is_of_kind}
use Rattle.roster_types.specs.Records.{Record}
use Rattle.row_deltas.specs.Deltas.{delta_of}
use Rattle.row_deltas.specs.declared.entry.DeltaEntry.{DeltaEntry}
use Rattle.delta_parts.proofs.part.delta_part.Given.{Over}
use Rattle.delta_parts.proofs.part.delta_part.Goals.{After-head-in-loop-turn}
use Rattle.delta_parts.proofs.part.delta_part.Goals as goal

pub loop-turn-init : goal.loop-turn-init
loop-turn-init g c =
    let befores = g.A.Rows.rows c.args.before.now in
    let afters = g.B.Rows.rows c.args.after.now in
    let old = c.new-old in
    let new = c.new-new in
    walk_start c.args.kind c.args.paging.limit c.args.paging.offset befores afters old.result new.result
    c.new-found.result.items old.ensures.order new.ensures.order old.ensures.rows new.ensures.rows
    c.new-found.ensures.items

-- a turn of the rows at the heads of what is left
module _ (g : Over) (c : After-head-in-loop-turn g) where
  abbrev befores : List Record
  befores = g.A.Rows.rows c.args.before.now

  abbrev afters : List Record
  afters = g.B.Rows.rows c.args.after.now

  abbrev whole : List DeltaEntry
  whole = delta_of c.args.kind (filter (is_of_kind c.args.kind) befores) (filter (is_of_kind c.args.kind) afters)

  few : c.loop-turn.total ≤ length whole
  few = walk_few c.args.kind {whole = whole} c.loop-turn.invariant

  turned : (turn : Option TurnParts)
      → turn ≡ turn_of (option_copied c.head.result) (option_copied c.head-in-loop-turn.result)
      → turn_of (slice_get c.loop-turn.old 0) (slice_get c.loop-turn.new 0) ≡ turn
  turned turn is = (λ i. turn_of (sym c.head.ensures i) (sym c.head-in-loop-turn.ensures i)) ∙ sym is

pub loop-turn-preserved : goal.loop-turn-preserved
loop-turn-preserved g c =
    let here = (goal.at.loop-turn-preserved g c).After-head-in-loop-turn in
    let turn = turn_shown c.in-Some.turn in
    let adds = c.in_ok-total in
    walk_on c.args.kind {whole = whole g here} c.loop-turn.invariant turn adds.total c.add_within.new.found.items
    c.advanced-old.result c.advanced-new.result (turned g here (Some turn) c.in-Some.ensures) adds.ensures.count
    adds.ensures.found c.advanced-old.ensures c.advanced-new.ensures

pub loop-turn-smaller : goal.loop-turn-smaller
loop-turn-smaller g c =
    let here = (goal.at.loop-turn-smaller g c).After-head-in-loop-turn in
    let turn = turn_shown c.in-Some.turn in
    walk_fewer c.args.kind {whole = whole g here} c.loop-turn.invariant turn c.advanced-old.result c.advanced-new.result
    (turned g here (Some turn) c.in-Some.ensures) c.advanced-old.ensures c.advanced-new.ensures

pub add_within-requires : goal.add_within-requires
add_within-requires g c =
    let here = (goal.at.add_within-requires g c).After-head-in-loop-turn in
    let kinds = length-kinds c.args.kind c.args.paging.limit c.args.paging.offset (befores g here) (afters g here) in
    omega (arith, few g here, kinds, c.requires)

pub returns : goal.returns
returns g c =
    let here = (goal.at.returns g c).After-head-in-loop-turn in
    let none = turned g here None c.in_default.ensures in
    c.in_ok-part.ensures ∙ walk_part c.args.kind {whole = whole g here} c.loop-turn.invariant none
