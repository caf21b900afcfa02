use Rattle.std.proofs.Common.{◌≡◌, ◌≤◌, ◌∙◌, ◌∷◌, List, Some, ap, arith, length, option_copied, sym, zero-add}
use Rattle.std.proofs.lemmas.List.Sums.{length-filter}
use Rattle.hub_spec.proofs.ListLemmas.{ascends_kept}
use Rattle.hub_spec.specs.views.Seen.{seen, sees_row}
use Rattle.reference_rules.proofs.Rest.{rest_at, rest_none, rest_of, rest_start}
use Rattle.roster_types.specs.Keys.{Ascends, count_of, is_of_kind, row_key}
use Rattle.roster_types.specs.Records.{Record}
use Rattle.query_pages.proofs.Kept.{count_kept}
use Rattle.query_pages.proofs.seen.rows.count_seen.Given.{Over}
use Rattle.query_pages.proofs.seen.rows.count_seen.Goals.{After-count-all, In-Some}
use Rattle.query_pages.proofs.seen.rows.count_seen.Goals as goal

pub loop-row-init : goal.loop-row-init
loop-row-init g c =
    let rows = seen c.args.known.now.schools.now (g.R.Rows.rows c.args.known.now.rows.now) in
    zero-add _ ∙ ap length (rest_start c.args.kind rows) ∙ length-filter (is_of_kind c.args.kind) rows

module _ (g : Over) (c : After-count-all g) where
  abbrev all : List Record
  all = g.R.Rows.rows c.args.known.now.rows.now

  abbrev rows : List Record
  rows = seen c.args.known.now.schools.now all

  order : Ascends row_key rows
  order = ascends_kept (sees_row c.args.known.now.schools.now all) all c.args.known.now.order

-- one row less is left
module _ (g : Over) (c : In-Some g) where
  abbrev here : After-count-all g
  here = (goal.at.In-Some g c).After-count-all

  left : length (rest_of c.args.kind (option_copied c.loop-row.after) (rows g here))
      ≡ length (c.in-Some.row.now ∷ rest_of c.args.kind (Some c.in-Some.row.now.id) (rows g here))
  left = ap length (rest_at c.args.kind (option_copied c.loop-row.after) (rows g here) c.in-Some.row.now (order g here)
      (sym c.in-Some.ensures))

pub loop-row-preserved : goal.loop-row-preserved
loop-row-preserved g c =
    let fewer = left g (goal.at.loop-row-preserved g c).In-Some in
    rw c.id.ensures (omega (arith, fewer, c.loop-row.invariant))

pub loop-row-smaller : goal.loop-row-smaller
loop-row-smaller g c =
    let fewer = left g (goal.at.loop-row-smaller g c).In-Some in
    rw c.id.ensures (omega (arith, fewer))

-- no more are seen than there are
pub overflow_add-count : goal.overflow_add-count
overflow_add-count g c =
    let all = g.R.Rows.rows c.args.known.now.rows.now in
    let fewer = left g (goal.at.overflow_add-count g c).In-Some in
    let few : count_of c.args.kind (seen c.args.known.now.schools.now all) ≤ count_of c.args.kind all =
    count_kept (sees_row c.args.known.now.schools.now all) (is_of_kind c.args.kind) all in
    omega (arith, fewer, few, c.loop-row.invariant, c.count-all.ensures.count)

pub returns-clause-count : goal.returns-clause-count
returns-clause-count g c =
    let rows = seen c.args.known.now.schools.now (g.R.Rows.rows c.args.known.now.rows.now) in
    let left = ap length (rest_none c.args.kind (option_copied c.loop-row.after) rows (sym c.in_default.ensures)) in
    omega (arith, left, c.loop-row.invariant)

pub returns-clause-order : goal.returns-clause-order
returns-clause-order g c =
    let all = g.R.Rows.rows c.args.known.now.rows.now in
    ascends_kept (sees_row c.args.known.now.schools.now all) all c.args.known.now.order
