use Rattle.std.proofs.Common.{◌≡◌, ◌≤◌, ◌+◌, ◌∙◌, ap, subst, sym, arith, filter, length, None, Some, List, [], ◌∷◌}
use Rattle.std.proofs.Common.{option_copied}
use Rattle.hub_spec.specs.views.Pages.{slice}
use Rattle.roster_types.specs.Keys.{count_of}
use Rattle.roster_types.specs.Records.{Record}
use Rattle.query_pages.proofs.Listed.{listed_few}
use Rattle.row_walks.proofs.Parting.{Parts, part_end, part_on, part_start}
use Rattle.row_walks.proofs.Walking.{walk_at, walk_rest, walked_here, walked_none, walked_past, walked_start}
use Rattle.query_pages.proofs.by_id.part_by_id.Goals as goal

pub loop-row-init : goal.loop-row-init
loop-row-init g c =
    let rows = g.R.Rows.rows c.args.rows.now in
    let listed = g.T.ListTest.passes c.args.test.now in
    let none : List Record = [] in
    let all : filter listed (walk_rest c.args.walk.now None rows) ≡ filter listed rows = walked_start c.args.walk.now listed rows c.requires in
    record {
      part = rw c.new-found.ensures.items (subst (λ left. Parts c.args.query.now.limit c.args.query.now.offset 0 none left (slice c.args.query.now.limit c.args.query.now.offset (filter listed rows))) (sym all)
          (part_start c.args.query.now.limit c.args.query.now.offset (filter listed rows)));
      total = omega (arith, ap length all);
    }

pub loop-row-preserved-then-not-branch : goal.loop-row-preserved-then-not-branch
loop-row-preserved-then-not-branch g c =
    let rows = g.R.Rows.rows c.args.rows.now in
    let query = c.args.query.now in
    let listed = g.T.ListTest.passes c.args.test.now in
    let whole = slice query.limit query.offset (filter listed rows) in
    let past = walked_past c.args.walk.now listed (option_copied c.loop-row.after) rows c.in-Some.row.now c.ascend.ensures.order (sym c.in-Some.ensures) (sym c.in_ok-passes.ensures ∙ c.if-not-branch.true) in
    rw c.id.ensures (record {
      part = subst (λ (left : List Record). Parts query.limit query.offset c.loop-row.total c.loop-row.found.items left whole) past c.loop-row.invariant.part;
      total = subst (λ (left : List Record). c.loop-row.total + length left ≡ length (filter listed rows)) past c.loop-row.invariant.total;
    })

pub loop-row-smaller-then-not-branch : goal.loop-row-smaller-then-not-branch
loop-row-smaller-then-not-branch g c =
    let e = ap length (walk_at c.args.walk.now (option_copied c.loop-row.after) (g.R.Rows.rows c.args.rows.now) c.in-Some.row.now c.ascend.ensures.order (sym c.in-Some.ensures)) in
    rw c.id.ensures (omega arith)

pub loop-row-preserved : goal.loop-row-preserved
loop-row-preserved g c =
    let rows = g.R.Rows.rows c.args.rows.now in
    let query = c.args.query.now in
    let row = c.in-Some.row.now in
    let listed = g.T.ListTest.passes c.args.test.now in
    let whole = slice query.limit query.offset (filter listed rows) in
    let left = filter listed (walk_rest c.args.walk.now (Some row.id) rows) in
    let here = walked_here c.args.walk.now listed (option_copied c.loop-row.after) rows row c.ascend.ensures.order (sym c.in-Some.ensures) (sym c.in_ok-passes.ensures ∙ c.if-not-branch.false) in
    let before : Parts query.limit query.offset c.loop-row.total c.loop-row.found.items (row ∷ left) whole =
    subst (λ (left : List Record). Parts query.limit query.offset c.loop-row.total c.loop-row.found.items left whole) here c.loop-row.invariant.part in
    let lengths = ap length here in
    rw (c.id.ensures, c.in_ok-add_within.ensures) (record {
      part = part_on query.limit query.offset c.loop-row.total row c.loop-row.found.items left whole before;
      total = omega (arith, lengths, c.loop-row.invariant.total);
    })

pub loop-row-smaller : goal.loop-row-smaller
loop-row-smaller g c =
    let e = ap length (walk_at c.args.walk.now (option_copied c.loop-row.after) (g.R.Rows.rows c.args.rows.now) c.in-Some.row.now c.ascend.ensures.order (sym c.in-Some.ensures)) in
    rw c.id.ensures (omega arith)

pub overflow_add-total : goal.overflow_add-total
overflow_add-total g c =
    let rows = g.R.Rows.rows c.args.rows.now in
    let listed = g.T.ListTest.passes c.args.test.now in
    let here = walked_here c.args.walk.now listed (option_copied c.loop-row.after) rows c.in-Some.row.now c.ascend.ensures.order (sym c.in-Some.ensures) (sym c.in_ok-passes.ensures ∙ c.if-not-branch.false) in
    let few : length (filter listed rows) ≤ count_of (g.T.ListTest.kind_of c.args.test.now) rows = listed_few (g.T.ListTest.kind_of c.args.test.now) listed (g.met.T.ListTest.of_kind c.args.test.now) rows in
    let lengths = ap length here in
    omega (arith, lengths, few, c.loop-row.invariant.total, c.ascend.ensures.few (g.T.ListTest.kind_of c.args.test.now))

pub returns-clause-rows : goal.returns-clause-rows
returns-clause-rows g c =
    let rows = g.R.Rows.rows c.args.rows.now in
    let query = c.args.query.now in
    let listed = g.T.ListTest.passes c.args.test.now in
    let whole = slice query.limit query.offset (filter listed rows) in
    let none = walked_none c.args.walk.now listed (option_copied c.loop-row.after) rows (sym c.in_default.ensures) in
    c.from_vec.ensures ∙ part_end query.limit query.offset c.loop-row.total c.loop-row.found.items whole (subst (λ (left : List Record). Parts query.limit query.offset c.loop-row.total c.loop-row.found.items left whole) none c.loop-row.invariant.part)

pub returns-clause-total : goal.returns-clause-total
returns-clause-total g c =
    let listed = g.T.ListTest.passes c.args.test.now in
    let none = ap length (walked_none c.args.walk.now listed (option_copied c.loop-row.after) (g.R.Rows.rows c.args.rows.now) (sym c.in_default.ensures)) in
    omega (arith, none, c.loop-row.invariant.total)
