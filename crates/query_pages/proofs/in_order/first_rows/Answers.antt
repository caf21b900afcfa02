use Rattle.std.proofs.Common.{◌≡◌, ◌≤◌, ◌+◌, ◌++◌, ◌∙◌, append-nil, append_assoc, ap, subst, sym, arith, filter, length}
use Rattle.std.proofs.Common.{None, Some, List, [], ◌∷◌, option_copied}
use Rattle.roster_types.specs.Keys.{count_of}
use Rattle.roster_types.specs.Records.{Record}
use Rattle.query_pages.proofs.Firsts.{first_of_first}
use Rattle.query_pages.proofs.Listed.{listed_few}
use Rattle.query_pages.specs.Firsts.{first}
use Rattle.query_pages.specs.Placed.{rows_placed}
use Rattle.query_pages.specs.Sortings.{sorting_shown}
use Rattle.row_walks.proofs.Walking.{walk_at, walk_rest, walked_here, walked_none, walked_past, walked_start}
use Rattle.query_pages.proofs.in_order.first_rows.Goals as goal

pub loop-row-init : goal.loop-row-init
loop-row-init g c =
    let rows = g.R.Rows.rows c.args.rows.now in
    let listed = g.T.ListTest.passes c.args.test.now in
    let all : filter listed (walk_rest c.args.walk.now None rows) ≡ filter listed rows = walked_start c.args.walk.now listed rows c.requires in
    rw c.new-found.ensures.items (record { rows = ap (first c.args.count (sorting_shown c.args.sorting)) all; keys = λ k d lt. absurd (omega arith); total = omega (arith, ap length all) })

pub loop-row-preserved-then-not-branch : goal.loop-row-preserved-then-not-branch
loop-row-preserved-then-not-branch g c =
    let rows = g.R.Rows.rows c.args.rows.now in
    let listed = g.T.ListTest.passes c.args.test.now in
    let firsts = first c.args.count (sorting_shown c.args.sorting) in
    let past = walked_past c.args.walk.now listed (option_copied c.loop-row.after) rows c.in-Some.row.now c.ascend.ensures.order (sym c.in-Some.ensures) (sym c.in_ok-passes.ensures ∙ c.if-not-branch.true) in
    rw c.id.ensures (record {
      rows = subst (λ (left : List Record). firsts (rows_placed c.loop-row.found.items ++ left) ≡ firsts (filter listed rows)) past c.loop-row.invariant.rows;
      keys = c.loop-row.invariant.keys;
      total = subst (λ (left : List Record). c.loop-row.total + length left ≡ length (filter listed rows)) past c.loop-row.invariant.total;
    })

pub loop-row-smaller-then-not-branch : goal.loop-row-smaller-then-not-branch
loop-row-smaller-then-not-branch g c =
    let e = ap length (walk_at c.args.walk.now (option_copied c.loop-row.after) (g.R.Rows.rows c.args.rows.now) c.in-Some.row.now c.ascend.ensures.order (sym c.in-Some.ensures)) in
    rw c.id.ensures (omega arith)

pub loop-row-smaller : goal.loop-row-smaller
loop-row-smaller g c =
    let e = ap length (walk_at c.args.walk.now (option_copied c.loop-row.after) (g.R.Rows.rows c.args.rows.now) c.in-Some.row.now c.ascend.ensures.order (sym c.in-Some.ensures)) in
    rw c.id.ensures (omega arith)

pub loop-row-preserved : goal.loop-row-preserved
loop-row-preserved g c =
    let rows = g.R.Rows.rows c.args.rows.now in
    let row = c.in-Some.row.now in
    let listed = g.T.ListTest.passes c.args.test.now in
    let sorting = sorting_shown c.args.sorting in
    let firsts = first c.args.count sorting in
    let before = rows_placed c.loop-row.found.items in
    let left = filter listed (walk_rest c.args.walk.now (Some row.id) rows) in
    let here = walked_here c.args.walk.now listed (option_copied c.loop-row.after) rows row c.ascend.ensures.order (sym c.in-Some.ensures) (sym c.in_ok-passes.ensures ∙ c.if-not-branch.false) in
    let so : firsts (before ++ (row ∷ left)) ≡ firsts (filter listed rows) =
    subst (λ (left : List Record). firsts (before ++ left) ≡ firsts (filter listed rows)) here c.loop-row.invariant.rows in
    let lengths = ap length here in
    rw c.id.ensures (record {
      rows =
          first_of_first sorting c.args.count (rows_placed c.add.new.found.items) left
          ∙ ap (λ kept. firsts (kept ++ left)) c.in_ok-add.ensures.rows
          ∙ sym (first_of_first sorting c.args.count (before ++ row ∷ []) left)
          ∙ ap firsts (append_assoc before (row ∷ []) left)
          ∙ so;
      keys = c.in_ok-add.ensures.keys;
      total = omega (arith, lengths, c.loop-row.invariant.total);
    })

pub overflow_add-total : goal.overflow_add-total
overflow_add-total g c =
    let rows = g.R.Rows.rows c.args.rows.now in
    let listed = g.T.ListTest.passes c.args.test.now in
    let here = walked_here c.args.walk.now listed (option_copied c.loop-row.after) rows c.in-Some.row.now c.ascend.ensures.order (sym c.in-Some.ensures) (sym c.in_ok-passes.ensures ∙ c.if-not-branch.false) in
    let few : length (filter listed rows) ≤ count_of (g.T.ListTest.kind_of c.args.test.now) rows = listed_few (g.T.ListTest.kind_of c.args.test.now) listed (g.met.T.ListTest.of_kind c.args.test.now) rows in
    let lengths = ap length here in
    omega (arith, lengths, few, c.loop-row.invariant.total, c.ascend.ensures.few (g.T.ListTest.kind_of c.args.test.now))

pub returns-clause-rows : goal.returns-clause-rows
returns-clause-rows g c =
    let rows = g.R.Rows.rows c.args.rows.now in
    let listed = g.T.ListTest.passes c.args.test.now in
    let firsts = first c.args.count (sorting_shown c.args.sorting) in
    let before = rows_placed c.loop-row.found.items in
    let none = walked_none c.args.walk.now listed (option_copied c.loop-row.after) rows (sym c.in_default.ensures) in
    c.in_ok-cut.ensures.rows ∙ sym (ap firsts (append-nil before)) ∙ subst (λ (left : List Record). firsts (before ++ left) ≡ firsts (filter listed rows)) none c.loop-row.invariant.rows

pub returns-clause-total : goal.returns-clause-total
returns-clause-total g c =
    let listed = g.T.ListTest.passes c.args.test.now in
    let none = ap length (walked_none c.args.walk.now listed (option_copied c.loop-row.after) (g.R.Rows.rows c.args.rows.now) (sym c.in_default.ensures)) in
    omega (arith, none, c.loop-row.invariant.total)
