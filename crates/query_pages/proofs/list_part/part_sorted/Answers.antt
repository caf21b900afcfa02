use Rattle.std.proofs.Common.{◌<◌, ◌^◌, ◌∙◌, ap, filter, length, rules, sym, arith}
use Rattle.hub_spec.specs.views.Pages.{slice}
use Rattle.query_pages.proofs.Firsts.{length_arranged, part_of_first}
use Rattle.query_pages.specs.Placed.{rows_placed}
use Rattle.query_pages.specs.Sortings.{sorting_shown}
use Rattle.query_pages.proofs.list_part.part_sorted.Goals as goal

pub returns-clause-rows : goal.returns-clause-rows
returns-clause-rows g c =
    let sorting = sorting_shown c.args.sorting in
    let query = c.args.query.now in
    let listed = filter (g.T.ListTest.passes c.args.test.now) (g.R.Rows.rows c.args.rows.now) in
    let small : c.in_ok-first.first.total < 2 ^ 64 = search rules in
    let few : length listed < 2 ^ 64 = omega (arith, small, c.in_ok-first.ensures.total) in
    c.in_ok-copied.ensures
    ∙ ap (λ placed. slice query.limit query.offset (rows_placed placed)) c.deref.ensures.value
    ∙ ap (slice query.limit query.offset) c.in_ok-first.ensures.rows
    ∙ part_of_first sorting query.limit query.offset c.saturating_add-count.result listed c.saturating_add-count.ensures few

pub returns-clause-total : goal.returns-clause-total
returns-clause-total g c = c.in_ok-first.ensures.total ∙ sym (length_arranged (sorting_shown c.args.sorting) (filter (g.T.ListTest.passes c.args.test.now) (g.R.Rows.rows c.args.rows.now)))
