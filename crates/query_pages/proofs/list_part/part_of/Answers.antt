use Rattle.std.proofs.Common.{◌≡◌, ◌∙◌, ap, IfOk, length, subst, sym, List}
use Rattle.hub_spec.specs.views.Pages.{slice}
use Rattle.filter_grammar.specs.declared.query.Order.TheVariants.{Asc}
use Rattle.query_pages.proofs.Listed.{listed_by_id}
use Rattle.roster_types.specs.Records.{Record}
use Rattle.filter_grammar.specs.rows.Orders.{by_id, sorting_of}
use Rattle.query_pages.proofs.list_part.part_of.Goals as goal

pub returns-in-ById-Asc-clause-rows : goal.returns-in-ById-Asc-clause-rows
returns-in-ById-Asc-clause-rows g c =
    let query = c.args.query.now in
    let kind = g.T.ListTest.kind_of c.args.test.now in
    let sorting : by_id Asc ≡ sorting_of kind query = ap by_id (sym c.in-ById-Asc.field-0-is) ∙ c.in-ById-Asc.ensures ∙ ap (λ kind. sorting_of kind query) c.kind.ensures in
    let all = listed_by_id kind query (g.T.ListTest.passes c.args.test.now) (g.R.Rows.rows c.args.rows.now) (g.met.T.ListTest.of_kind c.args.test.now) c.part_by_id.ensures.order sorting in
    subst (λ (ys : List Record). IfOk c.part_by_id.result (λ p. p.rows ≡ slice query.limit query.offset ys)) (sym all) c.part_by_id.ensures.rows

pub returns-in-ById-Asc-clause-total : goal.returns-in-ById-Asc-clause-total
returns-in-ById-Asc-clause-total g c =
    let query = c.args.query.now in
    let kind = g.T.ListTest.kind_of c.args.test.now in
    let sorting : by_id Asc ≡ sorting_of kind query = ap by_id (sym c.in-ById-Asc.field-0-is) ∙ c.in-ById-Asc.ensures ∙ ap (λ kind. sorting_of kind query) c.kind.ensures in
    let all = listed_by_id kind query (g.T.ListTest.passes c.args.test.now) (g.R.Rows.rows c.args.rows.now) (g.met.T.ListTest.of_kind c.args.test.now) c.part_by_id.ensures.order sorting in
    subst (λ (ys : List Record). IfOk c.part_by_id.result (λ p. p.total ≡ length ys)) (sym all) c.part_by_id.ensures.total
