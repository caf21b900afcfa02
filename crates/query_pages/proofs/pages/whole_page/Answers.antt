use Rattle.std.proofs.Common.{◌∙◌, Some, ap, option_map, sym}
use Rattle.hub_spec.proofs.ListLemmas.{list_of-whole}
use Rattle.hub_spec.specs.views.Lists.{list_of}
use Rattle.hub_spec.specs.views.Pages.{page_of_list}
use Rattle.version_core.specs.Changes.{rows_of}
use Rattle.query_pages.proofs.pages.whole_page.Goals as goal

-- the path and the query list all rows of the kind
pub returns-in_ok-kind_page-in-Some : goal.returns-in_ok-kind_page-in-Some
returns-in_ok-kind_page-in-Some c =
    let rows = rows_of c.args.view.now.rows in
    let query = c.args.query.now in
    let listed = ap (λ path. list_of rows path query) c.in-Some.ensures.path ∙ list_of-whole c.in-Some.kind rows query c.in-Some.ensures.query c.in_ok-kind_page-in-Some.ensures.order in
    ap (λ p. Some p) c.in_ok-kind_page-in-Some.ensures.page ∙ ap (option_map (page_of_list c.args.path.now query c.args.version)) (sym listed)
