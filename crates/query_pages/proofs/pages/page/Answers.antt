use Rattle.std.proofs.Common.{◌≡◌, ◌∙◌, IfOk, List, subst}
use Rattle.hub_spec.specs.views.Pages.{page_of}
use Rattle.roster_types.specs.Records.{Record}
use Rattle.query_pages.proofs.Wholes.{seen_all}
use Rattle.query_pages.proofs.pages.page.Goals as goal

-- all rows are seen
pub returns : goal.returns
returns g c =
    let rows = g.R.Rows.rows c.args.rows.now in
    subst (λ (ys : List Record). IfOk c.walked_page.result (λ o. o ≡ page_of ys c.args.version c.args.path.now c.args.query.now)) (c.new-seen.ensures ∙ seen_all rows rows) c.walked_page.ensures
