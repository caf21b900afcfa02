use Rattle.std.proofs.Common.{◌≡◌, ◌∙◌, IfOk, List, ap, subst, sym}
use Rattle.grant_scopes.specs.declared.schools.Schools.{Schools}
use Rattle.hub_spec.specs.views.Pages.{page_of}
use Rattle.hub_spec.specs.views.Seen.{seen}
use Rattle.roster_types.specs.Records.{Record}
use Rattle.version_core.specs.Changes.{rows_of}
use Rattle.query_pages.proofs.Wholes.{seen_all}
use Rattle.query_pages.proofs.pages.version_page.Goals as goal

-- all rows are seen
pub returns-in-All : goal.returns-in-All
returns-in-All c =
    let rows = rows_of c.args.view.now.rows in
    let all : seen c.args.schools.now rows ≡ rows = ap (λ (schools : Schools). seen schools rows) c.in-All.is ∙ seen_all rows rows in
    subst (λ (ys : List Record). IfOk c.whole_page.result (λ o. o ≡ page_of ys c.args.version c.args.path.now c.args.query.now)) (sym all) c.whole_page.ensures
