use Rattle.std.proofs.Common.{◌≡◌, ◌∙◌, ap}
use Rattle.hub_spec.specs.views.Deltas.{kind_delta, page_of_delta}
use Rattle.hub_spec.specs.views.Lists.{kind_of_path}
use Rattle.hub_spec.specs.views.Seen.{seen}
use Rattle.query_pages.specs.Listed.{delta_linked}
use Rattle.version_core.specs.Changes.{rows_of}
use Rattle.query_pages.proofs.deltas.delta_page.Goals as goal

pub returns : goal.returns
returns c =
    let path = c.args.path.now in
    let query = c.args.query.now in
    let schools = c.args.schools.now in
    let span = c.args.span.now in
    let route = c.route.ensures.route in
    let listed = c.lists.ensures in
    let of_kind = c.kind.ensures in
    let kind : c.kind.result ≡ kind_of_path path = cc in
    c.in_ok-page.ensures
    ∙ ap (λ part. delta_linked part c.args.version path query) c.in_ok-part.ensures
    ∙ (λ i. page_of_delta path query c.args.version (kind_delta (kind i) (seen schools (rows_of span.before.rows)) (seen schools (rows_of span.after.rows))))
