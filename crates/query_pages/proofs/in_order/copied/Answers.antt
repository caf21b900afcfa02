use Rattle.std.proofs.Common.{◌≤◌, ◌∙◌, ap, arith, length}
use Rattle.std.proofs.lemmas.List.{take_all}
use Rattle.hub_spec.specs.views.Pages.{slice}
use Rattle.query_pages.specs.Placed.{row_of, rows_placed}
use Rattle.row_walks.proofs.Parting.{slice-map}
use Rattle.query_pages.proofs.in_order.copied.Goals as goal

pub returns : goal.returns
returns c =
    let part = slice c.args.limit c.args.offset c.args.rows.now in
    let enough : length part ≤ c.loop-placed.placed-index = omega (arith, ap length c.within-placed-items.ensures, c.loop-placed-test.false) in
    c.loop-placed.invariant ∙ ap rows_placed (take_all c.loop-placed.placed-index part enough) ∙ slice-map row_of c.args.limit c.args.offset c.args.rows.now
