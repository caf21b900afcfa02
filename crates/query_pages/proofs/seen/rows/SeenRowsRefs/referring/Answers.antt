use Rattle.hub_spec.proofs.ListLemmas.{ascends_kept}
use Rattle.hub_spec.specs.views.Seen.{sees_row}
use Rattle.query_pages.proofs.seen.rows.SeenRowsRefs.referring.Goals as goal

pub returns-clause-order : goal.returns-clause-order
returns-clause-order g c =
    let known = c.self.inside.known in
    let rows = g.R.Rows.rows known.rows.now in
    rw (← c.self.view_is) (ascends_kept (sees_row c.self.inside.known.schools.now rows) rows known.order)
