use Rattle.std.proofs.Common.{arith}
use Rattle.hub_spec.proofs.ListLemmas.{ascends_kept}
use Rattle.hub_spec.specs.views.Seen.{sees_row}
use Rattle.roster_types.specs.Keys.{is_of_kind}
use Rattle.query_pages.proofs.Kept.{count_kept}
use Rattle.query_pages.proofs.seen.rows.SeenRowsRefs.ascend.Goals as goal

pub returns-clause-order : goal.returns-clause-order
returns-clause-order g c =
    let known = c.self.inside.known in
    let rows = g.R.Rows.rows known.rows.now in
    rw (← c.self.view_is) (ascends_kept (sees_row c.self.inside.known.schools.now rows) rows known.order)

-- no more are seen than there are
pub returns-clause-few : goal.returns-clause-few
returns-clause-few g c =
    let rows = g.R.Rows.rows c.self.inside.known.rows.now in
    rw (← c.self.view_is) (λ kind.
    let most = count_kept (sees_row c.self.inside.known.schools.now rows) (is_of_kind kind) rows in
    let few = c.ascend.ensures.few kind in
    omega (arith, most, few))
