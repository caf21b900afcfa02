use Rattle.std.proofs.Common.{◌≡◌, true, subst, sym}
use Rattle.std.proofs.lemmas.Result.{IfOk-weaker}
use Rattle.hub_spec.specs.views.Lists.{kind_of_path}
use Rattle.hub_spec.specs.views.Seen.{seen, sees_at, sees_row}
use Rattle.roster_types.specs.Keys.{is_of_kind}
use Rattle.row_walks.proofs.AtSchools.{among_kept}
use Rattle.query_pages.proofs.Leading.{belongs_kind, sees_listed}
use Rattle.query_pages.proofs.pages.seen_walk.Goals as goal

-- what is seen of a kind is on the way of the schools
pub returns-then-is_whole : goal.returns-then-is_whole
returns-then-is_whole g c =
    let rows = g.R.Rows.rows c.args.rows.now in
    let path = c.args.path.now in
    let schools = c.args.schools.now in
    let route = c.route-then-is_whole.ensures.route in
    let listed = c.lists.ensures in
    let of_kind = c.kind.ensures in
    let kind : kind_of_path path ≡ c.kind.result = cc in
    IfOk-weaker c.walk_at_schools.result _ _ (λ w all row among belongs.
    let kept = among_kept (sees_row schools rows) rows row among in
    let sees = subst (λ ids. sees_at ids rows row.kind row ≡ true) (sym c.ids.ensures.ids) (sees_listed schools _ rows row c.in-Listed.is kept.1) in
    all row kept.0 (subst (λ k. is_of_kind k row ≡ true) kind (belongs_kind (seen schools rows) path row belongs)) sees) c.walk_at_schools.ensures
