use Rattle.std.proofs.Common.{◌≡◌, length, option_copied}
use Rattle.std.specs.List.{list_any}
use Rattle.hub_spec.specs.views.References.{is_named_by}
use Rattle.version_core.proofs.Referring.{referring_rest}
use Rattle.query_pages.proofs.seen.references.is_named_by.Given as goal

-- the rows so far that name it don't pass
abbrev pub invariant-loop-other : goal.invariant-loop-other
invariant-loop-other g l =
    let rows = g.R.Rows.rows l.rows in
    let test = g.T.RowTest.passes l.test in
    is_named_by test rows l.kind l.name l.row ≡ list_any test (referring_rest l.kind l.name l.row.id (option_copied l.after) rows)

abbrev pub decreases-loop-other : goal.decreases-loop-other
decreases-loop-other g l = length (referring_rest l.kind l.name l.row.id (option_copied l.after) (g.R.Rows.rows l.rows))
