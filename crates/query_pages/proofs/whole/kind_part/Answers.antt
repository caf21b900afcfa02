use Rattle.std.proofs.Common.{◌∙◌, ap, sym, take}
use Rattle.std.proofs.lemmas.List.Sums.{length-filter}
use Rattle.query_pages.specs.Whole.{rows_from}
use Rattle.roster_types.specs.Keys.{is_of_kind}
use Rattle.version_core.specs.Changes.{rows_of}
use Rattle.query_pages.proofs.Wholes.{kind_at_place}
use Rattle.query_pages.proofs.whole.kind_part.Goals as goal

pub returns-clause-rows : goal.returns-clause-rows
returns-clause-rows c =
    let query = c.args.query.now in
    let rows = rows_of c.args.view.now.rows in
    c.in_ok-rows.ensures ∙ ap (λ first. take query.limit (rows_from c.args.kind first rows)) c.row_at-first.ensures ∙ ap (take query.limit) (sym (kind_at_place c.args.kind rows c.count-total.ensures.order query.offset))

pub returns-clause-total : goal.returns-clause-total
returns-clause-total c = c.count-total.ensures.count ∙ sym (length-filter (is_of_kind c.args.kind) (rows_of c.args.view.now.rows))
