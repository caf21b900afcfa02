use Rattle.std.proofs.Common.{◌≡◌, List, subst}
use Rattle.std.specs.Prelude.{IfOk}
use Rattle.delta_parts.specs.Parts.{part_of_delta}
use Rattle.hub_spec.specs.views.Deltas.{kind_delta}
use Rattle.hub_spec.specs.views.Seen.{seen}
use Rattle.query_pages.proofs.Counted.{few_seen, same_delta}
use Rattle.row_deltas.specs.declared.entry.DeltaEntry.{DeltaEntry}
use Rattle.version_core.specs.Changes.{rows_of}
use Rattle.version_core.specs.Spans.{Spanned}
use Rattle.query_pages.proofs.deltas.part.Goals as goal

pub seen_part-requires : goal.seen_part-requires
seen_part-requires c = few_seen c.args.kind c.args.schools.now c.before-before.result.now c.after-after.result.now c.grants.ensures.version c.grants-in-Listed.ensures.version

-- nothing is hidden from a grant at all schools
pub returns-in-All : goal.returns-in-All
returns-in-All c =
    subst (λ (es : List DeltaEntry). IfOk c.whole_part.result (λ p. p ≡ part_of_delta c.args.query.now.limit c.args.query.now.offset es))
    (same_delta c.args.kind c.args.schools.now c.in-All.is (rows_of c.args.span.now.before.rows) (rows_of c.args.span.now.after.rows)) c.whole_part.ensures

pub returns-in-Listed : goal.returns-in-Listed
returns-in-Listed c =
    let lent : Spanned = record { before = c.before-before.result.now; after = c.after-after.result.now } in
    let same : lent ≡ c.args.span.now = λ i. record { before = c.before-before.ensures i; after = c.after-after.ensures i } in
    subst (λ (s : Spanned). IfOk c.seen_part.result (λ p. p ≡ part_of_delta c.args.query.now.limit c.args.query.now.offset
    (kind_delta c.args.kind (seen c.args.schools.now (rows_of s.before.rows)) (seen c.args.schools.now (rows_of s.after.rows)))))
    same c.seen_part.ensures
