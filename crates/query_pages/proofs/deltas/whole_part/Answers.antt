use Rattle.std.proofs.Common.{◌≡◌, ◌∙◌, map, subst, sym}
use Rattle.delta_parts.proofs.Covering.{cover_of}
use Rattle.delta_parts.specs.Parts.{part_of_delta}
use Rattle.hub_spec.specs.views.Deltas.{kind_delta}
use Rattle.version_core.specs.Changes.{rows_of}
use Rattle.version_core.specs.Spans.{AreSameBeside, Spanned}
use Rattle.query_pages.proofs.deltas.whole_part.Goals as goal

pub delta_part_among-requires-clause-cover : goal.delta_part_among-requires-clause-cover
delta_part_among-requires-clause-cover c =
    let before = c.before-before.result.now in
    let after = c.after-after.result.now in
    let ids = map (λ id. id.now) c.in_ok-ids.ids.items in
    let lent : Spanned = record { before = before; after = after } in
    let same : c.args.span.now ≡ lent = λ i. record { before = sym c.before-before.ensures i; after = sym c.after-after.ensures i } in
    let beside : AreSameBeside c.args.kind ids before.rows after.rows = subst (λ (s : Spanned). AreSameBeside c.args.kind ids s.before.rows s.after.rows) same c.in_ok-ids.ensures.beside in
    rw c.deref.ensures.value (cover_of c.args.kind ids before.rows after.rows c.grants.ensures.version.rows c.grants-2.ensures.version.rows beside)

pub returns : goal.returns
returns c =
    c.in_ok-part.ensures
    ∙ (λ i. part_of_delta c.args.query.now.limit c.args.query.now.offset (kind_delta c.args.kind (rows_of (c.before-before.ensures i).rows) (rows_of (c.after-after.ensures i).rows)))
