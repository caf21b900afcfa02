use Rattle.std.proofs.Common.{◌≡◌, map, sym, ap, ◌∙◌, arith}
use Rattle.roster_types.proofs.Sums.{fields-values, infos-length}
use Rattle.roster_values.specs.Table.{info_of, table}
use Rattle.version_core.proofs.KeptLemmas.{none_behind}
use Rattle.version_core.proofs.kept_refs.names_at.Goals as goal

pub returns-then-place-fields : goal.returns-then-place-fields
returns-then-place-fields c =
    let infos = c.fields.result.now in
    let are : map info_of infos ≡ table c.args.row.now.kind = c.fields.ensures ∙ ap table c.kind.ensures.kind in
    let many = infos-length infos (table c.args.row.now.kind) are in
    let values = fields-values c.args.row.now c.kind.ensures.row.fitting in
    sym (none_behind c.args.row.now c.args.place c.args.id.now (omega (arith, many, values, c.if-place-fields.true)))

pub value-requires : goal.value-requires
value-requires c =
    let infos = c.fields.result.now in
    let are : map info_of infos ≡ table c.args.row.now.kind = c.fields.ensures ∙ ap table c.kind.ensures.kind in
    let many = infos-length infos (table c.args.row.now.kind) are in
    let values = fields-values c.args.row.now c.kind.ensures.row.fitting in
    omega (arith, many, values, c.if-place-fields.false)
