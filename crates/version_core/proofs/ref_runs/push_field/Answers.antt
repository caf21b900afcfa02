use Rattle.std.proofs.Common.{◌≡◌, map, ap, ◌∙◌, arith}
use Rattle.roster_types.proofs.Sums.{fields-values, infos-length}
use Rattle.roster_values.specs.Table.{info_of, table}
use Rattle.version_core.proofs.ref_runs.push_field.Goals as goal

pub value-requires : goal.value-requires
value-requires c =
    let infos = c.fields.result.now in
    let are : map info_of infos ≡ table c.args.row.now.kind = c.fields.ensures ∙ ap table c.kind.ensures.kind in
    let many = infos-length infos (table c.args.row.now.kind) are in
    let values = fields-values c.args.row.now c.kind.ensures.row.fitting in
    omega (arith, many, values, c.if-place-fields.false)
