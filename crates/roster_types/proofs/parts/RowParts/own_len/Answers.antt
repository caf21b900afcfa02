use Rattle.std.proofs.Common.{◌≡◌, map, ap, ◌∙◌, arith}
use Rattle.roster_types.proofs.Sums.{fields-values, infos-length}
use Rattle.roster_values.specs.Table.{info_of, table}
use Rattle.roster_types.proofs.parts.RowParts.own_len.Goals as goal

pub overflow_sub-result : goal.overflow_sub-result
overflow_sub-result c =
    let m : map info_of c.fields.result.now ≡ table c.args.self.now.kind = c.fields.ensures ∙ ap table c.kind.ensures.kind in
    let n = infos-length _ _ m in
    let v = fields-values c.args.self.now c.kind.ensures.fitting in
    omega (arith, n, v)

pub returns : goal.returns
returns c =
    let m : map info_of c.fields.result.now ≡ table c.args.self.now.kind = c.fields.ensures ∙ ap table c.kind.ensures.kind in
    let n = infos-length _ _ m in
    let v = fields-values c.args.self.now c.kind.ensures.fitting in
    omega (arith, n, v)
