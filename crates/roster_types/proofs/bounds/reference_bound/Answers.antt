use Rattle.std.proofs.Common.{ap, arith, length}
use Rattle.roster_types.proofs.BoundLaws.{reference_most}
use Rattle.roster_types.proofs.bounds.reference_bound.Goals as goal

pub returns : goal.returns
returns c =
    let plural = ap length c.plural.ensures in
    let single = ap length c.single.ensures in
    let bytes = ap length c.as_str-bytes.ensures.text in
    let most = reference_most c.args.kind c.args.id.now in
    record { small = omega arith; above = omega (arith, plural, single, bytes, most) }
