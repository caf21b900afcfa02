use Rattle.std.proofs.Common.{rules, ◌≡◌, arith, sym}
use Rattle.roster_types.proofs.BoundLaws.{metadata_most}
use Rattle.roster_types.proofs.parts.RowParts.metadata_bound.Goals as goal

pub returns : goal.returns
returns c =
    let same : c.entries.result.now ≡ c.args.self.now.metadata = search rules in
    let most = metadata_most c.entries.result.now in
    rw (sym same) (record { small = omega arith; above = omega (arith, most, c.add.ensures, c.list_bound.ensures.small, c.list_bound.ensures.above) })
