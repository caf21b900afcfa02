use Rattle.std.proofs.Common.{rules, ◌≡◌, sym, ◌∙◌, arith}
use Rattle.roster_types.proofs.MetadataLaws.{metadata_length-some}
use Rattle.roster_types.proofs.parts.RowParts.metadata_length.Goals as goal

pub returns : goal.returns
returns c =
    let same : c.entries-entries.result.now ≡ c.args.self.now.metadata = search rules in
    let some = metadata_length-some c.entries-entries.result.now (sym c.is_empty.ensures ∙ c.if-is_empty.false) in
    rw (sym same) (omega (arith, some, c.add.ensures, c.member_length.ensures, c.enclosed_length.ensures, c.parts_length.ensures))
