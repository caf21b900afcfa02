use Rattle.std.proofs.Common.{◌∙◌, ap, length, sym}
use Rattle.roster_types.proofs.SameRows.{as_many}
use Rattle.roster_types.proofs.parts.RowParts.has_same_values.Goals as goal

pub has_same_values-requires-clause-right : goal.has_same_values-requires-clause-right
has_same_values-requires-clause-right c =
    c.own_len.ensures ∙ as_many c.args.self.now c.args.other.now c.kind.ensures.fitting c.kind-2.ensures.fitting c.requires ∙ ap length (sym c.fields-2.ensures.values)
