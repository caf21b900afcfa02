use Rattle.std.proofs.Common.{rules}
use Rattle.roster_types.proofs.SameRows.{by_values}
use Rattle.roster_types.proofs.parts.RowParts.is_same_but_date.Goals as goal

pub returns : goal.returns
returns c = by_values c.args.self.now c.args.other.now c.has_same_values.result (search rules) (search rules) (search rules) (search rules) c.has_same_values.ensures
