use Rattle.std.proofs.Common.{sym}
use Rattle.roster_types.proofs.Places.{named_within}
use Rattle.roster_types.proofs.row.Row.named.Goals as goal

pub value-requires : goal.value-requires
value-requires c = named_within c.args.self.now _ _ _ c.kind.ensures.row.fitting c.kind.ensures.kind (sym c.in_ok-place.ensures)
