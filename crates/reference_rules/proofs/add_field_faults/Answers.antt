use Rattle.roster_types.proofs.Sums.{place_within}
use Rattle.reference_rules.proofs.add_field_faults.Goals as goal

pub value-requires : goal.value-requires
value-requires g c = place_within c.args.row.now c.args.place _ c.kind.ensures.row.fitting c.requires.info
