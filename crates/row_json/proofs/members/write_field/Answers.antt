use Rattle.std.proofs.Common.{sym}
use Rattle.roster_types.proofs.Sums.{place_within, value_fits_there}
use Rattle.roster_values.specs.Table.{info_of}
use Rattle.row_json.proofs.members.write_field.Goals as goal

pub value-requires : goal.value-requires
value-requires c = place_within c.args.row.now c.args.place _ c.kind.ensures.row.fitting c.requires

pub write_value-requires : goal.write_value-requires
write_value-requires c = value_fits_there c.args.row.now c.args.row.now.status c.args.place (info_of c.args.info.now) _ c.kind.ensures.row.fitting c.requires (sym c.in-Some.ensures.value)
