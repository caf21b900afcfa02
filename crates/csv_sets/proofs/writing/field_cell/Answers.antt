use Rattle.std.proofs.Common.{sym}
use Rattle.roster_types.proofs.Sums.{place_within, value_fits_there}
use Rattle.roster_values.proofs.FitLaws.{short_year}
use Rattle.roster_values.specs.Table.{info_of}
use Rattle.csv_sets.proofs.writing.field_cell.Goals as goal

pub value-requires : goal.value-requires
value-requires c = place_within c.args.row.now c.args.place _ c.kind.ensures.row.fitting c.requires

pub cell_text-requires : goal.cell_text-requires
cell_text-requires c =
    short_year (info_of c.args.info.now).form _ (value_fits_there c.args.row.now c.args.row.now.status c.args.place (info_of c.args.info.now) _ c.kind.ensures.row.fitting c.requires (sym c.in-Some.ensures.value))
