use Rattle.std.proofs.Common.{sym, subst}
use Rattle.roster_types.specs.Records.{IsFitting}
use Rattle.roster_types.specs.declared.status.Status.TheVariants.{ToBeDeleted}
use Rattle.roster_types.proofs.Sums.{place_within, value_fits_there}
use Rattle.roster_values.specs.Table.{info_of}
use Rattle.roster_types.proofs.parts.RowParts.field_bound.Goals as goal

pub value_with-value-requires : goal.value_with-value-requires
value_with-value-requires c = place_within c.args.self.now c.args.place _ (subst IsFitting c.self.view_is c.self.invariant.0) c.requires

pub value_bound-requires : goal.value_bound-requires
value_bound-requires c =
    value_fits_there c.args.self.now ToBeDeleted c.args.place (info_of c.args.info.now) _ (subst IsFitting c.self.view_is c.self.invariant.0) c.requires (sym c.in-Some.ensures)
