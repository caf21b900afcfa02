use Rattle.std.proofs.Common.{sym, rules, refl, subst}
use Rattle.roster_types.specs.Lengths.{field_length}
use Rattle.roster_types.specs.Records.{IsFitting}
use Rattle.roster_types.specs.declared.status.Status.TheVariants.{ToBeDeleted}
use Rattle.roster_types.proofs.Sums.{place_within, value_fits_there}
use Rattle.roster_values.specs.Table.{info_of}
use Rattle.roster_types.proofs.parts.RowParts.field_length.Goals as goal

pub value_with-requires : goal.value_with-requires
value_with-requires c = place_within c.args.self.now c.args.place _ (subst IsFitting c.self.view_is c.self.invariant.0) c.requires

pub value_length-requires : goal.value_length-requires
value_length-requires c =
    value_fits_there c.args.self.now ToBeDeleted c.args.place (info_of c.args.info.now) _ (subst IsFitting c.self.view_is c.self.invariant.0) c.requires (sym c.in-Some.ensures)

pub returns-in_ok-value-in-Some : goal.returns-in_ok-value-in-Some
unfolding field_length
returns-in_ok-value-in-Some c = rw (sym c.in-Some.ensures) (search rules)

pub returns-in-None : goal.returns-in-None
unfolding field_length
returns-in-None c = rw (sym c.in-None.ensures) refl
