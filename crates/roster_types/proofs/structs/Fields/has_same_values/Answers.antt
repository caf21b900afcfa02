use Rattle.std.proofs.Common.{ap, arith, get_or, refl, sym, ◌∙◌, None}
use Rattle.roster_types.specs.Structs.{values_of}
use Rattle.roster_types.proofs.SameRows.{all_places, one_more}
use Rattle.roster_types.proofs.structs.Fields.has_same_values.Goals as goal

pub returns-then-not-are_same_fields : goal.returns-then-not-are_same_fields
returns-then-not-are_same_fields c =
    (λ h. cc, λ same. sym c.if-not-are_same_fields.true ∙ c.are_same_fields.ensures.1 (c.value.ensures ∙ ap (λ vs. get_or vs c.loop-place.place None) same ∙ sym c.value-in-loop-place.ensures))

pub loop-place-preserved : goal.loop-place-preserved
loop-place-preserved c =
    one_more (values_of c.args.self.now) (values_of c.args.other.now) c.loop-place.place (sym c.requires.left ∙ c.requires.right) (omega (arith, c.requires.left, c.loop-place-test.true)) c.loop-place.invariant
    (sym c.value.ensures ∙ c.are_same_fields.ensures.0 c.if-not-are_same_fields.false ∙ c.value-in-loop-place.ensures)

pub returns : goal.returns
returns c = (
  λ _. all_places (values_of c.args.self.now) (values_of c.args.other.now) c.loop-place.place (sym c.requires.left ∙ c.requires.right) (omega (arith, c.requires.left, c.loop-place-test.false)) c.loop-place.invariant,
  λ _. refl,
)
