use Rattle.roster_values.specs.declared.kind.Kind.TheVariants.{Orgs}
use Rattle.roster_types.proofs.Taking.{all_taken, fit, first, next, one_taken}
use Rattle.roster_types.proofs.orgs.Org.take_from.Goals as goal

pub text-requires : goal.text-requires
text-requires c = first (fit Orgs c.args.values.now c.requires)

pub word-requires : goal.word-requires
word-requires c = first (next (fit Orgs c.args.values.now c.requires) c.text.ensures)

pub optional_text-requires : goal.optional_text-requires
optional_text-requires c = first (next (next (fit Orgs c.args.values.now c.requires) c.text.ensures) c.word.ensures)

pub optional_reference-requires : goal.optional_reference-requires
optional_reference-requires c = first (next (next (next (fit Orgs c.args.values.now c.requires) c.text.ensures) c.word.ensures) c.optional_text.ensures)

pub returns : goal.returns
returns c = one_taken c.text.ensures (one_taken c.word.ensures (one_taken c.optional_text.ensures (one_taken c.optional_reference.ensures (all_taken (next (next (next (next (fit Orgs c.args.values.now c.requires) c.text.ensures) c.word.ensures) c.optional_text.ensures) c.optional_reference.ensures)))))
