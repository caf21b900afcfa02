use Rattle.roster_values.specs.declared.kind.Kind.TheVariants.{Users}
use Rattle.roster_types.proofs.Taking.{all_taken, fit, first, next, one_taken}
use Rattle.roster_types.proofs.users.User.take_from.Goals as goal

pub flag-requires : goal.flag-requires
flag-requires c = first (fit Users c.args.values.now c.requires)

pub references-requires : goal.references-requires
references-requires c = first (next (fit Users c.args.values.now c.requires) c.flag.ensures)

pub word-requires : goal.word-requires
word-requires c = first (next (next (fit Users c.args.values.now c.requires) c.flag.ensures) c.references.ensures)

pub text-requires : goal.text-requires
text-requires c = first (next (next (next (fit Users c.args.values.now c.requires) c.flag.ensures) c.references.ensures) c.word.ensures)

pub optional_user_ids-requires : goal.optional_user_ids-requires
optional_user_ids-requires c = first (next (next (next (next (fit Users c.args.values.now c.requires) c.flag.ensures) c.references.ensures) c.word.ensures) c.text.ensures)

pub text-requires-2 : goal.text-requires-2
text-requires-2 c = first (next (next (next (next (next (fit Users c.args.values.now c.requires) c.flag.ensures) c.references.ensures) c.word.ensures) c.text.ensures) c.optional_user_ids.ensures)

pub text-requires-3 : goal.text-requires-3
text-requires-3 c = first (next (next (next (next (next (next (fit Users c.args.values.now c.requires) c.flag.ensures) c.references.ensures) c.word.ensures) c.text.ensures) c.optional_user_ids.ensures) c.text-2.ensures)

pub optional_text-requires : goal.optional_text-requires
optional_text-requires c = first (next (next (next (next (next (next (next (fit Users c.args.values.now c.requires) c.flag.ensures) c.references.ensures) c.word.ensures) c.text.ensures) c.optional_user_ids.ensures) c.text-2.ensures) c.text-3.ensures)

pub optional_text-requires-2 : goal.optional_text-requires-2
optional_text-requires-2 c = first (next (next (next (next (next (next (next (next (fit Users c.args.values.now c.requires) c.flag.ensures) c.references.ensures) c.word.ensures) c.text.ensures) c.optional_user_ids.ensures) c.text-2.ensures) c.text-3.ensures) c.optional_text.ensures)

pub optional_text-requires-3 : goal.optional_text-requires-3
optional_text-requires-3 c = first (next (next (next (next (next (next (next (next (next (fit Users c.args.values.now c.requires) c.flag.ensures) c.references.ensures) c.word.ensures) c.text.ensures) c.optional_user_ids.ensures) c.text-2.ensures) c.text-3.ensures) c.optional_text.ensures) c.optional_text-2.ensures)

pub optional_text-requires-4 : goal.optional_text-requires-4
optional_text-requires-4 c = first (next (next (next (next (next (next (next (next (next (next (fit Users c.args.values.now c.requires) c.flag.ensures) c.references.ensures) c.word.ensures) c.text.ensures) c.optional_user_ids.ensures) c.text-2.ensures) c.text-3.ensures) c.optional_text.ensures) c.optional_text-2.ensures) c.optional_text-3.ensures)

pub optional_text-requires-5 : goal.optional_text-requires-5
optional_text-requires-5 c = first (next (next (next (next (next (next (next (next (next (next (next (fit Users c.args.values.now c.requires) c.flag.ensures) c.references.ensures) c.word.ensures) c.text.ensures) c.optional_user_ids.ensures) c.text-2.ensures) c.text-3.ensures) c.optional_text.ensures) c.optional_text-2.ensures) c.optional_text-3.ensures) c.optional_text-4.ensures)

pub optional_references-requires : goal.optional_references-requires
optional_references-requires c = first (next (next (next (next (next (next (next (next (next (next (next (next (fit Users c.args.values.now c.requires) c.flag.ensures) c.references.ensures) c.word.ensures) c.text.ensures) c.optional_user_ids.ensures) c.text-2.ensures) c.text-3.ensures) c.optional_text.ensures) c.optional_text-2.ensures) c.optional_text-3.ensures) c.optional_text-4.ensures) c.optional_text-5.ensures)

pub optional_texts-requires : goal.optional_texts-requires
optional_texts-requires c = first (next (next (next (next (next (next (next (next (next (next (next (next (next (fit Users c.args.values.now c.requires) c.flag.ensures) c.references.ensures) c.word.ensures) c.text.ensures) c.optional_user_ids.ensures) c.text-2.ensures) c.text-3.ensures) c.optional_text.ensures) c.optional_text-2.ensures) c.optional_text-3.ensures) c.optional_text-4.ensures) c.optional_text-5.ensures) c.optional_references.ensures)

pub returns : goal.returns
returns c = one_taken c.flag.ensures (one_taken c.references.ensures (one_taken c.word.ensures (one_taken c.text.ensures (one_taken c.optional_user_ids.ensures (one_taken c.text-2.ensures (one_taken c.text-3.ensures (one_taken c.optional_text.ensures (one_taken c.optional_text-2.ensures (one_taken c.optional_text-3.ensures (one_taken c.optional_text-4.ensures (one_taken c.optional_text-5.ensures (one_taken c.optional_references.ensures (one_taken c.optional_texts.ensures (all_taken (next (next (next (next (next (next (next (next (next (next (next (next (next (next (fit Users c.args.values.now c.requires) c.flag.ensures) c.references.ensures) c.word.ensures) c.text.ensures) c.optional_user_ids.ensures) c.text-2.ensures) c.text-3.ensures) c.optional_text.ensures) c.optional_text-2.ensures) c.optional_text-3.ensures) c.optional_text-4.ensures) c.optional_text-5.ensures) c.optional_references.ensures) c.optional_texts.ensures)))))))))))))))
