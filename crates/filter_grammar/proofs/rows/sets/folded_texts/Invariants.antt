use Rattle.std.proofs.Common.{◌≡◌, map, take}
use Rattle.filter_grammar.specs.rows.Filters.{folded}
use Rattle.filter_grammar.proofs.rows.sets.folded_texts.Given as goal

abbrev pub invariant-loop-text : goal.invariant-loop-text
invariant-loop-text l = l.items ≡ map folded (take l.text-index l.texts)
