use Rattle.std.proofs.Common.{◌≡◌, map, take}
use Rattle.filter_grammar.specs.rows.Filters.{folded}
use Rattle.filter_grammar.proofs.rows.sets.folded_ids.Given as goal

abbrev pub invariant-loop-id : goal.invariant-loop-id
invariant-loop-id l = l.items ≡ map folded (take l.id-index l.ids)
