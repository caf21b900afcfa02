use Rattle.std.proofs.Common.{◌≡◌, length}
use Rattle.filter_grammar.specs.Escapes.{has_whole_escapes}
use Rattle.filter_grammar.proofs.escapes.has_whole_escapes.Given as goal

abbrev pub invariant-loop-rest : goal.invariant-loop-rest
invariant-loop-rest l = has_whole_escapes l.text ≡ has_whole_escapes l.rest

abbrev pub decreases-loop-rest : goal.decreases-loop-rest
decreases-loop-rest l = length l.rest
