use Rattle.std.proofs.Common.{◌≡◌, length}
use Rattle.std.specs.Cmp.Lexicographic.{slice_cmp}
use Rattle.std.specs.Ordering.{nat_cmp}
use Rattle.filter_grammar.specs.rows.Filters.{folded}
use Rattle.filter_grammar.proofs.rows.texts.folded_cmp.Given as goal

-- what is left decides
abbrev pub invariant-loop-byte : goal.invariant-loop-byte
invariant-loop-byte l = slice_cmp nat_cmp (folded l.text) (folded l.other) ≡ slice_cmp nat_cmp (folded l.rest) (folded l.others)

abbrev pub decreases-loop-byte : goal.decreases-loop-byte
decreases-loop-byte l = length l.rest
