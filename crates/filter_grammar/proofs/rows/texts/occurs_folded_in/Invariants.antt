use Rattle.std.proofs.Common.{◌≡◌, length}
use Rattle.filter_grammar.specs.rows.Filters.{folded, occurs_in}
use Rattle.filter_grammar.proofs.rows.texts.occurs_folded_in.Given as goal

-- it isn't where it was looked for
abbrev pub invariant-loop-later : goal.invariant-loop-later
invariant-loop-later l = occurs_in (folded l.part) (folded l.text) ≡ occurs_in (folded l.part) (folded l.rest)

abbrev pub decreases-loop-later : goal.decreases-loop-later
decreases-loop-later l = length l.rest
