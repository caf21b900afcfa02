use Rattle.std.proofs.Common.{map}
use Rattle.roster_values.specs.Table.{info_of}
use Rattle.row_json.proofs.Guesses.{FitBefore}
use Rattle.row_json.proofs.guess.values_of.Given as goal

abbrev pub invariant-loop-place : goal.invariant-loop-place
invariant-loop-place l = FitBefore (map info_of l.infos) l.values.items l.place
