use Rattle.std.proofs.Common.{◌≡◌, ◌+◌, min, sum_by, take}
use Rattle.roster_types.specs.Lengths.{escaped_length}
use Rattle.roster_types.proofs.lengths.text_length.Given as goal

abbrev pub invariant-loop-byte : goal.invariant-loop-byte
invariant-loop-byte l = l.length ≡ min (2 + sum_by escaped_length (take l.byte-index l.byte-items)) 100000
