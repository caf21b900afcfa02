use Rattle.std.proofs.Common.{◌≡◌, take}
use Rattle.roster_types.specs.Structs.{values_of}
use Rattle.roster_types.proofs.structs.Fields.has_same_values.Given as goal

abbrev pub invariant-loop-place : goal.invariant-loop-place
invariant-loop-place l = take l.place (values_of l.self) ≡ take l.place (values_of l.other)
