use Rattle.std.proofs.Common.{◌≡◌, map, take}
use Rattle.version_changes.specs.sets.Steps.{bare}
use Rattle.version_changes.proofs.sets.index.bare_parts.Given as goal

abbrev pub invariant-loop-part : goal.invariant-loop-part
invariant-loop-part l = l.bare ≡ map bare (take l.part-index l.parts)
