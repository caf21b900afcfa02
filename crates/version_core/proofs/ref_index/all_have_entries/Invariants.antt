use Rattle.std.proofs.Common.{◌≡◌, ◌<◌, ℕ, [], get_or, true}
use Rattle.std.specs.List.{list_any}
use Rattle.roster_values.specs.Kinds.{place_of_kind}
use Rattle.version_core.specs.RefIndex.{is_entry_of}
use Rattle.version_core.proofs.ref_index.all_have_entries.Given as goal

-- entries say so of each target so far
abbrev pub invariant-loop-target : goal.invariant-loop-target
invariant-loop-target l = (k : ℕ) → k < l.target-index → list_any (list_any (is_entry_of (place_of_kind l.kind, l.place, get_or l.targets k []) l.id)) l.runs ≡ true
