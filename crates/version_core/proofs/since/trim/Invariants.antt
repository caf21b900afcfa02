use Rattle.std.proofs.Common.{◌≡◌, ◌<◌, vec_len}
use Rattle.version_core.specs.Since.{trimmed}
use Rattle.version_core.proofs.since.trim.Given as goal

-- what goes so far would go
abbrev pub invariant-loop-entries : goal.invariant-loop-entries
invariant-loop-entries g l = record {
  entries : trimmed l.version l.entries.items ≡ trimmed l.version l.fn.entries.items;
  some : 0 < vec_len l.fn.entries → 0 < vec_len l.entries;
}

abbrev pub decreases-loop-entries : goal.decreases-loop-entries
decreases-loop-entries g l = vec_len l.entries
