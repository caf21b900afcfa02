use Rattle.std.proofs.Common.{◌≡◌, vec_len}
use Rattle.version_core.specs.History.{StandsFrom, pasts_of}
use Rattle.version_core.proofs.histories.trim_share.Given as goal

-- what is trimmed so far
abbrev pub invariant-loop-place : goal.invariant-loop-place
invariant-loop-place l = record {
  stands : StandsFrom l.fn.version (pasts_of l.fn.histories.items) (pasts_of l.histories.items);
  len : vec_len l.histories ≡ vec_len l.fn.histories;
}
