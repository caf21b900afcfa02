use Rattle.std.proofs.Common.{◌≡◌, ◌++◌, drop, map, take, vec_len}
use Rattle.std.specs.List.{filter}
use Rattle.version_core.specs.History.{pasts_of}
use Rattle.version_core.specs.RefIndex.{is_kept}
use Rattle.version_core.proofs.ref_runs.keep_all.Given as goal

-- the runs so far have what rows name
abbrev pub invariant-loop-place : goal.invariant-loop-place
invariant-loop-place l = record {
  runs : l.runs.items ≡ map (filter (is_kept l.oldest (pasts_of l.histories))) (take l.place l.fn.runs.items) ++ drop l.place l.fn.runs.items;
  len : vec_len l.runs ≡ vec_len l.fn.runs;
}
