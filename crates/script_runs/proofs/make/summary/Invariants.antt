use Rattle.std.proofs.Common.{◌≡◌, ◌++◌, string_bytes, take}
use Rattle.std.specs.List.{flat_map}
use Rattle.roster_values.specs.Kinds.{all_kinds}
use Rattle.script_runs.specs.Makings.{count_line, schools_line}
use Rattle.script_runs.proofs.make.summary.Given as goal

abbrev pub invariant-loop-kind : goal.invariant-loop-kind
invariant-loop-kind l = record {
  link : l.play.link ≡ l.fn.play.link;
  copy : l.play.copy.copy ≡ l.fn.play.copy.copy;
  text : string_bytes l.text ≡ schools_line l.count ++ flat_map (count_line l.fn.play.copy.copy) (take l.kind-index all_kinds);
}
