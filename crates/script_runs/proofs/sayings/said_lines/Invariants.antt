use Rattle.std.proofs.Common.{◌≡◌, ◌++◌, length, string_bytes}
use Rattle.std.specs.Vec.Iter.{into_iter_items, into_iter_len}
use Rattle.script_runs.specs.Sayings.{said_text}
use Rattle.script_runs.proofs.sayings.said_lines.Given as goal

abbrev pub invariant-loop-saying : goal.invariant-loop-saying
invariant-loop-saying l = record {
  whole : l.yielded ++ into_iter_items l.saying-iterator ≡ l.fn.said.items;
  left : into_iter_len l.saying-iterator ≡ length (into_iter_items l.saying-iterator);
  text : string_bytes l.text ≡ said_text l.yielded;
}
