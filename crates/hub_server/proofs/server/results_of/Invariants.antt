use Rattle.std.proofs.Common.{◌≡◌, ◌++◌, length}
use Rattle.std.specs.Vec.Iter.{into_iter_items, into_iter_len}
use Rattle.hub_server.specs.Serving.{acceptors_of, ending_of_all, folders_of}
use Rattle.hub_server.proofs.server.results_of.Given as goal

abbrev pub invariant-loop-end : goal.invariant-loop-end
invariant-loop-end g l = record {
  whole : l.yielded ++ into_iter_items l.end-iterator ≡ l.fn.ends.items;
  left : into_iter_len l.end-iterator ≡ length (into_iter_items l.end-iterator);
  ending : l.results.ending ≡ ending_of_all l.yielded;
  acceptors : l.results.doors.acceptors.items ≡ acceptors_of l.yielded;
  folders : l.results.doors.folders.items ≡ folders_of l.yielded;
}
