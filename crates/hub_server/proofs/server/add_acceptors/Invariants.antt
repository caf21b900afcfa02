use Rattle.std.proofs.Common.{◌≡◌, ◌++◌, length}
use Rattle.std.specs.Vec.Iter.{into_iter_items, into_iter_len}
use Rattle.hub_server.specs.Serving.{acceptors_in, feeds_in, folders_in}
use Rattle.hub_server.proofs.server.add_acceptors.Given as goal

abbrev pub invariant-loop-acceptor : goal.invariant-loop-acceptor
invariant-loop-acceptor g l = record {
  whole : l.yielded ++ into_iter_items l.acceptor-iterator ≡ l.fn.acceptors.items;
  left : into_iter_len l.acceptor-iterator ≡ length (into_iter_items l.acceptor-iterator);
  feeds : feeds_in l.jobs.items ≡ feeds_in l.fn.jobs.items;
  folders : folders_in l.jobs.items ≡ folders_in l.fn.jobs.items;
  acceptors : acceptors_in l.jobs.items ≡ l.yielded;
}
