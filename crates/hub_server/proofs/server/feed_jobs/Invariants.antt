use Rattle.std.proofs.Common.{◌≡◌, ◌++◌, [], length}
use Rattle.std.specs.Vec.Iter.{into_iter_items, into_iter_len}
use Rattle.hub_server.specs.Serving.{acceptors_in, feeds_in, folders_in}
use Rattle.hub_server.proofs.server.feed_jobs.Given as goal

abbrev pub invariant-loop-feed : goal.invariant-loop-feed
invariant-loop-feed g l = record {
  whole : l.yielded ++ into_iter_items l.feed-iterator ≡ l.fn.feeds.items;
  left : into_iter_len l.feed-iterator ≡ length (into_iter_items l.feed-iterator);
  feeds : feeds_in l.jobs.items ≡ l.yielded;
  folders : folders_in l.jobs.items ++ into_iter_items l.folders ≡ l.fn.folders.items;
  even : length (folders_in l.jobs.items) ≡ length l.yielded;
  acceptors : acceptors_in l.jobs.items ≡ [];
}
