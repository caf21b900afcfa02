use Rattle.hub_server.proofs.FeedEnds.{feeds_end}
use Rattle.hub_server.proofs.jobs.feed.Goals as goal

pub returns : goal.returns
returns g c =
    rw c.ending_of-ending.ensures
    (feeds_end g.N.Naming.opening (g.F.Folder.files c.args.folder) (g.F.Folder.faults c.args.folder) (g.F.Folder.faults c.feed_shared-end.new.folder) c.args.feed.now
    (g.K.Clock.moment c.args.desk.now.clock.now) c.feed_shared-end.result.0 c.feed_shared-end.result.1 (rw c.as_str.ensures at c.feed_shared-end.ensures.fed))
