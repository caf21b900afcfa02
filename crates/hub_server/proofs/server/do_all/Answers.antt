use Rattle.hub_server.specs.Jobs.{service}
use Rattle.hub_server.proofs.Ends.{ended_all}
use Rattle.hub_server.proofs.server.do_all.Goals as goal

pub returns : goal.returns
returns g c =
    let s = service g.A.Acceptor.given_count g.A.Acceptor.fault_count g.F.Folder.files g.F.Folder.faults
    g.N.Naming.opening c.args.outside.now.connections in
    ended_all s c.args.jobs.items c.in_ok-ends.ends.items
    c.in_ok-ends.ensures.len c.in_ok-ends.ensures.each c.results_of.result c.results_of.ensures.ending c.results_of.ensures.acceptors c.results_of.ensures.folders
