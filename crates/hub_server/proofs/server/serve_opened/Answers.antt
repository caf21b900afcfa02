use Rattle.hub_server.proofs.Kept.{stands_by, stands_still}
use Rattle.hub_server.proofs.server.serve_opened.Goals as goal

pub returns-in-Err-clause-kept : goal.returns-in-Err-clause-kept
returns-in-Err-clause-kept g c =
    rw c.in-Err.ensures
    (stands_still g.N.Naming.opening g.N.Naming.stood (g.H.HubKeeper.stands_for c.args.keeper) c.args.hub c.requires.fits c.requires.settled c.requires.named.1 c.requires.stood)

pub returns-in-Ok-results-clause-kept : goal.returns-in-Ok-results-clause-kept
returns-in-Ok-results-clause-kept g c =
    let (log, hub, standing) = c.close-keeper.ensures in
    stands_by g.N.Naming.opening g.N.Naming.stood _ hub _ log _ standing

pub returns-in-Err-results-clause-kept : goal.returns-in-Err-results-clause-kept
returns-in-Err-results-clause-kept g c =
    let (log, hub, standing) = c.close-keeper.ensures in
    stands_by g.N.Naming.opening g.N.Naming.stood _ hub _ log _ standing
