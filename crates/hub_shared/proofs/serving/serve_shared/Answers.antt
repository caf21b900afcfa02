use Rattle.hub_shared.proofs.Chains.{wants_memory}
use Rattle.hub_shared.proofs.serving.serve_shared.Goals as goal
use Rattle.hub_shared.specs.Serving.{TakesShared}
use Rattle.rest_provider.specs.Ends.{ends_of}

pub returns-in-Err : goal.returns-in-Err
returns-in-Err g c =
    wants_memory (TakesShared g.N.Naming.opening (g.K.Clock.moment c.args.desk.now.clock.now))
    (ends_of (g.S.Source.left c.args.source.now) (g.S.Source.faults c.args.source.now) (g.W.Sink.written c.args.sink.now) (g.W.Sink.faults c.args.sink.now)) c.args.seat.now
