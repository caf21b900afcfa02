use Rattle.rest_provider.proofs.Progressing.{wants_memory}
use Rattle.rest_provider.specs.Ends.{ends_of}
use Rattle.rest_provider.specs.Streams.{stage_of}
use Rattle.rest_provider.proofs.serving.serve_stream.Goals as goal

pub returns-in-Err-clause-served : goal.returns-in-Err-clause-served
returns-in-Err-clause-served g c =
    wants_memory (stage_of (ends_of (g.S.Source.left c.args.source.now) (g.S.Source.faults c.args.source.now) (g.W.Sink.written c.args.sink.now) (g.W.Sink.faults c.args.sink.now)) (g.H.HubKeeper.stands_for c.args.keeper.now) (g.H.HubKeeper.fault_count c.args.keeper.now) c.args.hub.now)
    (g.K.Clock.moment c.args.desk.now.clock.now)

pub returns-in-Err-clause-leads : goal.returns-in-Err-clause-leads
returns-in-Err-clause-leads g c = g.met.H.HubKeeper.stays _
