use Rattle.std.proofs.Common.{◌≡◌, None, length}
use Rattle.http_wire.specs.Reading.{bytes_due}
use Rattle.hub_core.specs.Standing.{KeeperFits}
use Rattle.rest_provider.proofs.Progressing.{Progress}
use Rattle.rest_provider.proofs.serving.serve.Given as goal
use Rattle.rest_provider.specs.Ends.{ends_of}
use Rattle.rest_provider.specs.Streams.{stage_of}

abbrev pub invariant-serving : goal.invariant-serving
invariant-serving g l =
    let before = stage_of (ends_of (g.S.Source.left l.fn.source) (g.S.Source.faults l.fn.source) (g.W.Sink.written l.fn.sink) (g.W.Sink.faults l.fn.sink))
    (g.H.HubKeeper.stands_for l.fn.keeper) (g.H.HubKeeper.fault_count l.fn.keeper) l.fn.hub in
    let now = stage_of (ends_of (g.S.Source.left l.source) (g.S.Source.faults l.source) (g.W.Sink.written l.sink) (g.W.Sink.faults l.sink))
    (g.H.HubKeeper.stands_for l.keeper) (g.H.HubKeeper.fault_count l.keeper) l.hub in
    record {
      fits : KeeperFits (g.H.HubKeeper.stands_for l.keeper) l.hub;
      leads : g.H.HubKeeper.leads l.fn.keeper l.keeper;
      fresh : l.reader.fault ≡ None;
      progress : Progress before now l.reader.kept (g.K.Clock.moment l.desk.clock.now) l.answered;
    }

abbrev pub decreases-serving : goal.decreases-serving
decreases-serving g l = bytes_due (g.S.Source.budget l.source) (length l.reader.kept)
