use Rattle.std.proofs.Common.{◌≡◌, None, length}
use Rattle.http_wire.specs.Reading.{bytes_due}
use Rattle.hub_shared.proofs.Chains.{SoFar}
use Rattle.hub_shared.proofs.serving.serve.Given as goal
use Rattle.hub_shared.specs.Serving.{TakesShared, connection}
use Rattle.rest_provider.specs.Ends.{ends_of}

abbrev pub invariant-serving : goal.invariant-serving
invariant-serving g l = record {
  fresh : l.reader.fault ≡ None;
  progress : SoFar (TakesShared g.N.Naming.opening (g.K.Clock.moment l.desk.clock.now))
      (ends_of (g.S.Source.left l.fn.source) (g.S.Source.faults l.fn.source) (g.W.Sink.written l.fn.sink) (g.W.Sink.faults l.fn.sink)) l.fn.seat
      (connection (ends_of (g.S.Source.left l.source) (g.S.Source.faults l.source) (g.W.Sink.written l.sink) (g.W.Sink.faults l.sink)) l.reader.kept l.seat)
      l.answered;
}

abbrev pub decreases-serving : goal.decreases-serving
decreases-serving g l = bytes_due (g.S.Source.budget l.source) (length l.reader.kept)
