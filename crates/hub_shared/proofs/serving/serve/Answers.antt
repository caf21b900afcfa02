use Rattle.std.proofs.Common.{refl, length, ◌∙◌}
use Rattle.hub_shared.proofs.Chains.{breaks_off, closes_at, goes_on, starts, stops_at}
use Rattle.hub_shared.proofs.serving.serve.Goals as goal
use Rattle.hub_shared.specs.Serving.{TakesShared, requests_of}

pub serving-init : goal.serving-init
serving-init g c = record {
  fresh = c.requires.fresh;
  progress = starts (TakesShared g.N.Naming.opening (g.K.Clock.moment c.args.desk.now.clock.now)) _ c.args.reader.now.kept c.args.seat.now c.requires.none_kept;
}

pub serving-preserved : goal.serving-preserved
serving-preserved g c =
    let (e, taken, stays, writes, sink) = c.in-Answered-false.ensures.turns in
    record {
      fresh = c.in-Answered-false.ensures.fresh _ refl;
      progress = goes_on (TakesShared g.N.Naming.opening (g.K.Clock.moment c.args.desk.now.clock.now)) _ _ _ _ _ c.serving.invariant.progress e taken _ c.saturating_add-answered.ensures (stays ∙ c.in-Answered-false.close-test) writes sink;
    }

pub returns-in-Answered-true : goal.returns-in-Answered-true
returns-in-Answered-true g c =
    let (e, taken, closes, writes, sink) = c.in-Answered-true.ensures.turns in
    rw (c.saturating_add.ensures, c.kept.ensures)
    (closes_at (TakesShared g.N.Naming.opening (g.K.Clock.moment c.args.desk.now.clock.now)) _ _ _ _ _ c.serving.invariant.progress e taken (closes ∙ c.in-Answered-true.close-test) writes sink)

pub returns-in-SinkFailed : goal.returns-in-SinkFailed
returns-in-SinkFailed g c =
    let (e, taken, writes, rose) = c.in-SinkFailed.ensures.turns in
    breaks_off (TakesShared g.N.Naming.opening (g.K.Clock.moment c.args.desk.now.clock.now)) _ _ _ _ _ c.serving.invariant.progress e taken writes rose

pub returns-in-Stopped : goal.returns-in-Stopped
returns-in-Stopped g c =
    let progress = c.serving.invariant.progress in
    stops_at (TakesShared g.N.Naming.opening (g.K.Clock.moment c.args.desk.now.clock.now)) _ _ _ _ _ progress c.in-Stopped.fault c.in-Stopped.ensures.turns.0 c.in-Stopped.ensures.turns.1 _ _ c.stop.result
    (rw c.kept-in-Stopped.ensures at (c.stop.ensures (length (requests_of progress.exchanges)) progress.wire.number))
