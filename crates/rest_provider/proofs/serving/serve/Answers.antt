use Rattle.std.proofs.Common.{refl, length, ◌∙◌}
use Rattle.rest_provider.proofs.Progressing.{begins, breaks_off, closes_at, goes_on, stops_at}
use Rattle.rest_provider.proofs.serving.serve.Goals as goal
use Rattle.rest_provider.specs.Exchanges.{requests_of}

pub serving-init : goal.serving-init
serving-init g c = record {
  fits = c.requires.fits;
  leads = g.met.H.HubKeeper.stays _;
  fresh = c.requires.fresh;
  progress = begins _ c.args.reader.now.kept (g.K.Clock.moment c.args.desk.now.clock.now) c.requires.none_kept;
}

pub serving-preserved : goal.serving-preserved
serving-preserved g c =
    let (e, taken, stays, writes, sink) = c.in-Answered-false.ensures.turns in
    record {
      fits = c.take_turn.ensures.fits;
      leads = g.met.H.HubKeeper.leads_on _ _ _ c.serving.invariant.leads c.take_turn.ensures.leads;
      fresh = c.in-Answered-false.ensures.fresh _ refl;
      progress = goes_on _ _ _ _ _ _ _ c.serving.invariant.progress e taken _ c.saturating_add-answered.ensures (stays ∙ c.in-Answered-false.close-test) writes sink;
    }

pub returns-in-Answered-true-clause-served : goal.returns-in-Answered-true-clause-served
returns-in-Answered-true-clause-served g c =
    let (e, taken, closes, writes, sink) = c.in-Answered-true.ensures.turns in
    rw (c.saturating_add.ensures, c.kept.ensures)
    (closes_at _ _ _ _ _ _ _ c.serving.invariant.progress e taken (closes ∙ c.in-Answered-true.close-test) writes sink)

pub returns-in-SinkFailed-clause-served : goal.returns-in-SinkFailed-clause-served
returns-in-SinkFailed-clause-served g c =
    let (e, taken, writes, rose) = c.in-SinkFailed.ensures.turns in
    breaks_off _ _ _ _ _ _ _ c.serving.invariant.progress e taken writes rose

pub returns-in-Stopped-clause-served : goal.returns-in-Stopped-clause-served
returns-in-Stopped-clause-served g c =
    let progress = c.serving.invariant.progress in
    let (stopped, idle) = c.in-Stopped.ensures.turns in
    stops_at _ _ _ _ _ _ _ progress c.in-Stopped.fault stopped idle _ _ c.stop.result
    (rw c.kept-in-Stopped.ensures at (c.stop.ensures (length (requests_of progress.exchanges)) progress.wire.number))

pub returns-in-Answered-true-clause-leads : goal.returns-in-Answered-true-clause-leads
returns-in-Answered-true-clause-leads g c = g.met.H.HubKeeper.leads_on _ _ _ c.serving.invariant.leads c.take_turn.ensures.leads

pub returns-in-SinkFailed-clause-leads : goal.returns-in-SinkFailed-clause-leads
returns-in-SinkFailed-clause-leads g c = g.met.H.HubKeeper.leads_on _ _ _ c.serving.invariant.leads c.take_turn.ensures.leads

pub returns-in-Stopped-clause-leads : goal.returns-in-Stopped-clause-leads
returns-in-Stopped-clause-leads g c = g.met.H.HubKeeper.leads_on _ _ _ c.serving.invariant.leads c.take_turn.ensures.leads
