use Rattle.std.proofs.Common.{inl, refl, subst, sym}
use Rattle.rest_provider.proofs.Doing.{read_did, write_did}
use Rattle.rest_provider.proofs.StepLemmas.{own_stands, read_of}
use Rattle.rest_provider.proofs.WriteLemmas.{stopped_step}
use Rattle.rest_provider.specs.Steps.{TakesRequest}
use Rattle.rest_provider.proofs.writes.answer_write.Goals as goal

pub returns-in-Ok-clause-step : goal.returns-in-Ok-clause-step
returns-in-Ok-clause-step g c =
    let (failed, counts, led) = c.answer_asked.ensures.step in
    let kept = c.args.hub.now.kept in (
      failed,
      counts,
      λ after stands.
          let told = led after stands in
          (kept, inl refl, told.0, λ state is part. told.1 state is part (c.in-Ok.ensures.asked state (read_of state is.state kept part c.table.result.now c.table.ensures.versions))),
    )

pub returns-in-Err-clause-step : goal.returns-in-Err-clause-step
returns-in-Err-clause-step g c =
    let hub = c.args.hub.now in
    let request = c.args.request.now in (
      0,
      inl (refl, refl),
      λ after stands. (
        after,
        stands,
        (λ told. told),
        subst (λ kept. TakesRequest request c.args.at c.stopped.result kept kept 0) (sym (own_stands hub after c.requires.settled stands))
            (stopped_step request c.args.at hub.kept c.in-Err.stop c.stopped.result c.requires.writes c.stopped.ensures
            (λ state is part. c.in-Err.ensures.asked state (read_of state is.state hub.kept part c.table.result.now c.table.ensures.versions))),
      ),
    )

pub returns-in-Ok-clause-did : goal.returns-in-Ok-clause-did
returns-in-Ok-clause-did g c =
    let hub = c.args.hub.now in
    write_did c.args.request.now c.args.at _ c.answer_asked.result hub c.answer_asked.new.hub _ _
    (λ state is part. c.in-Ok.ensures.asked state (read_of state is.state hub.kept part c.table.result.now c.table.ensures.versions)) c.answer_asked.ensures.did

pub returns-in-Err-clause-did : goal.returns-in-Err-clause-did
returns-in-Err-clause-did g c =
    let hub = c.args.hub.now in
    let request = c.args.request.now in
    read_did request c.args.at c.stopped.result hub _ c.requires.settled
    (stopped_step request c.args.at hub.kept c.in-Err.stop c.stopped.result c.requires.writes c.stopped.ensures
    (λ state is part. c.in-Err.ensures.asked state (read_of state is.state hub.kept part c.table.result.now c.table.ensures.versions)))

pub returns-in-Err-clause-leads : goal.returns-in-Err-clause-leads
returns-in-Err-clause-leads g c = g.met.H.HubKeeper.stays _
