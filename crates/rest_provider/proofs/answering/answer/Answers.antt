use Rattle.std.proofs.Common.{◌∙◌, ap, inl, inr, refl, subst}
use Rattle.hub_core.specs.Standing.{HeldHub, IsStanding}
use Rattle.hub_core.specs.Works.{IsReloaded}
use Rattle.rest_provider.proofs.Doing.{did_open, request_keeps}
use Rattle.rest_provider.specs.Steps.{CountsFailed, DidRequest}
use Rattle.rest_provider.proofs.answering.answer.Goals as goal

pub returns-in-Ok-clause-step : goal.returns-in-Ok-clause-step
returns-in-Ok-clause-step g c =
    let (failed, counts, led) = c.answer_settled.ensures.step in (
      failed,
      subst (λ count. CountsFailed count (g.H.HubKeeper.fault_count c.answer_settled.new.keeper) failed) c.in-Ok.ensures.cause counts,
      λ after stands.
          let (before, stood, told, step) = led after stands in
          let first = c.in-Ok.ensures.told before stood in
          (before, subst (λ (hub : HeldHub). IsStanding hub before) c.index.ensures first.0, (λ now. first.1 (told now)), step),
    )

pub returns-in-Ok-clause-did : goal.returns-in-Ok-clause-did
returns-in-Ok-clause-did g c = λ settled.
    let count = g.H.HubKeeper.fault_count in
    let idle = c.in-Ok.ensures.idle (ap (λ (h : HeldHub). h.commit_open) c.index.ensures ∙ settled) in
    let hub = idle.1 ∙ c.index.ensures in
    let did = c.answer_settled.ensures.did in
    subst (λ (h : HeldHub). DidRequest c.args.request.now c.args.at c.answer_settled.result h c.answer_settled.new.hub (count c.args.keeper.now) (count c.answer_settled.new.keeper)) hub
    (subst (λ (n : _). DidRequest c.args.request.now c.args.at c.answer_settled.result c.ready.new.self c.answer_settled.new.hub n (count c.answer_settled.new.keeper)) (ap count idle.2) did)

pub returns-in-Ok-clause-reloads : goal.returns-in-Ok-clause-reloads
returns-in-Ok-clause-reloads g c =
    let count = g.H.HubKeeper.fault_count in
    let between = c.ready.new.self in
    let ready = c.in-Ok.ensures in
    let reloaded : IsReloaded c.index.new.self between = record { stood = (ready.told between.kept (inl refl)).0; settled = ready.settled; last = ready.last; keeps = ready.keeps } in
    inl (
      between,
      subst (λ (h : HeldHub). IsReloaded h between) c.index.ensures reloaded,
      subst (λ (n : _). DidRequest c.args.request.now c.args.at c.answer_settled.result between c.answer_settled.new.hub n (count c.answer_settled.new.keeper)) ready.cause c.answer_settled.ensures.did,
    )

pub returns-in-Err-clause-reloads : goal.returns-in-Err-clause-reloads
returns-in-Err-clause-reloads g c = inr (record { fault = c.in-Err.error; same = c.in-Err.ensures.err ∙ c.index.ensures; counts = c.in-Err.ensures.cause; told = c.failing.ensures })

pub returns-in-Ok-clause-open : goal.returns-in-Ok-clause-open
returns-in-Ok-clause-open g c =
    let count = g.H.HubKeeper.fault_count in
    let request = c.args.request.now in
    did_open request c.args.at c.answer_settled.result c.ready.new.self c.answer_settled.new.hub (count c.ready.new.keeper) (count c.answer_settled.new.keeper) c.answer_settled.ensures.did

pub returns-in-Err-clause-open : goal.returns-in-Err-clause-open
returns-in-Err-clause-open g c = λ left. (c.in-Err.error, c.failing.ensures)

pub returns-in-Ok-clause-keeps : goal.returns-in-Ok-clause-keeps
returns-in-Ok-clause-keeps g c =
    let count = g.H.HubKeeper.fault_count in
    request_keeps c.args.request.now c.args.at c.answer_settled.result c.ready.new.self c.answer_settled.new.hub (count c.ready.new.keeper) (count c.answer_settled.new.keeper) c.answer_settled.ensures.did
    ∙ c.in-Ok.ensures.keeps ∙ ap (λ (h : HeldHub). h.keeps) c.index.ensures

pub returns-in-Ok-clause-leads : goal.returns-in-Ok-clause-leads
returns-in-Ok-clause-leads g c = g.met.H.HubKeeper.leads_on _ _ _ c.ready.ensures.leads c.answer_settled.ensures.leads
