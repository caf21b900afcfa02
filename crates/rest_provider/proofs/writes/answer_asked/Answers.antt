use Rattle.std.proofs.Common.{Err, Ok, inl, refl, ap, subst, ◌∙◌}
use Rattle.gradebook_core.specs.Writing.{Writes}
use Rattle.hub_spec.specs.requests.Requests.{wanted_by}
use Rattle.hub_spec.specs.rules.Answers.{sent}
use Rattle.rest_provider.proofs.Doing.{error_did}
use Rattle.rest_provider.proofs.WriteLemmas.{done_step, error_step}
use Rattle.rest_provider.proofs.writes.answer_asked.Goals as goal

pub returns-in-Ok-clause-step : goal.returns-in-Ok-clause-step
returns-in-Ok-clause-step g c =
    let asked = c.args.asked in
    let before = c.args.hub.now.kept in (
      0,
      inl (refl, c.in-Ok.ensures.cause),
      λ after stands.
          let told = c.in-Ok.ensures.told after stands in
          let wrote = subst (λ mark. Writes asked.by mark asked.write c.args.at (Ok c.in-Ok.written) before after) c.mark_number-mark.ensures told.1 in (
            told.0,
            done_step c.args.request.now c.args.at c.milliseconds.ensures.range c.requires.path c.requires.writes asked before after c.in-Ok.written c.sent.result
                (c.sent.ensures ∙ ap (sent (wanted_by c.args.request.now)) c.reply_of.ensures) wrote,
          ),
    )

pub returns-in-Err-clause-step : goal.returns-in-Err-clause-step
returns-in-Err-clause-step g c =
    let asked = c.args.asked in
    let before = c.args.hub.now.kept in
    let (failed, counts, led) = error_step c.args.request.now c.args.at c.milliseconds.ensures.range c.requires.path c.requires.writes
    (g.H.HubKeeper.fault_count c.args.keeper.now) (g.H.HubKeeper.fault_count c.write-answer.new.keeper) asked before c.in-Err.error c.failing.result c.failing.ensures c.in-Err.ensures.cause c.in-Err.ensures.refused in (
      failed,
      counts,
      λ after stands.
          let told = c.in-Err.ensures.told after stands in
          (told.0, led after (subst (λ mark. Writes asked.by mark asked.write c.args.at (Err c.in-Err.error) before after) c.mark_number-mark.ensures told.1)),
    )

pub returns-in-Ok-clause-did : goal.returns-in-Ok-clause-did
returns-in-Ok-clause-did g c =
    let asked = c.args.asked in
    let before = c.args.hub.now.kept in
    let after = c.write-answer.new.hub.kept in
    let told = c.in-Ok.ensures.told after (inl refl) in
    let wrote = subst (λ mark. Writes asked.by mark asked.write c.args.at (Ok c.in-Ok.written) before after) c.mark_number-mark.ensures told.1 in
    inl (record {
      made = c.in-Ok.ensures.works;
      stays = c.in-Ok.ensures.cause;
      asked = done_step c.args.request.now c.args.at c.milliseconds.ensures.range c.requires.path c.requires.writes asked before after c.in-Ok.written c.sent.result
          (c.sent.ensures ∙ ap (sent (wanted_by c.args.request.now)) c.reply_of.ensures) wrote;
    })

pub returns-in-Err-clause-did : goal.returns-in-Err-clause-did
returns-in-Err-clause-did g c =
    let asked = c.args.asked in
    let before = c.args.hub.now in
    let after = c.write-answer.new.hub in
    let told = c.in-Err.ensures.told after.kept (inl refl) in
    let wrote = subst (λ mark. Writes asked.by mark asked.write c.args.at (Err c.in-Err.error) before.kept after.kept) c.mark_number-mark.ensures told.1 in
    error_did c.args.request.now c.args.at c.milliseconds.ensures.range c.requires.path c.requires.writes asked before after
    (g.H.HubKeeper.fault_count c.args.keeper.now) (g.H.HubKeeper.fault_count c.write-answer.new.keeper) c.in-Err.error c.failing.result c.failing.ensures c.in-Err.ensures.cause c.in-Err.ensures.refused c.in-Err.ensures.works wrote
