use Rattle.std.proofs.Common.{inl, refl, subst, sym}
use Rattle.rest_provider.specs.Steps.{TakesRequest}
use Rattle.rest_provider.proofs.Doing.{read_did}
use Rattle.rest_provider.proofs.StepLemmas.{own_stands, read_step}
use Rattle.rest_provider.proofs.answering.answer_settled.Goals as goal

pub returns-else-is_write-clause-step : goal.returns-else-is_write-clause-step
returns-else-is_write-clause-step g c =
    let hub = c.args.hub.now in (
      0,
      inl (refl, refl),
      λ after stands. (
        after,
        stands,
        (λ told. told),
        subst (λ kept. TakesRequest c.args.request.now c.args.at c.answer_read.result kept kept 0) (sym (own_stands hub after c.requires.settled stands))
            (read_step c.args.request.now c.answer_read.result hub.kept c.table.result.now c.table.ensures.versions c.answer_read.ensures c.args.at),
      ),
    )

pub returns-else-is_write-clause-did : goal.returns-else-is_write-clause-did
returns-else-is_write-clause-did g c =
    let hub = c.args.hub.now in
    read_did c.args.request.now c.args.at c.answer_read.result hub _ c.requires.settled
    (read_step c.args.request.now c.answer_read.result hub.kept c.table.result.now c.table.ensures.versions c.answer_read.ensures c.args.at)

pub returns-else-is_write-clause-leads : goal.returns-else-is_write-clause-leads
returns-else-is_write-clause-leads g c = g.met.H.HubKeeper.stays _
