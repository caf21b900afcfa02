use Rattle.std.proofs.Common.{inl, sym, refl, subst, Some}
use Rattle.exchange_link.specs.declared.send_answer.SendAnswer.{SendAnswer}
use Rattle.consumer_outbox.specs.Sends.{Settles, Takes}
use Rattle.consumer_outbox.specs.declared.verdict.Verdict.TheVariants as verdict
use Rattle.consumer_outbox.proofs.StepLemmas.{takes_err}
use Rattle.consumer_outbox.proofs.sending.settle.Goals as goal

pub returns-in-Ok-clause-told : goal.returns-in-Ok-clause-told
returns-in-Ok-clause-told g c after stands =
    let x = c.in-Ok.ensures.told after stands in
    (x.0, x.1, Settles c.args.status c.args.version refl (inl refl) x.2)

pub returns-in-Err-clause-told : goal.returns-in-Err-clause-told
returns-in-Err-clause-told g c after stands =
    let x = c.in-Err.ensures.told after stands in (
      x.0,
      x.1,
      subst (λ (a : SendAnswer). Takes (verdict.Settles c.args.status c.args.version) c.args.number (Some a) x.0 after) (sym c.broken.ensures)
          (takes_err c.args.status c.args.version c.args.number c.in-Err.error x.0 after x.2),
    )
