use Rattle.std.proofs.Common.{◌≡◌, inl, inr, sym, ap, ⊎_elim, ◌∙◌, subst, None}
use Rattle.consumer_outbox.specs.Sends.{IsBroken, Takes, answer_of}
use Rattle.consumer_outbox.specs.Verdicts.{does_settle}
use Rattle.consumer_outbox.proofs.sending.take_reply.Goals as goal

pub returns-in-Settles-clause-told : goal.returns-in-Settles-clause-told
returns-in-Settles-clause-told g c after stands =
    let x = c.settle.ensures.told after stands in
    (x.0, x.1, subst (λ v. Takes v c.args.number c.settle.result x.0 after) c.in-Settles.ensures x.2)

pub returns-in-Settles-clause-answer : goal.returns-in-Settles-clause-answer
returns-in-Settles-clause-answer g c = ⊎_elim
    (λ (none : c.settle.result ≡ None). inl (none ∙ ap (λ v. answer_of v c.args.number) c.in-Settles.ensures))
    (λ (broken : IsBroken c.settle.result). inr (broken, ap does_settle (sym c.in-Settles.ensures))) c.settle.ensures.broken
