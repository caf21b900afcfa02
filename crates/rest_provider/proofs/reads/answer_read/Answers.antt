use Rattle.std.proofs.Common.{inl, inr, ap, sym, ◌∙◌, subst}
use Rattle.hub_spec.specs.requests.Requests.{wanted_by}
use Rattle.hub_spec.specs.rules.Answers.{Answers, sent}
use Rattle.rest_provider.specs.Replies.{read_in_turn}
use Rattle.rest_provider.proofs.ReadLemmas.{read_answers}
use Rattle.rest_provider.proofs.reads.answer_read.Goals as goal

pub returns : goal.returns
returns c = λ state is.
    let wanted = wanted_by c.args.request.now in
    elim (c.settled.ensures (read_in_turn state wanted) (c.read.ensures state is)) [
      | inl own ↦ inr (λ at. subst (λ reply. Answers state wanted at reply state) (sym (c.sent.ensures ∙ ap (sent wanted) own)) (read_answers state wanted c.requires at))
      | inr none ↦ inl (c.sent.ensures ∙ ap (sent wanted) none)
    ]
