use Rattle.std.proofs.Common.{List, ℕ, ◌∙◌, ap, subst}
use Rattle.http_wire.specs.Answers.{IsNoReply}
use Rattle.exchange_link.proofs.asking.read_kept.Goals as goal

pub returns-in-None-clause-none : goal.returns-in-None-clause-none
returns-in-None-clause-none g c e =
    subst (λ (t : List ℕ). IsNoReply t) (c.reply.ensures ∙ ap g.L.Link.kept c.take_parsed.ensures.same) (c.read_own.ensures.none e)
