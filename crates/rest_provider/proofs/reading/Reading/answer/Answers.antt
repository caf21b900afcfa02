use Rattle.std.proofs.Common.{ap, sym, ◌∙◌, subst}
use Rattle.hub_spec.specs.requests.Requests.{query_for_path, wanted_by}
use Rattle.hub_spec.specs.rules.Checks.{query_or}
use Rattle.rest_provider.proofs.ReadLemmas.{behind_query}
use Rattle.roster_base.specs.Reading.{Gives}
use Rattle.rest_provider.proofs.reading.Reading.answer.Goals as goal

pub returns : goal.returns
returns c = λ state by reads is first path-is.
    let wanted = wanted_by c.args.self.request.now in
    subst (Gives (λ r. r) c.answer_query-answered.result)
    (sym (behind_query state wanted c.args.self.path.now by c.args.self.version c.args.self.grant.now c.in_ok-query.query is c.in_ok-opened.ensures
    (ap (λ path. query_or wanted c.args.self.version (query_for_path c.args.self.request.now.query path)) path-is ∙ c.in_ok-query.ensures.query)))
    (c.answer_query-answered.ensures state by reads is first)
