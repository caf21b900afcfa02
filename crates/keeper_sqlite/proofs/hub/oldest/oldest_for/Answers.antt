use Rattle.std.proofs.lemmas.Result.{IfOk-weaker}
use Rattle.span_format.specs.Oldest.{AreOldest, AreOldestFor}
use Rattle.keeper_sqlite.proofs.hub.oldest.oldest_for.Goals as goal

pub returns-then-lets_oldest_go-clause-oldest : goal.returns-then-lets_oldest_go-clause-oldest
returns-then-lets_oldest_go-clause-oldest g c t has bases sure = IfOk-weaker c.oldest_of.result (λ o. AreOldest t o.grants.items o.version.items o.names.items) (λ o. AreOldestFor t c.args.keep c.args.base c.args.change.now o.grants.items o.version.items o.names.items)
    (λ oldest told change is above. told) (c.oldest_of.ensures.oldest t has bases sure)

pub returns-clause-oldest : goal.returns-clause-oldest
returns-clause-oldest g c t has bases sure = λ change is above. absurd (let stays = c.lets_oldest_go.ensures c.if-lets_oldest_go.false change is in cc)
