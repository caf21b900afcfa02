use Rattle.std.proofs.Common.{get_or, refl, sym, ◌∙◌}
use Rattle.grant_scopes.proofs.OpenSteps.{opened_behind}
use Rattle.grant_scopes.proofs.opening.opens_among.Goals as goal

pub loop-scope-preserved : goal.loop-scope-preserved
loop-scope-preserved c =
    c.loop-scope.invariant
    ∙ opened_behind c.args.scopes.now c.loop-scope.scope-index c.loop-scope.left c.args.kind c.args.access (get_or c.args.scopes.now c.loop-scope.scope-index _) _ c.loop-scope-test.true refl
    (sym c.opens_first.ensures ∙ c.if-opens_first.false)
