use Rattle.std.proofs.Common.{◌∙◌, arith}
use Rattle.rest_paths.proofs.RouterLemmas.{all_taken, taken}
use Rattle.rest_paths.proofs.router.add_all.Goals as goal

pub loop-route-preserved : goal.loop-route-preserved
loop-route-preserved c = c.loop-route.invariant ∙ taken c.args.routes.now c.loop-route.route-index _ c.loop-route.router c.add.new.router c.loop-route-test.true c.in_ok-add.ensures

pub returns : goal.returns
returns c = c.loop-route.invariant ∙ all_taken c.args.routes.now c.loop-route.route-index c.loop-route.router (omega arith)
