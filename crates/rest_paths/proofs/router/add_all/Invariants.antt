use Rattle.std.proofs.Common.{◌≡◌, drop}
use Rattle.rest_paths.specs.Routed.{with_routes}
use Rattle.rest_paths.proofs.router.add_all.Given as goal

abbrev pub invariant-loop-route : goal.invariant-loop-route
invariant-loop-route l = with_routes l.routes l.fn.router ≡ with_routes (drop l.route-index l.routes) l.router
