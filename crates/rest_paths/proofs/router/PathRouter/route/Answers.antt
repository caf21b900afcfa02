use Rattle.rest_paths.proofs.RouterLemmas.{found_route, no_route}
use Rattle.rest_paths.proofs.router.PathRouter.route.Goals as goal

pub returns-in-Ok : goal.returns-in-Ok
returns-in-Ok c = found_route c.self.inside.router c.args.path.now _ c.self.invariant c.in-Ok.ensures.found

pub returns-in-Err : goal.returns-in-Err
returns-in-Err c = no_route c.self.inside.router c.args.path.now c.self.invariant c.in-Err.ensures.missing
