use Rattle.std.proofs.Common.{refl}
use Rattle.matchit.proofs.OnLiterals.{matchit_on_literals}
use Rattle.rest_paths.specs.Routed.{with_routes}
use Rattle.rest_paths.proofs.laws.no_two_routes_conflict.Goals as goal

pub returns : goal.returns
unfolding matchit_on_literals with_routes
returns c = refl
