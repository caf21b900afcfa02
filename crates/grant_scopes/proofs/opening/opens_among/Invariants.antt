use Rattle.std.proofs.Common.{◌≡◌, drop, map}
use Rattle.grant_scopes.specs.Infos.{scope_of}
use Rattle.grant_scopes.specs.Opens.{opens_among}
use Rattle.grant_scopes.proofs.opening.opens_among.Given as goal

abbrev pub invariant-loop-scope : goal.invariant-loop-scope
invariant-loop-scope l = opens_among (map scope_of l.scopes) l.bits l.kind l.access ≡ opens_among (map scope_of (drop l.scope-index l.scopes)) l.left l.kind l.access
