-- What scopes open, scope by scope.
use Rattle.std.proofs.Common.{◌≡◌, ◌<◌, ◌+◌, ◌/◌, ◌%◌, ◌==◌, ◌&&◌, ℕ, false, List, drop, get_or, length, map, refl}
use Rattle.roster_base.proofs.ListSteps.{next_item}
use Rattle.roster_values.specs.declared.kind.Kind.{Kind}
use Rattle.grant_scopes.specs.declared.access.Access.{Access}
use Rattle.grant_scopes.specs.declared.scope_info.ScopeInfo.{ScopeInfo}
use Rattle.grant_scopes.specs.Infos.{scope_of}
use Rattle.grant_scopes.specs.Opens.{opens_among, opens_by}

-- the scope at a place doesn't open it, so those behind it do, or none does
pub opened_behind : (infos : List ScopeInfo) (place bits : ℕ) (kind : Kind) (access : Access) (info d : ScopeInfo) → place < length infos → info ≡ get_or infos place d
    → ((bits % 2 == 1) && opens_by kind access (scope_of info)) ≡ false
    → opens_among (map scope_of (drop place infos)) bits kind access ≡ opens_among (map scope_of (drop (place + 1) infos)) (bits / 2) kind access
opened_behind infos place bits kind access info d within is shut = rw (next_item infos place info d within is, shut) refl
