-- The scopes that the code's table stands for.
use Rattle.grant_scopes.specs.declared.scope_info.ScopeInfo.{ScopeInfo}
use Rattle.grant_scopes.specs.Opens.{Scope}

-- the scope that a line of the code's table stands for
abbrev pub scope_of : ScopeInfo → Scope
scope_of i = record { word = i.word.now; access = i.access; kinds = i.kinds.now }
