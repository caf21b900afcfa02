-- What a request wants, once its path and its query are read.
use Rattle.std.specs.Prelude.{ℕ, Bool, true, false, List, Option, Some, None, Result}
use Rattle.rest_paths.specs.Paths.{PathParts as Path}
use Rattle.grant_scopes.specs.Opens.{gradebook_kinds, is_kind}
use Rattle.grant_scopes.specs.declared.access.Access.{Access}
use Rattle.grant_scopes.specs.declared.access.Access.TheVariants as access
use Rattle.filter_grammar.specs.declared.query.Query.{Query}
use Rattle.rest_paths.specs.declared.route.Collection.TheVariants.{Of}
use Rattle.rest_paths.specs.declared.route.Route.{Route}
use Rattle.rest_paths.specs.declared.route.Route.TheVariants as route
use Rattle.std.specs.List.{list_any}
use Rattle.status_info.specs.declared.cause.Cause.{Cause}
use Rattle.status_info.specs.declared.request.Echo.{Echo}
use Rattle.status_info.specs.declared.request.MarkField.{MarkField}
use Rattle.status_info.specs.declared.request.MarkField.TheVariants as mark
use Rattle.status_info.specs.declared.request.Verb.{Verb}
use Rattle.status_info.specs.declared.request.Verb.TheVariants.{Get, Put, Delete, Head}

-- the path, where it is one; the version that the query pins, where it says one number; the query, or the cause of its
-- first fault
pub record Wanted : Type 0 where
  pub verb : Verb
  pub path : Option Path
  pub token : Option (List ℕ)
  pub pin : Option ℕ
  pub query : Result Query Cause
  pub mark : MarkField
  pub echo : Option Echo
  pub close : Bool
  pub body : List ℕ

-- the route is that of one object of a gradebook kind
abbrev pub takes_writes_at : Route → Bool
takes_writes_at (route.One (Of kind)) = list_any (is_kind kind) gradebook_kinds
takes_writes_at _ = false

-- the path is that of one object of a gradebook kind
abbrev pub takes_writes : Path → Bool
takes_writes path = takes_writes_at path.route

-- the method asks for a reply without its body
abbrev pub is_head : Verb → Bool
is_head Head = true
is_head _ = false

-- the method asks that a row be deleted
abbrev pub is_delete : Verb → Bool
is_delete Delete = true
is_delete _ = false

-- the method asks for a write
abbrev pub is_write : Verb → Bool
is_write Put = true
is_write Delete = true
is_write _ = false

-- the path takes the method
abbrev pub allows : Path → Verb → Bool
allows path Get = true
allows path Put = takes_writes path
allows path Delete = takes_writes path
allows path _ = false

-- what a request with this method does with the rows of its path
abbrev pub access_of : Verb → Access
access_of Put = access.Put
access_of Delete = access.Delete
access_of _ = access.Read

-- there is no mark, or it is a number
abbrev pub is_good_mark : MarkField → Bool
is_good_mark mark.Bad = false
is_good_mark _ = true

-- the number of a mark, where there is one
abbrev pub mark_number : MarkField → Option ℕ
mark_number (mark.Number n) = Some n
mark_number _ = None
