-- Which route a path has: the one that matchit finds among the patterns of the table, taken in its order.
use Rattle.std.specs.Prelude.{ℕ, List, [], ◌∷◌, ◌++◌, codes, Option, Some, None, Result, Ok, Err, option_and_then}
use Rattle.std.specs.Prelude.{option_map}
use Rattle.rest_paths.specs.Routes.{Object, Segment, Word, all_routes, segments_of}
use Rattle.rest_paths.specs.declared.route.Route.{Route}
use Rattle.matchit.specs.Order.{placed}
use Rattle.matchit.specs.Route.{Scan, parse_route}
use Rattle.matchit.specs.Router.{RouteOf, nearest, route_from}
use Rattle.matchit.specs.Rows.{RowsOf}
use Rattle.matchit.specs.Seek.{first}
use Rattle.matchit.specs.declared.error.InsertError.{InsertError}
use Rattle.roster_values.specs.Kinds.{binding_root}

-- segments as a pattern writes them: the first object has this name, and each behind it `second`
abbrev pub segments_pattern : List ℕ → List Segment → List ℕ
segments_pattern name [] = []
segments_pattern name (Word word ∷ segments) = codes "/" ++ word ++ segments_pattern name segments
segments_pattern name (Object collection ∷ segments) = codes "/{" ++ name ++ codes "}" ++ segments_pattern (codes "second") segments

-- how the paths of a route are written
abbrev pub pattern_of : Route → List ℕ
pattern_of route = binding_root ++ segments_pattern (codes "first") (segments_of route)

-- what a router holds
abbrev pub Routed : Type 0
Routed = RowsOf (RouteOf Route)

-- a pattern with no conflict takes its place
abbrev pub unless_near : Option (RouteOf Route) → RouteOf Route → Routed → Option Routed
unless_near None r rows = Some (placed (r.pattern, r) rows)
unless_near (Some near) r rows = None

abbrev pub with_read : Result Scan InsertError → Route → Routed → Option Routed
with_read (Ok scan) route rows = unless_near (nearest scan.pattern rows) (route_from scan route) rows
with_read (Err e) route rows = None

abbrev pub with_route : Route → Routed → Option Routed
with_route route rows = with_read (parse_route (pattern_of route)) route rows

-- the routes taken one after another; nothing where one conflicts with those before it
unfoldable pub with_routes : List Route → Routed → Option Routed
with_routes [] rows = Some rows
with_routes (route ∷ routes) rows = option_and_then (with_routes routes) (with_route route rows)

-- the router of the table
abbrev pub table_router : Option Routed
table_router = with_routes all_routes []

abbrev pub route_among : List ℕ → Routed → Option Route
route_among path rows = option_map (λ r. r.value) (first rows path)

-- the route of a path
unfoldable pub route_of : List ℕ → Option Route
route_of path = option_and_then (route_among path) table_router
