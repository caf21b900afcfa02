-- The router of the table, made by taking the routes one after another.
use Rattle.std.proofs.Common.{◌≡◌, ℕ, ◌+◌, ◌<◌, ◌≤◌, List, None, Some, length, drop, get_or, sym, ap, ◌∙◌}
use Rattle.std.specs.Prelude.{option_and_then, option_map}
use Rattle.std.proofs.lemmas.List.{drop_all, drop_more}
use Rattle.rest_paths.specs.Routed.{Routed, route_among, route_of, table_router, with_route, with_routes}
use Rattle.rest_paths.specs.declared.route.Route.{Route}
use Rattle.matchit.specs.Router.{RouteOf}
use Rattle.matchit.specs.Seek.{first}

-- one more route is taken
pub taken : (routes : List Route) (i : ℕ) (d : Route) (rows more : Routed) → i < length routes → with_route (get_or routes i d) rows ≡ Some more → with_routes (drop i routes) rows ≡ with_routes (drop (i + 1) routes) more
unfolding with_routes
taken routes i d rows more inside e =
    ap (λ l. with_routes l rows) (drop_more routes i d inside) ∙ ap (option_and_then (with_routes (drop (i + 1) routes))) e

-- none is left
pub all_taken : (routes : List Route) (i : ℕ) (rows : Routed) → length routes ≤ i → with_routes (drop i routes) rows ≡ Some rows
unfolding with_routes
all_taken routes i rows past = ap (λ l. with_routes l rows) (drop_all i routes past)

-- what the router finds is the route of the path
pub found_route : (rows : Routed) (path : List ℕ) (r : RouteOf Route) → table_router ≡ Some rows → first rows path ≡ Some r → Some r.value ≡ route_of path
unfolding route_of
found_route rows path r table found = sym (ap (option_and_then (route_among path)) table ∙ ap (option_map (λ r. r.value)) found)

pub no_route : (rows : Routed) (path : List ℕ) → table_router ≡ Some rows → first rows path ≡ None → None ≡ route_of path
unfolding route_of
no_route rows path table missing = sym (ap (option_and_then (route_among path)) table ∙ ap (option_map (λ r. r.value)) missing)
