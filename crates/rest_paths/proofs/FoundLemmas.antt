-- Which route a literal front and one more segment lead to.
use Rattle.std.proofs.Common.{◌≡◌, ◌≢◌, ℕ, zero, suc, ◌-◌, ◌<◌, Bool, true, false, ◌==◌, cond, List, [], ◌∷◌, ◌++◌}
use Rattle.std.proofs.Common.{Option, None, Some, length, map, refl, ap, ◌∙◌, arith}
use Rattle.std.specs.Prelude.{codes, option_and_then, option_map}
use Rattle.std.proofs.lemmas.Bool.{ne_eqb}
use Rattle.rest_paths.specs.Routed.{Routed, route_among, route_of, table_router, with_routes}
use Rattle.rest_paths.specs.declared.route.Collection.TheVariants as collection
use Rattle.rest_paths.specs.declared.route.Route.TheVariants as route
use Rattle.rest_paths.specs.Routes.{is_gradebook}
use Rattle.roster_values.specs.Kinds.{plural_of}
use Rattle.roster_values.specs.declared.kind.Kind.{Kind}
use Rattle.roster_values.specs.declared.kind.Kind.TheVariants as kind
use Rattle.matchit.proofs.OnLiterals.{matchit_on_literals}
use Rattle.rest_paths.specs.declared.route.Route.{Route}
use Rattle.matchit.specs.Router.{RouteOf}
use Rattle.matchit.specs.Rows.{RowsOf, catch_all_token, param_token}
use Rattle.matchit.specs.Seek.{first, has_slash, or_else, own, param_step, seek, slash, step}

-- the rows that are left behind a literal front
abbrev pub after : {K : Type 0} → List ℕ → RowsOf K → RowsOf K
after [] rs = rs
after (b ∷ w) rs = after w (step b rs)

pub seek_literal : {K : Type 0} (w t : List ℕ) (rs : RowsOf K) (k : K) → first (after w rs) t ≡ Some k → first rs (w ++ t) ≡ Some k
unfolding seek
seek_literal [] t rs k e = e
seek_literal (b ∷ w) t rs k e =
    ap (λ o. or_else o (or_else (seek ((param_step (step param_token rs) (b ∷ (w ++ t))).0 - 1) (param_step (step param_token rs) (b ∷ (w ++ t))).1 (w ++ t)) (own (step catch_all_token rs))))
    (seek_literal w t (step b rs) k e)

nothing : {K : Type 0} (found : Bool) (n : ℕ) (t : List ℕ) → ((skip : ℕ) → seek {K = K} skip [] t ≡ None)
    → or_else (seek {K = K} 0 [] t) (or_else (seek {K = K} ((cond {A = ℕ × RowsOf K} found (0, []) (n, [])).0 - 1) (cond {A = ℕ × RowsOf K} found (0, []) (n, [])).1 t) None) ≡ None
nothing true n t none = rw (none 0) refl
nothing false n t none = rw (none 0, none (n - 1)) refl

pub seek_nothing : {K : Type 0} (skip : ℕ) (t : List ℕ) → seek {K = K} skip [] t ≡ None
unfolding seek param_step
seek_nothing skip [] = refl
seek_nothing (suc skip) (b ∷ t) = seek_nothing skip t
seek_nothing zero (b ∷ t) = nothing (cond (b == slash) true (has_slash t)) (suc (length t)) t (λ skip. seek_nothing skip t)

skip_all : {K : Type 0} (k : K) (t : List ℕ) → seek (length t) (([], k) ∷ []) t ≡ Some k
unfolding seek
skip_all k [] = refl
skip_all k (b ∷ t) = skip_all k t

last_step : {K : Type 0} (k : K) (same found : Bool) (n : ℕ) (t : List ℕ) → same ≡ false → found ≡ false → n ≡ length t
    → or_else (seek 0 (cond same (([], k) ∷ []) []) t) (or_else (seek ((cond {A = ℕ × RowsOf K} found (0, []) (suc n, ([], k) ∷ [])).0 - 1) (cond {A = ℕ × RowsOf K} found (0, []) (suc n, ([], k) ∷ [])).1 t) None) ≡ Some k
last_step k true found n t other whole e = cc
last_step k false true n t other whole e = cc
last_step k false false n t other whole e =
    let skipped : suc n - 1 ≡ length t = omega arith in
    rw (seek_nothing 0 t, skipped, skip_all k t) refl

-- one segment, and a single route that goes on with a parameter alone
pub seek_param : {K : Type 0} (k : K) (b : ℕ) (t : List ℕ) → 256 ≢ b → has_slash (b ∷ t) ≡ false → first ((256 ∷ [], k) ∷ []) (b ∷ t) ≡ Some k
unfolding seek param_step
seek_param k b t byte whole = last_step k (256 == b) (has_slash (b ∷ t)) (length t) t (ne_eqb 256 b byte) whole refl

-- a row without the texts of its pattern
abbrev pub bare : List ℕ × RouteOf Route → List ℕ × Route
bare row = (row.0, row.1.value)

-- what is left of a router behind a literal front
abbrev pub left : List ℕ → Routed → List (List ℕ × Route)
left w rows = map bare (after w rows)

-- one route, which goes on with a parameter
abbrev pub one_param : Route → List (List ℕ × Route)
one_param route = (256 ∷ [], route) ∷ []

abbrev pattern_in : List (List ℕ × Route) → List ℕ
pattern_in [] = []
pattern_in (x ∷ xs) = x.0

abbrev route_in : Route → List (List ℕ × Route) → Route
route_in other [] = other
route_in other (x ∷ xs) = x.1

only : (rest : Routed) (route : Route) → map bare rest ≡ one_param route → (r : RouteOf Route) × (rest ≡ (256 ∷ [], r) ∷ []) × (r.value ≡ route)
only [] route e = cc
only ((p, r) ∷ []) route e =
    let pattern : p ≡ 256 ∷ [] = ap pattern_in e in
    let value : r.value ≡ route = ap (route_in route) e in
    (r, ap (λ p. (p, r) ∷ []) pattern, value)
only (x ∷ y ∷ rest) route e = cc

among : (rows : Routed) (w : List ℕ) (route : Route) (b : ℕ) (t : List ℕ) → left w rows ≡ one_param route → 256 ≢ b → has_slash (b ∷ t) ≡ false → route_among (w ++ b ∷ t) rows ≡ Some route
among rows w route b t front byte whole =
    let one = only (after w rows) route front in
    ap (option_map (λ r. r.value)) (seek_literal w (b ∷ t) rows one.0 (ap (λ rs. first rs (b ∷ t)) one.1 ∙ seek_param one.0 b t byte whole)) ∙ ap Some one.2

by_table : (table : Option Routed) (w : List ℕ) (route : Route) (b : ℕ) (t : List ℕ) → option_map (left w) table ≡ Some (one_param route) → 256 ≢ b → has_slash (b ∷ t) ≡ false → option_and_then (route_among (w ++ b ∷ t)) table ≡ Some route
by_table None w route b t front byte whole = cc
by_table (Some rows) w route b t front byte whole = let same : left w rows ≡ one_param route = cc in among rows w route b t same byte whole

-- a front behind which the table has one route, and one more segment
pub segment_found : (w : List ℕ) (route : Route) (b : ℕ) (t : List ℕ) → option_map (left w) table_router ≡ Some (one_param route) → 256 ≢ b → has_slash (b ∷ t) ≡ false → route_of (w ++ b ∷ t) ≡ Some route
unfolding route_of
segment_found w route b t front byte whole = by_table table_router w route b t front byte whole

-- the front of the paths of a collection's objects
abbrev pub object_front : Kind → List ℕ
object_front kind = codes "/ims/oneroster/v1p1/" ++ plural_of kind ++ codes "/"

pub gradebook_front : (kind : Kind) → is_gradebook kind ≡ true → option_map (left (object_front kind)) table_router ≡ Some (one_param (route.One (collection.Of kind)))
unfolding matchit_on_literals with_routes
gradebook_front kind.Categories graded = refl
gradebook_front kind.LineItems graded = refl
gradebook_front kind.Results graded = refl
gradebook_front _ other = cc

pub gradebook_object : (kind : Kind) (b : ℕ) (t : List ℕ) → is_gradebook kind ≡ true → b < 256 → has_slash (b ∷ t) ≡ false → route_of (object_front kind ++ b ∷ t) ≡ Some (route.One (collection.Of kind))
gradebook_object kind b t graded byte whole = segment_found (object_front kind) (route.One (collection.Of kind)) b t (gradebook_front kind graded) (λ same. omega arith) whole

pub collection_found : (kind : Kind) → route_of (codes "/ims/oneroster/v1p1/" ++ plural_of kind) ≡ Some (route.All (collection.Of kind))
unfolding matchit_on_literals with_routes route_of
collection_found kind.Orgs = refl
collection_found _ = refl
