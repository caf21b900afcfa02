-- The list of a path: the seen rows that belong to it and pass the filter, in order.
use Rattle.std.specs.Prelude.{ℕ, ◌&&◌, Bool, true, false, List, [], ◌∷◌, Option, Some, None, filter, if◌then◌else◌}
use Rattle.std.specs.Prelude.{slice_index_or}
use Rattle.filter_grammar.specs.declared.query.Query.{Query}
use Rattle.rest_paths.specs.Paths.{PathParts}
use Rattle.rest_paths.specs.Routes.{kind_in, kind_listed, line_of, objects_in}
use Rattle.rest_paths.specs.declared.route.Collection.{Collection}
use Rattle.rest_paths.specs.declared.route.Route.{Route}
use Rattle.rest_paths.specs.declared.route.Route.TheVariants as route
use Rattle.hub_spec.specs.views.References.{row_at, stands_where}
use Rattle.hub_spec.specs.views.Rules.{is_in, rule_of}
use Rattle.roster_types.specs.Records.{Record}
use Rattle.roster_values.specs.declared.kind.Kind.{Kind}
use Rattle.filter_grammar.specs.rows.Filters.{passes}
use Rattle.filter_grammar.specs.rows.Orders.{arranged, sorting_of}

-- one object of a collection, not a list
abbrev pub is_single : Route → Bool
is_single (route.One c) = true
is_single _ = false

-- the collection whose rows a path lists
abbrev pub listed_by : PathParts → Collection
listed_by path = (line_of path.route).lists

-- the kind of the rows that a path lists
abbrev pub kind_of_path : PathParts → Kind
kind_of_path path = kind_listed path.route

-- each object is among these rows and is one of its collection
abbrev pub objects_stand : List Record → List Collection → List (List ℕ) → Bool
objects_stand rows [] ids = true
objects_stand rows (c ∷ cs) [] = false
objects_stand rows (c ∷ cs) (id ∷ ids) = stands_where (is_in c) rows (kind_in c) id && objects_stand rows cs ids

-- each object that the path names is among these rows
abbrev pub has_objects : List Record → PathParts → Bool
has_objects rows path = objects_stand rows (objects_in path.route) path.ids

-- the id of the object at a place
abbrev pub id_at : PathParts → ℕ → List ℕ
id_at path place = slice_index_or path.ids place []

-- the row is one of those that the path lists
unfoldable pub belongs : List Record → PathParts → Record → Bool
belongs rows path row = is_in (listed_by path) row && rule_of path.route rows (id_at path 0) (id_at path 1) row

-- the row belongs to the path, and passes the filter of the query
abbrev pub is_listed : List Record → PathParts → Query → Record → Bool
is_listed rows path query row = belongs rows path row && passes query.test row

-- the list of a path among seen rows; none where an object that the path names isn't among them
unfoldable pub list_of : List Record → PathParts → Query → Option (List Record)
list_of rows path query =
    if has_objects rows path
    then Some (arranged (sorting_of (kind_of_path path) query) (filter (is_listed rows path query) rows))
    else None

-- the one seen row that a single path names
unfoldable pub object_of : List Record → PathParts → Option Record
object_of rows path = if has_objects rows path then row_at rows (kind_of_path path) (id_at path 0) else None
