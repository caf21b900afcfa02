-- Pages of a list.
use Rattle.std.specs.Prelude.{◌≡◌, ℕ, zero, suc, ◌*◌, ◌++◌, List, [], None, Some, Option, drop, length, option_map}
use Rattle.std.specs.Prelude.{take}
use Rattle.hub_spec.specs.views.Links.{links_of}
use Rattle.hub_spec.specs.declared.views.page.Page.{Page}
use Rattle.rest_paths.specs.Paths.{PathParts}
use Rattle.hub_spec.specs.views.Lists.{list_of}
use Rattle.filter_grammar.specs.declared.query.Query.{Query}
use Rattle.rest_paths.specs.declared.route.Collection.TheVariants.{Of}
use Rattle.rest_paths.specs.declared.route.Route.TheVariants.{All}
use Rattle.roster_types.specs.Records.{Record}
use Rattle.roster_values.specs.declared.kind.Kind.{Kind}

-- the items at the places from an offset on, at most `limit` of them
abbrev pub slice : {A : Type 0} → ℕ → ℕ → List A → List A
slice limit offset xs = take limit (drop offset xs)

-- the page that a query asks for of a list, with the links to its other pages
abbrev pub page_of_list : PathParts → Query → ℕ → List Record → Page
page_of_list path query version rows =
    record { rows = slice query.limit query.offset rows; total = length rows; links = links_of path query version (length rows) }

-- the page that a query asks for of a path, among the seen rows of a version
abbrev pub page_of : List Record → ℕ → PathParts → Query → Option Page
page_of rows version path query = option_map (page_of_list path query version) (list_of rows path query)

-- the rows of a page; none where there is no page
abbrev pub rows_shown : Option Page → List Record
rows_shown None = []
rows_shown (Some page) = page.rows

-- the rows of so many pages of a path and a query, those at the offsets 0, limit, twice the limit and so on, joined
abbrev pub pages_joined : List Record → ℕ → PathParts → Query → ℕ → List Record
pages_joined rows version path query zero = []
pages_joined rows version path query (suc n) =
    pages_joined rows version path query n ++ rows_shown (page_of rows version path (record query { offset = n * query.limit }))

-- so many parts of a list from its front on, joined
abbrev pub joined : {A : Type 0} → ℕ → ℕ → List A → List A
joined limit zero xs = []
joined limit (suc n) xs = joined limit n xs ++ slice limit (n * limit) xs

-- a query that neither filters nor sorts
pub record IsPlain (query : Query) : Type 0 where
  pub test : query.test ≡ None
  pub sort : query.sort ≡ None
  pub order : query.order_by ≡ None

-- the path of all rows of a kind
abbrev pub whole : Kind → PathParts
whole kind = record { route = All (Of kind); ids = [] }
