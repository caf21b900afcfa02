-- Lists of rows.
use Rattle.std.specs.Prelude.{ℕ, Bool, List, filter, length}
use Rattle.delta_parts.specs.declared.part.DeltaPart.{DeltaPart}
use Rattle.filter_grammar.specs.declared.query.Query.{Query}
use Rattle.rest_paths.specs.Paths.{PathParts}
use Rattle.hub_spec.specs.views.Links.{links_of}
use Rattle.hub_spec.specs.views.Pages.{slice}
use Rattle.hub_spec.specs.declared.views.page.DeltaPage.{DeltaPage}
use Rattle.hub_spec.specs.declared.views.page.Page.{Page}
use Rattle.query_pages.specs.declared.list_part.Part.{Part}
use Rattle.roster_types.specs.Records.{Record}
use Rattle.roster_values.specs.declared.kind.Kind.{Kind}
use Rattle.filter_grammar.specs.rows.Orders.{arranged, sorting_of}

-- the rows that pass a test, all of one kind, in the order that a query asks for
abbrev pub listed : Kind → Query → (Record → Bool) → List Record → List Record
listed kind query test rows = arranged (sorting_of kind query) (filter test rows)

-- the part that a query asks for of a list, and the list's length
abbrev pub part_of_list : Query → List Record → Part
part_of_list query rows = record { rows = slice query.limit query.offset rows; total = length rows }

-- the part with the links to the other pages
abbrev pub linked : Part → ℕ → PathParts → Query → Page
linked part version path query = record { rows = part.rows; total = part.total; links = links_of path query version part.total }

-- the same of what differs
abbrev pub delta_linked : DeltaPart → ℕ → PathParts → Query → DeltaPage
delta_linked part version path query = record { rows = part.rows; gone = part.gone; total = part.total; links = links_of path query version part.total }
