-- Ways to the rows of paths.
use Rattle.std.specs.Prelude.{◌≡◌, true, List}
use Rattle.rest_paths.specs.Paths.{PathParts}
use Rattle.hub_spec.specs.views.Lists.{belongs}
use Rattle.roster_types.specs.Records.{Record}
use Rattle.row_walks.specs.Walks.{IsOneOf, is_walked}
use Rattle.row_walks.specs.declared.walk.Walk.{Walk}

-- each row that belongs to the path is on the way
abbrev pub Leads : Walk → List Record → PathParts → Type 0
Leads walk rows path = (row : Record) → IsOneOf row rows → belongs rows path row ≡ true → is_walked walk row ≡ true
