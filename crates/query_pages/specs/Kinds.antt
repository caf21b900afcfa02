-- The rows that a path lists are of one kind.
use Rattle.std.specs.Prelude.{◌≡◌, true, List}
use Rattle.filter_grammar.specs.declared.query.Query.{Query}
use Rattle.rest_paths.specs.Paths.{PathParts}
use Rattle.hub_spec.specs.views.Lists.{belongs, is_listed, kind_of_path}
use Rattle.reference_rules.proofs.KeyOrder.{and_first}
use Rattle.roster_types.specs.Keys.{is_of_kind}
use Rattle.roster_types.specs.Records.{Record}

-- a row that a path lists is of its kind
pub listed_kind : (rows : List Record) (path : PathParts) (query : Query) (row : Record)
    → is_listed rows path query row ≡ true → is_of_kind (kind_of_path path) row ≡ true
unfolding belongs
listed_kind rows path query row e = and_first _ _ (and_first _ _ (and_first _ _ e))
