-- What a token opens of a version.
use Rattle.std.specs.Prelude.{ℕ, List, [], filter, if◌then◌else◌, map, slice_index_or}
use Rattle.std.specs.Option.{option_map_or}
use Rattle.grant_scopes.specs.declared.grant.Grant.{Grant}
use Rattle.grant_scopes.specs.Opens.{opens}
use Rattle.hub_spec.specs.views.Seen.{seen}
use Rattle.grant_scopes.specs.declared.access.Access.TheVariants.{Read}
use Rattle.roster_types.specs.Keys.{is_of_kind}
use Rattle.roster_types.specs.Records.{Record}
use Rattle.roster_values.specs.declared.kind.Kind.{Kind}
use Rattle.roster_values.specs.Kinds.{all_kinds, place_of_kind}
use Rattle.version_core.specs.Changes.{rows_of}
use Rattle.version_core.specs.declared.change.BaseVersion.{BaseVersion}
use Rattle.version_core.specs.Grants.{grant_of}

-- the seen rows of a kind, where the scopes open it for reading
unfoldable pub kind_cut : Grant → List Record → Kind → List Record
kind_cut grant rows kind = if opens grant.scopes kind Read then filter (is_of_kind kind) (seen grant.schools rows) else []

-- those of each kind, in the order of the kinds; each list ascends by id, as the rows do
abbrev pub cut_of : Grant → List Record → List (List Record)
cut_of grant rows = map (kind_cut grant rows) all_kinds

-- nothing of any kind
abbrev pub no_rows : List (List Record)
no_rows = map (λ kind. []) all_kinds

-- the cut of a version to the caller that has the token
abbrev pub cut : BaseVersion → List ℕ → List (List Record)
cut version token = option_map_or (λ row. cut_of row.grant (rows_of version.rows)) (grant_of token version.grants) no_rows

-- the list of a kind in it
abbrev pub list_in : BaseVersion → List ℕ → Kind → List Record
list_in version token kind = slice_index_or (cut version token) (place_of_kind kind) []
