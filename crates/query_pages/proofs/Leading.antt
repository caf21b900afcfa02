-- What is seen and belongs to a path.
use Rattle.std.proofs.Common.{◌≡◌, ℕ, true, List, subst}
use Rattle.grant_scopes.specs.declared.schools.Schools.{Schools}
use Rattle.grant_scopes.specs.declared.schools.Schools.TheVariants as school
use Rattle.rest_paths.specs.Paths.{PathParts}
use Rattle.hub_spec.specs.views.Lists.{belongs, kind_of_path}
use Rattle.hub_spec.specs.views.Seen.{sees_at, sees_row}
use Rattle.reference_rules.proofs.KeyOrder.{and_first}
use Rattle.roster_types.specs.Keys.{is_of_kind}
use Rattle.roster_types.specs.Records.{Record}

pub belongs_kind : (rows : List Record) (path : PathParts) (row : Record) → belongs rows path row ≡ true → is_of_kind (kind_of_path path) row ≡ true
unfolding belongs
belongs_kind rows path row e = and_first _ _ (and_first _ _ e)

pub sees_listed : (schools : Schools) (ids : List (List ℕ)) (rows : List Record) (row : Record) → schools ≡ school.Listed ids → sees_row schools rows row ≡ true → sees_at ids rows row.kind row ≡ true
unfolding sees_row
sees_listed schools ids rows row is e = subst (λ s. sees_row s rows row ≡ true) is e
