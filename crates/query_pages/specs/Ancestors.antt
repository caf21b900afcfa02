-- Ids of orgs to which chains of parents lead.
use Rattle.std.specs.Prelude.{◌≡◌, ℕ, Bool, true, List, Option, Some, bytes_eq}
use Rattle.std.specs.HashSet.{HashSet, contains_by}
use Rattle.std.specs.List.{list_any}
use Rattle.grant_scopes.specs.declared.schools.Schools.{Schools}
use Rattle.grant_scopes.specs.declared.schools.Schools.TheVariants.{Listed}
use Rattle.hub_spec.specs.views.Seen.{leads_up}
use Rattle.reference_rules.specs.Parents.{parent_of}
use Rattle.roster_types.specs.Records.{Record}
use Rattle.roster_values.specs.declared.kind.Kind.TheVariants.{Orgs}
use denote.Ref.{Bor}

-- the id is one of them
abbrev pub has_id : {S : Type 0} → HashSet (Bor (List ℕ)) S → List ℕ → Bool
has_id ids id = contains_by (λ k. bytes_eq id k.now) ids

-- the parent of each is one of them
abbrev pub IsClosed : {S : Type 0} → List Record → HashSet (Bor (List ℕ)) S → Type 0
IsClosed rows ids = (id parent : List ℕ) → has_id ids id ≡ true → parent_of rows Orgs id ≡ Some parent → has_id ids parent ≡ true

-- where there are any, they are those to which the listed schools lead up
abbrev pub AreAncestors : {S : Type 0} → Schools → List Record → ℕ → Option (HashSet (Bor (List ℕ)) S) → Type 0
AreAncestors {S} schools rows turns ancestors =
    (ids : HashSet (Bor (List ℕ)) S) (list : List (List ℕ)) → ancestors ≡ Some ids → schools ≡ Listed list
    → (id : List ℕ) → has_id ids id ≡ list_any (leads_up rows id turns) list
