-- What a grant of one school sees of a small district, and what its scopes open.
use Rattle.std.proofs.Common.{◌≡◌, [], ◌∷◌, true, false, refl, map, codes}
use Rattle.hub_spec.specs.examples.Lake.{lake}
use Rattle.hub_spec.specs.views.Seen.{seen, sees_row, sees_org, is_at_school, sees_user, sees_course, sees_class_of}
use Rattle.grant_scopes.specs.Opens.{opens}
use Rattle.roster_types.specs.Keys.{key_cmp}
use Rattle.roster_types.specs.Records.{Record}
use Rattle.grant_scopes.specs.declared.schools.Schools.TheVariants.{All, Listed}
use Rattle.grant_scopes.specs.declared.access.Access.TheVariants.{Read, Put, Delete}
use Rattle.roster_values.specs.Kinds.{all_kinds}

-- fifteen rows: all sessions, the district and the school, and what concerns the school
fifteen : map (λ (row : Record). row.id) (seen (Listed (codes "s1" ∷ [])) lake)
    ≡ codes "d1" ∷ codes "s1" ∷ codes "g1" ∷ codes "t1" ∷ codes "y25" ∷ codes "alg" ∷ codes "k1" ∷ codes "u1" ∷ codes "u2" ∷ codes "u4"
    ∷ codes "e1" ∷ codes "u1" ∷ codes "hw" ∷ codes "li1" ∷ codes "r1" ∷ []
unfolding sees_row sees_org is_at_school sees_user sees_course sees_class_of key_cmp
fifteen = refl

all_seen : seen All lake ≡ lake
unfolding sees_row
all_seen = refl

-- the words roster.readonly, gradebook.readonly, gradebook.createput and gradebook.delete
reads : map (λ kind. opens 57 kind Read) all_kinds ≡ true ∷ true ∷ true ∷ true ∷ true ∷ true ∷ true ∷ true ∷ true ∷ true ∷ false ∷ false ∷ false ∷ []
unfolding opens
reads = refl

puts : map (λ kind. opens 57 kind Put) all_kinds ≡ false ∷ false ∷ false ∷ false ∷ false ∷ false ∷ false ∷ true ∷ true ∷ true ∷ false ∷ false ∷ false ∷ []
unfolding opens
puts = refl

-- roster-core.readonly, roster-demographics.readonly, gradebook.delete without gradebook.readonly, resource.readonly
core : map (λ kind. opens 2 kind Read) all_kinds ≡ true ∷ true ∷ true ∷ true ∷ true ∷ true ∷ false ∷ false ∷ false ∷ false ∷ false ∷ false ∷ false ∷ []
unfolding opens
core = refl

demographics : map (λ kind. opens 4 kind Read) all_kinds ≡ false ∷ false ∷ false ∷ false ∷ false ∷ false ∷ true ∷ false ∷ false ∷ false ∷ false ∷ false ∷ false ∷ []
unfolding opens
demographics = refl

deletes : map (λ kind. opens 32 kind Delete) all_kinds ≡ false ∷ false ∷ false ∷ false ∷ false ∷ false ∷ false ∷ true ∷ true ∷ true ∷ false ∷ false ∷ false ∷ []
unfolding opens
deletes = refl

resources : map (λ kind. opens 64 kind Read) all_kinds ≡ false ∷ false ∷ false ∷ false ∷ false ∷ false ∷ false ∷ false ∷ false ∷ false ∷ true ∷ true ∷ true ∷ []
unfolding opens
resources = refl
