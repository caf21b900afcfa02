-- Which rows a grant sees: under a list of schools, whatever concerns one of them.
use Rattle.std.specs.Prelude.{ℕ, zero, suc, ◌||◌, Bool, true, List, codes, bytes_eq, filter}
use Rattle.std.specs.List.{list_any}
use Rattle.grant_scopes.specs.declared.schools.Schools.{Schools}
use Rattle.grant_scopes.specs.declared.schools.Schools.TheVariants as school
use Rattle.hub_spec.specs.views.References.{is_named_by, leads_to, stands_where}
use Rattle.reference_rules.specs.Parents.{is_id, nth_parent}
use Rattle.roster_types.specs.Keys.{count_of}
use Rattle.roster_types.specs.Records.{Record}
use Rattle.roster_values.specs.declared.kind.Kind.{Kind}
use Rattle.roster_values.specs.declared.kind.Kind.TheVariants.{Orgs, AcademicSessions, Courses, Classes, Users}
use Rattle.roster_values.specs.declared.kind.Kind.TheVariants.{Enrollments, Demographics, Categories, LineItems}
use Rattle.roster_values.specs.declared.kind.Kind.TheVariants.{Results, Resources, ClassResources, CourseResources}
use Rattle.version_core.specs.References.{is_one_of, named_in}

-- the id is the school's, or that of its n-th parent for some n up to `turns`
abbrev pub leads_up : List Record → List ℕ → ℕ → List ℕ → Bool
leads_up rows id zero school = bytes_eq school id
leads_up rows id (suc n) school = leads_up rows id n school || is_id id (nth_parent rows Orgs school (suc n))

-- a listed org, or an ancestor of one
unfoldable pub sees_org : List (List ℕ) → List Record → Record → Bool
sees_org schools rows org = list_any (leads_up rows org.id (count_of Orgs rows)) schools

-- the row's school is listed
unfoldable pub is_at_school : List (List ℕ) → Record → Bool
is_at_school schools row = list_any (is_one_of schools) (named_in (codes "school") row)

-- one of the user's orgs is listed, or an enrollment whose school is listed names the user
unfoldable pub sees_user : List (List ℕ) → List Record → Record → Bool
sees_user schools rows user =
    list_any (is_one_of schools) (named_in (codes "orgs") user)
    || is_named_by (is_at_school schools) rows Enrollments (codes "user") user

-- the course's org is seen, or a seen class names the course
unfoldable pub sees_course : List (List ℕ) → List Record → Record → Bool
sees_course schools rows course =
    leads_to (sees_org schools rows) rows (codes "org") Orgs course
    || is_named_by (is_at_school schools) rows Classes (codes "course") course

-- the row's class is seen
unfoldable pub sees_class_of : List (List ℕ) → List Record → Record → Bool
sees_class_of schools rows row = leads_to (is_at_school schools) rows (codes "class") Classes row

-- the row's course is seen
unfoldable pub sees_course_resource : List (List ℕ) → List Record → Record → Bool
sees_course_resource schools rows row = leads_to (sees_course schools rows) rows (codes "course") Courses row

-- a seen class resource or a seen course resource names the resource
unfoldable pub sees_resource : List (List ℕ) → List Record → Record → Bool
sees_resource schools rows resource =
    is_named_by (sees_class_of schools rows) rows ClassResources (codes "resource") resource
    || is_named_by (sees_course_resource schools rows) rows CourseResources (codes "resource") resource

-- what is seen of each kind under a list of schools
abbrev pub sees_at : List (List ℕ) → List Record → Kind → Record → Bool
sees_at schools rows Orgs row = sees_org schools rows row
sees_at schools rows AcademicSessions row = true
sees_at schools rows Courses row = sees_course schools rows row
sees_at schools rows Classes row = is_at_school schools row
sees_at schools rows Users row = sees_user schools rows row
sees_at schools rows Enrollments row = is_at_school schools row
sees_at schools rows Demographics row = stands_where (sees_user schools rows) rows Users row.id
sees_at schools rows Categories row = true
sees_at schools rows LineItems row = sees_class_of schools rows row
sees_at schools rows Results row = leads_to (sees_class_of schools rows) rows (codes "lineItem") LineItems row
sees_at schools rows Resources row = sees_resource schools rows row
sees_at schools rows ClassResources row = sees_class_of schools rows row
sees_at schools rows CourseResources row = sees_course_resource schools rows row

-- a row among others is seen
unfoldable pub sees_row : Schools → List Record → Record → Bool
sees_row school.All rows row = true
sees_row (school.Listed schools) rows row = sees_at schools rows row.kind row

-- the row of a kind and id stands and is seen
abbrev pub sees : Schools → List Record → Kind → List ℕ → Bool
sees schools rows kind id = stands_where (sees_row schools rows) rows kind id

-- the rows that are seen
abbrev pub seen : Schools → List Record → List Record
seen schools rows = filter (sees_row schools rows) rows
