-- The kinds of roster data and their words.
use Rattle.std.specs.Prelude.{ℕ, ◌++◌, ◌∷◌, [], bytes_eq, codes, find, List, Option}
use Rattle.roster_values.specs.declared.kind.Kind.{Kind}
use Rattle.roster_values.specs.declared.kind.Kind.TheVariants.{Orgs, AcademicSessions, Courses, Classes, Users}
use Rattle.roster_values.specs.declared.kind.Kind.TheVariants.{Enrollments, Demographics, Categories, LineItems}
use Rattle.roster_values.specs.declared.kind.Kind.TheVariants.{Results, Resources, ClassResources, CourseResources}

-- every kind, in order
abbrev pub all_kinds : List Kind
all_kinds =
    Orgs ∷ AcademicSessions ∷ Courses ∷ Classes ∷ Users
    ∷ Enrollments ∷ Demographics ∷ Categories ∷ LineItems ∷ Results
    ∷ Resources ∷ ClassResources ∷ CourseResources ∷ []

-- the place of a kind among all
abbrev pub place_of_kind : Kind → ℕ
place_of_kind Orgs = 0
place_of_kind AcademicSessions = 1
place_of_kind Courses = 2
place_of_kind Classes = 3
place_of_kind Users = 4
place_of_kind Enrollments = 5
place_of_kind Demographics = 6
place_of_kind Categories = 7
place_of_kind LineItems = 8
place_of_kind Results = 9
place_of_kind Resources = 10
place_of_kind ClassResources = 11
place_of_kind CourseResources = 12

-- where the paths of the standard's REST binding begin, without and with the slash in front of a collection's word
abbrev pub binding_root : List ℕ
binding_root = codes "/ims/oneroster/v1p1"

abbrev pub collections_root : List ℕ
collections_root = codes "/ims/oneroster/v1p1/"

-- the word for many records of a kind
abbrev pub plural_of : Kind → List ℕ
plural_of Orgs = codes "orgs"
plural_of AcademicSessions = codes "academicSessions"
plural_of Courses = codes "courses"
plural_of Classes = codes "classes"
plural_of Users = codes "users"
plural_of Enrollments = codes "enrollments"
plural_of Demographics = codes "demographics"
plural_of Categories = codes "categories"
plural_of LineItems = codes "lineItems"
plural_of Results = codes "results"
plural_of Resources = codes "resources"
plural_of ClassResources = codes "classResources"
plural_of CourseResources = codes "courseResources"

-- the word for one record of a kind
abbrev pub single_of : Kind → List ℕ
single_of Orgs = codes "org"
single_of AcademicSessions = codes "academicSession"
single_of Courses = codes "course"
single_of Classes = codes "class"
single_of Users = codes "user"
single_of Enrollments = codes "enrollment"
single_of Demographics = codes "demographics"
single_of Categories = codes "category"
single_of LineItems = codes "lineItem"
single_of Results = codes "result"
single_of Resources = codes "resource"
single_of ClassResources = codes "classResource"
single_of CourseResources = codes "courseResource"

-- the name of a kind's file
abbrev pub file_of : Kind → List ℕ
file_of kind = plural_of kind ++ codes ".csv"

-- the kind whose plural word a text is
abbrev pub kind_of_word : List ℕ → Option Kind
kind_of_word word = find (λ kind. bytes_eq (plural_of kind) word) all_kinds
