-- Which rows belong to the path of a route.
use Rattle.std.specs.Prelude.{ℕ, ◌&&◌, ◌||◌, Bool, true, List, codes}
use Rattle.rest_paths.specs.Routes.{kind_in}
use Rattle.rest_paths.specs.declared.route.Collection.{Collection}
use Rattle.rest_paths.specs.declared.route.Collection.TheVariants.{Of, Schools, Terms, GradingPeriods, Students}
use Rattle.rest_paths.specs.declared.route.Collection.TheVariants.{Teachers}
use Rattle.rest_paths.specs.declared.route.Route.{Route}
use Rattle.rest_paths.specs.declared.route.Route.TheVariants as route
use Rattle.hub_spec.specs.views.References.{is_named_by, leads_to, stands_where}
use Rattle.reference_rules.specs.Faults.{has_type, is_word}
use Rattle.roster_types.specs.Keys.{is_of_kind}
use Rattle.roster_types.specs.Records.{Record, field_of}
use Rattle.roster_values.specs.declared.kind.Kind.{Kind}
use Rattle.roster_values.specs.declared.kind.Kind.TheVariants.{Classes, Enrollments, LineItems, ClassResources}
use Rattle.roster_values.specs.declared.kind.Kind.TheVariants.{CourseResources}
use Rattle.version_core.specs.References.{names}

-- the role of the row is this word
abbrev pub has_role : Record → List ℕ → Bool
has_role row word = is_word (field_of row (codes "role")) word

-- the row has the type or the role that a collection asks for
abbrev pub is_of_type : Collection → Record → Bool
is_of_type (Of kind) row = true
is_of_type Schools row = has_type row (codes "school")
is_of_type Terms row = has_type row (codes "term")
is_of_type GradingPeriods row = has_type row (codes "gradingPeriod")
is_of_type Students row = has_role row (codes "student")
is_of_type Teachers row = has_role row (codes "teacher")

-- the row is one of the collection's
abbrev pub is_in : Collection → Record → Bool
is_in collection row = is_of_kind (kind_in collection) row && is_of_type collection row

-- whether a row belongs to a path, among all rows that are seen, where the path names a first and a second object
abbrev pub Rule : Type 0
Rule = List Record → List ℕ → List ℕ → Record → Bool

-- each row belongs to the path
abbrev pub any_row : Rule
any_row rows first second row = true

-- a field of the row names the first object
abbrev pub names_first : List ℕ → Rule
names_first field rows first second row = names field first row

-- a field of the row names the second object
abbrev pub names_second : List ℕ → Rule
names_second field rows first second row = names field second row

-- a row of a kind for which the rule holds names this row by a field
abbrev pub named_by : Kind → List ℕ → Rule → Rule
named_by kind field rule rows first second row = is_named_by (rule rows first second) rows kind field row

-- a field of this row names a row of a kind for which the rule holds
abbrev pub naming : List ℕ → Kind → Rule → Rule
naming field kind rule rows first second row = leads_to (rule rows first second) rows field kind row

-- the rule holds for the second object, which is of a kind
abbrev pub if_second : Kind → Rule → Rule
if_second kind rule rows first second row = stands_where (rule rows first second) rows kind second

-- the role of the row is this word, whatever the path names
abbrev pub of_role : List ℕ → Rule
of_role word rows first second row = has_role row word

-- both rules hold
abbrev pub both : Rule → Rule → Rule
both one other rows first second row = one rows first second row && other rows first second row

-- one of the rules holds
abbrev pub either : Rule → Rule → Rule
either one other rows first second row = one rows first second row || other rows first second row

-- enrolled in the class with a role
abbrev pub enrolled : Rule → List ℕ → Rule
enrolled in_class word = named_by Enrollments (codes "user") (both in_class (of_role word))

-- the second object is a class of the first, a school
abbrev pub class_of_school : Rule
class_of_school = if_second Classes (names_first (codes "school"))

-- which rows belong to the paths of each route
unfoldable pub rule_of : Route → Rule
rule_of (route.All c) = any_row
rule_of (route.One c) = any_row
rule_of route.SchoolCourses = names_first (codes "org")
rule_of route.SchoolClasses = names_first (codes "school")
rule_of route.SchoolEnrollments = names_first (codes "school")
rule_of route.SchoolStudents = either (names_first (codes "orgs")) (named_by Enrollments (codes "user") (names_first (codes "school")))
rule_of route.SchoolTeachers = either (names_first (codes "orgs")) (named_by Enrollments (codes "user") (names_first (codes "school")))
rule_of route.SchoolTerms = named_by Classes (codes "terms") (names_first (codes "school"))
rule_of route.SchoolClassEnrollments = both class_of_school (names_second (codes "class"))
rule_of route.SchoolClassStudents = both class_of_school (enrolled (names_second (codes "class")) (codes "student"))
rule_of route.SchoolClassTeachers = both class_of_school (enrolled (names_second (codes "class")) (codes "teacher"))
rule_of route.ClassStudents = enrolled (names_first (codes "class")) (codes "student")
rule_of route.ClassTeachers = enrolled (names_first (codes "class")) (codes "teacher")
rule_of route.TermClasses = names_first (codes "terms")
rule_of route.TermGradingPeriods = names_first (codes "parent")
rule_of route.CourseClasses = names_first (codes "course")
rule_of route.StudentClasses = named_by Enrollments (codes "class") (names_first (codes "user"))
rule_of route.TeacherClasses = named_by Enrollments (codes "class") (names_first (codes "user"))
rule_of route.UserClasses = named_by Enrollments (codes "class") (names_first (codes "user"))
rule_of route.ClassLineItems = names_first (codes "class")
rule_of route.ClassResults = naming (codes "lineItem") LineItems (names_first (codes "class"))
rule_of route.ClassLineItemResults = both (if_second LineItems (names_first (codes "class"))) (names_second (codes "lineItem"))
rule_of route.ClassStudentResults = both (naming (codes "lineItem") LineItems (names_first (codes "class"))) (names_second (codes "student"))
rule_of route.ClassResources = named_by ClassResources (codes "resource") (names_first (codes "class"))
rule_of route.CourseResources = named_by CourseResources (codes "resource") (names_first (codes "course"))
