-- The table of routes: how each path is written, which objects it names, and what it lists.
use Rattle.std.specs.Prelude.{ℕ, Bool, true, false, List, [], ◌∷◌, ◌++◌, codes, map}
use Rattle.rest_paths.specs.declared.route.Collection.{Collection}
use Rattle.rest_paths.specs.declared.route.Collection.TheVariants.{Of, Schools, Terms, GradingPeriods, Students}
use Rattle.rest_paths.specs.declared.route.Collection.TheVariants.{Teachers}
use Rattle.rest_paths.specs.declared.route.Route.{Route}
use Rattle.rest_paths.specs.declared.route.Route.TheVariants as route
use Rattle.roster_values.specs.declared.kind.Kind.{Kind}
use Rattle.roster_values.specs.declared.kind.Kind.TheVariants.{Orgs, AcademicSessions, Courses, Classes, Users}
use Rattle.roster_values.specs.declared.kind.Kind.TheVariants.{Enrollments, Categories, LineItems, Results, Resources}
use Rattle.roster_values.specs.Kinds.{all_kinds, plural_of}

-- the word for a collection
abbrev pub word_of : Collection → List ℕ
word_of (Of kind) = plural_of kind
word_of Schools = codes "schools"
word_of Terms = codes "terms"
word_of GradingPeriods = codes "gradingPeriods"
word_of Students = codes "students"
word_of Teachers = codes "teachers"

-- the kind of a collection's rows
abbrev pub kind_in : Collection → Kind
kind_in (Of kind) = kind
kind_in Schools = Orgs
kind_in Terms = AcademicSessions
kind_in GradingPeriods = AcademicSessions
kind_in Students = Users
kind_in Teachers = Users

abbrev pub all_collections : List Collection
all_collections = map Of all_kinds ++ Schools ∷ Terms ∷ GradingPeriods ∷ Students ∷ Teachers ∷ []

-- a segment of a path: a word, or the id of an object of a collection
pub data Segment : Type 0 where
  Word : List ℕ → Segment
  Object : Collection → Segment

-- a line of the table: the path behind the prefix, and the collection that it lists or names an object of
pub record Line : Type 0 where
  pub path : List Segment
  pub lists : Collection

-- a whole collection
abbrev pub whole : Collection → Line
whole lists = record { path = Word (word_of lists) ∷ []; lists = lists }

-- one object of a collection
abbrev pub one : Collection → Line
one lists = record { path = Word (word_of lists) ∷ Object lists ∷ []; lists = lists }

-- what belongs to an object
abbrev pub under : Collection → Collection → Line
under object lists = record { path = Word (word_of object) ∷ Object object ∷ Word (word_of lists) ∷ []; lists = lists }

-- what belongs to two objects
abbrev pub under_two : Collection → Collection → Collection → Line
under_two first second lists = record {
  path = Word (word_of first) ∷ Object first ∷ Word (word_of second) ∷ Object second ∷ Word (word_of lists) ∷ [];
  lists = lists;
}

-- the line of each route
abbrev pub line_of : Route → Line
line_of (route.All c) = whole c
line_of (route.One c) = one c
line_of route.SchoolCourses = under Schools (Of Courses)
line_of route.SchoolClasses = under Schools (Of Classes)
line_of route.SchoolEnrollments = under Schools (Of Enrollments)
line_of route.SchoolStudents = under Schools Students
line_of route.SchoolTeachers = under Schools Teachers
line_of route.SchoolTerms = under Schools Terms
line_of route.SchoolClassEnrollments = under_two Schools (Of Classes) (Of Enrollments)
line_of route.SchoolClassStudents = under_two Schools (Of Classes) Students
line_of route.SchoolClassTeachers = under_two Schools (Of Classes) Teachers
line_of route.ClassStudents = under (Of Classes) Students
line_of route.ClassTeachers = under (Of Classes) Teachers
line_of route.TermClasses = under Terms (Of Classes)
line_of route.TermGradingPeriods = under Terms GradingPeriods
line_of route.CourseClasses = under (Of Courses) (Of Classes)
line_of route.StudentClasses = under Students (Of Classes)
line_of route.TeacherClasses = under Teachers (Of Classes)
line_of route.UserClasses = under (Of Users) (Of Classes)
line_of route.ClassLineItems = under (Of Classes) (Of LineItems)
line_of route.ClassResults = under (Of Classes) (Of Results)
line_of route.ClassLineItemResults = under_two (Of Classes) (Of LineItems) (Of Results)
line_of route.ClassStudentResults = under_two (Of Classes) Students (Of Results)
line_of route.ClassResources = under (Of Classes) (Of Resources)
line_of route.CourseResources = under (Of Courses) (Of Resources)

abbrev pub segments_of : Route → List Segment
segments_of route = (line_of route).path

-- the kind of the rows that a path answers with
abbrev pub kind_listed : Route → Kind
kind_listed route = kind_in (line_of route).lists

abbrev pub objects_among : List Segment → List Collection
objects_among [] = []
objects_among (Word word ∷ segments) = objects_among segments
objects_among (Object collection ∷ segments) = collection ∷ objects_among segments

-- the collections whose objects a path names
abbrev pub objects_in : Route → List Collection
objects_in route = objects_among (segments_of route)

-- the routes in the order of the table
abbrev pub all_routes : List Route
all_routes =
    map route.All all_collections
    ++ map route.One all_collections
    ++ route.SchoolCourses ∷ route.SchoolClasses ∷ route.SchoolEnrollments ∷ route.SchoolStudents ∷ route.SchoolTeachers
    ∷ route.SchoolTerms ∷ route.SchoolClassEnrollments ∷ route.SchoolClassStudents ∷ route.SchoolClassTeachers ∷ route.ClassStudents
    ∷ route.ClassTeachers ∷ route.TermClasses ∷ route.TermGradingPeriods ∷ route.CourseClasses
    ∷ route.StudentClasses ∷ route.TeacherClasses ∷ route.UserClasses ∷ route.ClassLineItems
    ∷ route.ClassResults ∷ route.ClassLineItemResults ∷ route.ClassStudentResults
    ∷ route.ClassResources ∷ route.CourseResources ∷ []

-- what teachers write: the kinds whose objects take writes
abbrev pub is_gradebook : Kind → Bool
is_gradebook Categories = true
is_gradebook LineItems = true
is_gradebook Results = true
is_gradebook _ = false
