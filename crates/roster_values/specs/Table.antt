-- The fields of each kind, as OneRoster 1.1 lists them.
use Rattle.std.specs.Prelude.{ℕ, Bool, true, false, List, [], ◌∷◌, map, codes, ◌||◌, nat_lt}
use Rattle.roster_values.specs.declared.kind.Kind.{Kind}
use Rattle.roster_values.specs.declared.kind.Kind.TheVariants.{Orgs, AcademicSessions, Courses, Classes, Users}
use Rattle.roster_values.specs.declared.kind.Kind.TheVariants.{Enrollments, Demographics, Categories, LineItems}
use Rattle.roster_values.specs.declared.kind.Kind.TheVariants.{Results, Resources, ClassResources, CourseResources}
use Rattle.roster_values.specs.declared.mode.Mode.{Mode}
use Rattle.roster_values.specs.declared.mode.Mode.TheVariants.{Bulk, Delta}
use Rattle.roster_values.specs.declared.fields.FieldForm.{FieldForm}
use Rattle.roster_values.specs.declared.fields.FieldForm.TheVariants as code
use Rattle.roster_values.specs.declared.fields.FieldInfo.{FieldInfo}

-- what the texts of a field write
pub data Form : Type 0 where
  TextForm : Form
  IdForm : Form
  DayForm : Form
  MomentForm : Form
  NumberForm : Form
  YearForm : Form
  FlagForm : Form
  WordForm : List (List ℕ) → Form
  TextsForm : Form
  UserIdsForm : Form
  RefForm : Kind → Form
  RefsForm : Kind → Form

-- a field: its name in JSON, its column in a file, its form, and whether a record without it is refused
pub record Info : Type 0 where
  pub name : List ℕ
  pub column : List ℕ
  pub form : Form
  pub required : Bool

-- the form that the code's form stands for
abbrev pub form_of : FieldForm → Form
form_of code.Text = TextForm
form_of code.Id = IdForm
form_of code.Day = DayForm
form_of code.Moment = MomentForm
form_of code.Number = NumberForm
form_of code.Year = YearForm
form_of code.Flag = FlagForm
form_of (code.Word words) = WordForm (map (λ w. w.now) words.now)
form_of code.Texts = TextsForm
form_of code.UserIds = UserIdsForm
form_of (code.Ref k) = RefForm k
form_of (code.Refs k) = RefsForm k

-- the field that the code's field stands for
abbrev pub info_of : FieldInfo → Info
info_of i =
    record { name = i.name.now; column = i.column.now; form = form_of i.form; required = i.required }

-- a field of this column and this name that each record has
abbrev pub needed : List ℕ → List ℕ → Form → Info
needed column name form = record { name = name; column = column; form = form; required = true }

-- one that a record may lack
abbrev pub optional : List ℕ → List ℕ → Form → Info
optional column name form = record { name = name; column = column; form = form; required = false }

-- whether a record stands, or is to be taken away
abbrev pub statuses : List (List ℕ)
statuses =
    codes "active" ∷ codes "tobedeleted" ∷ []

-- what an organization is
abbrev pub org_types : List (List ℕ)
org_types =
    codes "department" ∷ codes "school" ∷ codes "district" ∷ codes "local" ∷ codes "state"
    ∷ codes "national" ∷ []

-- what an academic session is
abbrev pub session_types : List (List ℕ)
session_types =
    codes "gradingPeriod" ∷ codes "semester" ∷ codes "schoolYear" ∷ codes "term" ∷ []

-- what a class is
abbrev pub class_types : List (List ℕ)
class_types =
    codes "homeroom" ∷ codes "scheduled" ∷ []

-- what a person is, in a school or in a class
abbrev pub roles : List (List ℕ)
roles =
    codes "administrator" ∷ codes "aide" ∷ codes "guardian" ∷ codes "parent"
    ∷ codes "proctor" ∷ codes "relative" ∷ codes "student" ∷ codes "teacher" ∷ []

-- a person's sex
abbrev pub sexes : List (List ℕ)
sexes =
    codes "male" ∷ codes "female" ∷ []

-- how much a class or a course leans on a resource
abbrev pub importances : List (List ℕ)
importances =
    codes "primary" ∷ codes "secondary" ∷ []

-- how far a result is graded
abbrev pub score_statuses : List (List ℕ)
score_statuses =
    codes "exempt" ∷ codes "fully graded" ∷ codes "not submitted" ∷ codes "partially graded"
    ∷ codes "submitted" ∷ []

-- how many fields every kind begins with
abbrev pub common_fields : ℕ
common_fields = 3

-- those fields, and then the kind's own
abbrev pub common : List Info → List Info
common own =
    needed (codes "sourcedId") (codes "sourcedId") IdForm
    ∷ optional (codes "status") (codes "status") (WordForm statuses)
    ∷ optional (codes "dateLastModified") (codes "dateLastModified") MomentForm
    ∷ own

-- the fields of a kind, in the order of the columns of its file
abbrev pub table : Kind → List Info
table Orgs = common (
    needed (codes "name") (codes "name") TextForm
    ∷ needed (codes "type") (codes "type") (WordForm org_types)
    ∷ optional (codes "identifier") (codes "identifier") TextForm
    ∷ optional (codes "parentSourcedId") (codes "parent") (RefForm Orgs)
    ∷ [])
table AcademicSessions = common (
    needed (codes "title") (codes "title") TextForm
    ∷ needed (codes "type") (codes "type") (WordForm session_types)
    ∷ needed (codes "startDate") (codes "startDate") DayForm
    ∷ needed (codes "endDate") (codes "endDate") DayForm
    ∷ optional (codes "parentSourcedId") (codes "parent") (RefForm AcademicSessions)
    ∷ needed (codes "schoolYear") (codes "schoolYear") YearForm
    ∷ [])
table Courses = common (
    optional (codes "schoolYearSourcedId") (codes "schoolYear") (RefForm AcademicSessions)
    ∷ needed (codes "title") (codes "title") TextForm
    ∷ optional (codes "courseCode") (codes "courseCode") TextForm
    ∷ optional (codes "grades") (codes "grades") TextsForm
    ∷ needed (codes "orgSourcedId") (codes "org") (RefForm Orgs)
    ∷ optional (codes "subjects") (codes "subjects") TextsForm
    ∷ optional (codes "subjectCodes") (codes "subjectCodes") TextsForm
    ∷ [])
table Classes = common (
    needed (codes "title") (codes "title") TextForm
    ∷ optional (codes "grades") (codes "grades") TextsForm
    ∷ needed (codes "courseSourcedId") (codes "course") (RefForm Courses)
    ∷ optional (codes "classCode") (codes "classCode") TextForm
    ∷ needed (codes "classType") (codes "classType") (WordForm class_types)
    ∷ optional (codes "location") (codes "location") TextForm
    ∷ needed (codes "schoolSourcedId") (codes "school") (RefForm Orgs)
    ∷ needed (codes "termSourcedIds") (codes "terms") (RefsForm AcademicSessions)
    ∷ optional (codes "subjects") (codes "subjects") TextsForm
    ∷ optional (codes "subjectCodes") (codes "subjectCodes") TextsForm
    ∷ optional (codes "periods") (codes "periods") TextsForm
    ∷ [])
table Users = common (
    needed (codes "enabledUser") (codes "enabledUser") FlagForm
    ∷ needed (codes "orgSourcedIds") (codes "orgs") (RefsForm Orgs)
    ∷ needed (codes "role") (codes "role") (WordForm roles)
    ∷ needed (codes "username") (codes "username") TextForm
    ∷ optional (codes "userIds") (codes "userIds") UserIdsForm
    ∷ needed (codes "givenName") (codes "givenName") TextForm
    ∷ needed (codes "familyName") (codes "familyName") TextForm
    ∷ optional (codes "middleName") (codes "middleName") TextForm
    ∷ optional (codes "identifier") (codes "identifier") TextForm
    ∷ optional (codes "email") (codes "email") TextForm
    ∷ optional (codes "sms") (codes "sms") TextForm
    ∷ optional (codes "phone") (codes "phone") TextForm
    ∷ optional (codes "agentSourcedIds") (codes "agents") (RefsForm Users)
    ∷ optional (codes "grades") (codes "grades") TextsForm
    ∷ [])
table Enrollments = common (
    needed (codes "classSourcedId") (codes "class") (RefForm Classes)
    ∷ needed (codes "schoolSourcedId") (codes "school") (RefForm Orgs)
    ∷ needed (codes "userSourcedId") (codes "user") (RefForm Users)
    ∷ needed (codes "role") (codes "role") (WordForm roles)
    ∷ optional (codes "primary") (codes "primary") FlagForm
    ∷ optional (codes "beginDate") (codes "beginDate") DayForm
    ∷ optional (codes "endDate") (codes "endDate") DayForm
    ∷ [])
table Demographics = common (
    optional (codes "birthDate") (codes "birthDate") DayForm
    ∷ optional (codes "sex") (codes "sex") (WordForm sexes)
    ∷ optional (codes "americanIndianOrAlaskaNative") (codes "americanIndianOrAlaskaNative") FlagForm
    ∷ optional (codes "asian") (codes "asian") FlagForm
    ∷ optional (codes "blackOrAfricanAmerican") (codes "blackOrAfricanAmerican") FlagForm
    ∷ optional (codes "nativeHawaiianOrOtherPacificIslander") (codes "nativeHawaiianOrOtherPacificIslander") FlagForm
    ∷ optional (codes "white") (codes "white") FlagForm
    ∷ optional (codes "demographicRaceTwoOrMoreRaces") (codes "demographicRaceTwoOrMoreRaces") FlagForm
    ∷ optional (codes "hispanicOrLatinoEthnicity") (codes "hispanicOrLatinoEthnicity") FlagForm
    ∷ optional (codes "countryOfBirthCode") (codes "countryOfBirthCode") TextForm
    ∷ optional (codes "stateOfBirthAbbreviation") (codes "stateOfBirthAbbreviation") TextForm
    ∷ optional (codes "cityOfBirth") (codes "cityOfBirth") TextForm
    ∷ optional (codes "publicSchoolResidenceStatus") (codes "publicSchoolResidenceStatus") TextForm
    ∷ [])
table Categories = common (
    needed (codes "title") (codes "title") TextForm
    ∷ [])
table LineItems = common (
    needed (codes "title") (codes "title") TextForm
    ∷ optional (codes "description") (codes "description") TextForm
    ∷ needed (codes "assignDate") (codes "assignDate") DayForm
    ∷ needed (codes "dueDate") (codes "dueDate") DayForm
    ∷ needed (codes "classSourcedId") (codes "class") (RefForm Classes)
    ∷ needed (codes "categorySourcedId") (codes "category") (RefForm Categories)
    ∷ optional (codes "gradingPeriodSourcedId") (codes "gradingPeriod") (RefForm AcademicSessions)
    ∷ optional (codes "resultValueMin") (codes "resultValueMin") NumberForm
    ∷ optional (codes "resultValueMax") (codes "resultValueMax") NumberForm
    ∷ [])
table Results = common (
    needed (codes "lineItemSourcedId") (codes "lineItem") (RefForm LineItems)
    ∷ needed (codes "studentSourcedId") (codes "student") (RefForm Users)
    ∷ needed (codes "scoreStatus") (codes "scoreStatus") (WordForm score_statuses)
    ∷ optional (codes "score") (codes "score") NumberForm
    ∷ needed (codes "scoreDate") (codes "scoreDate") DayForm
    ∷ optional (codes "comment") (codes "comment") TextForm
    ∷ [])
table Resources = common (
    needed (codes "vendorResourceId") (codes "vendorResourceId") TextForm
    ∷ optional (codes "title") (codes "title") TextForm
    ∷ optional (codes "roles") (codes "roles") TextsForm
    ∷ optional (codes "importance") (codes "importance") (WordForm importances)
    ∷ optional (codes "vendorId") (codes "vendorId") TextForm
    ∷ optional (codes "applicationId") (codes "applicationId") TextForm
    ∷ [])
table ClassResources = common (
    optional (codes "title") (codes "title") TextForm
    ∷ needed (codes "classSourcedId") (codes "class") (RefForm Classes)
    ∷ needed (codes "resourceSourcedId") (codes "resource") (RefForm Resources)
    ∷ [])
table CourseResources = common (
    optional (codes "title") (codes "title") TextForm
    ∷ needed (codes "courseSourcedId") (codes "course") (RefForm Courses)
    ∷ needed (codes "resourceSourcedId") (codes "resource") (RefForm Resources)
    ∷ [])

-- whether a field at a place is required: a delta file must say what became of each record, and when
abbrev pub is_required_in : Mode → ℕ → Bool → Bool
is_required_in Bulk place required = required
is_required_in Delta place required = required || nat_lt place common_fields

-- what a field at a place of its table asks for in a file of a mode
abbrev pub info_in : Mode → ℕ → Info → Info
info_in mode place info = record info { required = is_required_in mode place info.required }
