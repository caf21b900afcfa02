-- The values of each kind's struct, in the order of the field table. This is all that is said of a kind one by one.
use Rattle.std.specs.Prelude.{List, [], ◌∷◌, Option, Some, option_map}
use Rattle.roster_values.specs.declared.kind.Kind.{Kind}
use Rattle.roster_values.specs.declared.kind.Kind.TheVariants as kind
use Rattle.roster_values.specs.declared.value.Value.{Value}
use Rattle.roster_values.specs.declared.value.Value.TheVariants.{Day, Flag, Number, Ref, Refs, Text, Texts, UserIds}
use Rattle.roster_values.specs.declared.value.Value.TheVariants.{Word, Year}
use Rattle.roster_types.specs.declared.orgs.Org.{Org}
use Rattle.roster_types.specs.declared.academic_sessions.AcademicSession.{AcademicSession}
use Rattle.roster_types.specs.declared.courses.Course.{Course}
use Rattle.roster_types.specs.declared.classes.Class.{Class}
use Rattle.roster_types.specs.declared.users.User.{User}
use Rattle.roster_types.specs.declared.enrollments.Enrollment.{Enrollment}
use Rattle.roster_types.specs.declared.demographics.Demographic.{Demographic}
use Rattle.roster_types.specs.declared.categories.Category.{Category}
use Rattle.roster_types.specs.declared.line_items.LineItem.{LineItem}
use Rattle.roster_types.specs.declared.results.Score.{Score}
use Rattle.roster_types.specs.declared.resources.Resource.{Resource}
use Rattle.roster_types.specs.declared.class_resources.ClassResource.{ClassResource}
use Rattle.roster_types.specs.declared.course_resources.CourseResource.{CourseResource}
use Rattle.roster_types.specs.declared.structs.Fields.{Fields}
use Rattle.roster_types.specs.declared.structs.Fields.TheVariants as fields

abbrev pub org_values : Org → List (Option Value)
org_values r =
    Some (Text r.name)
    ∷ Some (Word r.type_word)
    ∷ option_map (λ x. Text x) r.identifier
    ∷ option_map (λ x. Ref x) r.parent
    ∷ []

abbrev pub academic_session_values : AcademicSession → List (Option Value)
academic_session_values r =
    Some (Text r.title)
    ∷ Some (Word r.type_word)
    ∷ Some (Day r.start_date)
    ∷ Some (Day r.end_date)
    ∷ option_map (λ x. Ref x) r.parent
    ∷ Some (Year r.school_year)
    ∷ []

abbrev pub course_values : Course → List (Option Value)
course_values r =
    option_map (λ x. Ref x) r.school_year
    ∷ Some (Text r.title)
    ∷ option_map (λ x. Text x) r.course_code
    ∷ option_map (λ x. Texts x) r.grades
    ∷ Some (Ref r.org)
    ∷ option_map (λ x. Texts x) r.subjects
    ∷ option_map (λ x. Texts x) r.subject_codes
    ∷ []

abbrev pub class_values : Class → List (Option Value)
class_values r =
    Some (Text r.title)
    ∷ option_map (λ x. Texts x) r.grades
    ∷ Some (Ref r.course)
    ∷ option_map (λ x. Text x) r.class_code
    ∷ Some (Word r.class_type)
    ∷ option_map (λ x. Text x) r.location
    ∷ Some (Ref r.school)
    ∷ Some (Refs r.terms)
    ∷ option_map (λ x. Texts x) r.subjects
    ∷ option_map (λ x. Texts x) r.subject_codes
    ∷ option_map (λ x. Texts x) r.periods
    ∷ []

abbrev pub user_values : User → List (Option Value)
user_values r =
    Some (Flag r.enabled_user)
    ∷ Some (Refs r.orgs)
    ∷ Some (Word r.role)
    ∷ Some (Text r.username)
    ∷ option_map (λ x. UserIds x) r.user_ids
    ∷ Some (Text r.given_name)
    ∷ Some (Text r.family_name)
    ∷ option_map (λ x. Text x) r.middle_name
    ∷ option_map (λ x. Text x) r.identifier
    ∷ option_map (λ x. Text x) r.email
    ∷ option_map (λ x. Text x) r.sms
    ∷ option_map (λ x. Text x) r.phone
    ∷ option_map (λ x. Refs x) r.agents
    ∷ option_map (λ x. Texts x) r.grades
    ∷ []

abbrev pub enrollment_values : Enrollment → List (Option Value)
enrollment_values r =
    Some (Ref r.class_id)
    ∷ Some (Ref r.school)
    ∷ Some (Ref r.user)
    ∷ Some (Word r.role)
    ∷ option_map (λ x. Flag x) r.primary
    ∷ option_map (λ x. Day x) r.begin_date
    ∷ option_map (λ x. Day x) r.end_date
    ∷ []

abbrev pub demographic_values : Demographic → List (Option Value)
demographic_values r =
    option_map (λ x. Day x) r.birth_date
    ∷ option_map (λ x. Word x) r.sex
    ∷ option_map (λ x. Flag x) r.american_indian_or_alaska_native
    ∷ option_map (λ x. Flag x) r.asian
    ∷ option_map (λ x. Flag x) r.black_or_african_american
    ∷ option_map (λ x. Flag x) r.native_hawaiian_or_other_pacific_islander
    ∷ option_map (λ x. Flag x) r.white
    ∷ option_map (λ x. Flag x) r.demographic_race_two_or_more_races
    ∷ option_map (λ x. Flag x) r.hispanic_or_latino_ethnicity
    ∷ option_map (λ x. Text x) r.country_of_birth_code
    ∷ option_map (λ x. Text x) r.state_of_birth_abbreviation
    ∷ option_map (λ x. Text x) r.city_of_birth
    ∷ option_map (λ x. Text x) r.public_school_residence_status
    ∷ []

abbrev pub category_values : Category → List (Option Value)
category_values r =
    Some (Text r.title)
    ∷ []

abbrev pub line_item_values : LineItem → List (Option Value)
line_item_values r =
    Some (Text r.title)
    ∷ option_map (λ x. Text x) r.description
    ∷ Some (Day r.assign_date)
    ∷ Some (Day r.due_date)
    ∷ Some (Ref r.class_id)
    ∷ Some (Ref r.category)
    ∷ option_map (λ x. Ref x) r.grading_period
    ∷ option_map (λ x. Number x) r.result_value_min
    ∷ option_map (λ x. Number x) r.result_value_max
    ∷ []

abbrev pub score_values : Score → List (Option Value)
score_values r =
    Some (Ref r.line_item)
    ∷ Some (Ref r.student)
    ∷ Some (Word r.score_status)
    ∷ option_map (λ x. Number x) r.score
    ∷ Some (Day r.score_date)
    ∷ option_map (λ x. Text x) r.comment
    ∷ []

abbrev pub resource_values : Resource → List (Option Value)
resource_values r =
    Some (Text r.vendor_resource_id)
    ∷ option_map (λ x. Text x) r.title
    ∷ option_map (λ x. Texts x) r.roles
    ∷ option_map (λ x. Word x) r.importance
    ∷ option_map (λ x. Text x) r.vendor_id
    ∷ option_map (λ x. Text x) r.application_id
    ∷ []

abbrev pub class_resource_values : ClassResource → List (Option Value)
class_resource_values r =
    option_map (λ x. Text x) r.title
    ∷ Some (Ref r.class_id)
    ∷ Some (Ref r.resource)
    ∷ []

abbrev pub course_resource_values : CourseResource → List (Option Value)
course_resource_values r =
    option_map (λ x. Text x) r.title
    ∷ Some (Ref r.course)
    ∷ Some (Ref r.resource)
    ∷ []

-- the values of the struct of any kind
abbrev pub values_of : Fields → List (Option Value)
values_of (fields.Orgs r) = org_values r.value
values_of (fields.AcademicSessions r) = academic_session_values r.value
values_of (fields.Courses r) = course_values r.value
values_of (fields.Classes r) = class_values r.value
values_of (fields.Users r) = user_values r.value
values_of (fields.Enrollments r) = enrollment_values r.value
values_of (fields.Demographics r) = demographic_values r.value
values_of (fields.Categories r) = category_values r.value
values_of (fields.LineItems r) = line_item_values r.value
values_of (fields.Results r) = score_values r.value
values_of (fields.Resources r) = resource_values r.value
values_of (fields.ClassResources r) = class_resource_values r.value
values_of (fields.CourseResources r) = course_resource_values r.value

-- the kind of any of them
abbrev pub kind_of : Fields → Kind
kind_of (fields.Orgs r) = kind.Orgs
kind_of (fields.AcademicSessions r) = kind.AcademicSessions
kind_of (fields.Courses r) = kind.Courses
kind_of (fields.Classes r) = kind.Classes
kind_of (fields.Users r) = kind.Users
kind_of (fields.Enrollments r) = kind.Enrollments
kind_of (fields.Demographics r) = kind.Demographics
kind_of (fields.Categories r) = kind.Categories
kind_of (fields.LineItems r) = kind.LineItems
kind_of (fields.Results r) = kind.Results
kind_of (fields.Resources r) = kind.Resources
kind_of (fields.ClassResources r) = kind.ClassResources
kind_of (fields.CourseResources r) = kind.CourseResources
