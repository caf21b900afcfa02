-- The files of a district of so many schools.
use Rattle.std.specs.Prelude.{ℕ, ◌++◌, ◌==◌, ◌%◌, Bool, true, false, List, [], ◌∷◌, codes, decimal, if◌then◌else◌, map}
use Rattle.std.specs.Prelude.{suc, zero}
use Rattle.std.specs.List.{flat_map}
use Rattle.csv_sets.specs.Written.{written_text}
use Rattle.outside_ports.specs.Files.{Stored}
use Rattle.roster_texts.specs.Digits.{four, three}
use Rattle.roster_values.specs.Kinds.{all_kinds, file_of}
use Rattle.roster_values.specs.declared.kind.Kind.{Kind}
use Rattle.roster_values.specs.declared.kind.Kind.TheVariants.{AcademicSessions, Categories, Classes, Courses}
use Rattle.roster_values.specs.declared.kind.Kind.TheVariants.{Enrollments, Orgs, Users}
use Rattle.made_districts.specs.declared.rows.Part.{Part}
use Rattle.made_districts.specs.declared.rows.Part.TheVariants as part

-- pieces, one behind another
abbrev pub joined : List (List ℕ) → List ℕ
joined pieces = flat_map (λ piece. piece) pieces

-- ---- a school

-- `s` and the school's number in four digits
abbrev pub school_id : ℕ → List ℕ
school_id number = codes "s" ++ four number

-- the number of a student in three digits
abbrev pub student_number : ℕ → List ℕ
student_number number = three number

-- the line of a school
abbrev pub org_line : List ℕ → ℕ → List ℕ
org_line id number = joined (id ∷ codes ",,,School " ∷ decimal number ∷ codes ",school,d\n" ∷ [])

-- the line of a school's one course
abbrev pub course_line : List ℕ → List ℕ
course_line id = joined (id ∷ codes "-c,,,Course," ∷ id ∷ codes "\n" ∷ [])

-- the line of a class of the course
abbrev pub class_line : List ℕ → List ℕ → List ℕ
class_line id number =
    joined (id ∷ codes "-k" ∷ number ∷ codes ",,,Class " ∷ number ∷ codes ","
    ∷ id ∷ codes "-c,scheduled," ∷ id ∷ codes ",t\n" ∷ [])

-- the numbers of its two classes
abbrev pub first_class : List ℕ
first_class = codes "1"

abbrev pub second_class : List ℕ
second_class = codes "2"

-- the lines of those classes
abbrev pub class_lines : List ℕ → List ℕ
class_lines id = class_line id first_class ++ class_line id second_class

-- the line of a user
abbrev pub user_line : List ℕ → List ℕ → List ℕ → List ℕ
user_line school id role =
    joined (id ∷ codes ",,,true," ∷ school ∷ codes "," ∷ role ∷ codes "," ∷ id ∷ codes ",Given,Family\n" ∷ [])

-- the line of a school's one teacher
abbrev pub teacher_line : List ℕ → List ℕ
teacher_line school = user_line school (joined (school ∷ codes "-t" ∷ [])) (codes "teacher")

-- the line of a student
abbrev pub student_line : List ℕ → List ℕ → List ℕ
student_line school number = user_line school (joined (school ∷ codes "-u" ∷ number ∷ [])) (codes "student")

-- odd students are in the first class, and even ones in the second
abbrev pub class_of : ℕ → List ℕ
class_of student = if student % 2 == 1 then first_class else second_class

-- the line of a student's enrollment in a class
abbrev pub enrolled_line : List ℕ → List ℕ → List ℕ → List ℕ
enrolled_line school number class =
    joined (school ∷ codes "-e" ∷ number ∷ codes ",,," ∷ school ∷ codes "-k" ∷ class ∷ codes ","
    ∷ school ∷ codes "," ∷ school ∷ codes "-u" ∷ number ∷ codes ",student\n" ∷ [])

-- the line of the teacher's enrollment in a class
abbrev pub teaching_line : List ℕ → List ℕ → List ℕ
teaching_line school class =
    joined (school ∷ codes "-f" ∷ class ∷ codes ",,," ∷ school ∷ codes "-k" ∷ class ∷ codes ","
    ∷ school ∷ codes "," ∷ school ∷ codes "-t,teacher\n" ∷ [])

-- the teacher is in both classes
abbrev pub teaching_lines : List ℕ → List ℕ
teaching_lines school = teaching_line school first_class ++ teaching_line school second_class

-- the line of a student among the users, or else among the enrollments
abbrev pub of_student : Bool → List ℕ → ℕ → List ℕ
of_student true school number = student_line school (student_number number)
of_student false school number = enrolled_line school (student_number number) (class_of number)

-- the numbers from 1 to the last
abbrev pub numbers_to : ℕ → List ℕ
numbers_to zero = []
numbers_to (suc n) = numbers_to n ++ suc n ∷ []

-- how many students a school has
abbrev pub students : ℕ
students = 100

-- those lines of the students of a school
unfoldable pub student_lines : Bool → List ℕ → List ℕ
student_lines is_user school = flat_map (of_student is_user school) (numbers_to students)

-- the lines of a school's users
abbrev pub user_lines : List ℕ → List ℕ
user_lines school = teacher_line school ++ student_lines true school

-- the lines of a school's enrollments
abbrev pub enrollment_lines : List ℕ → List ℕ
enrollment_lines school = student_lines false school ++ teaching_lines school

-- what stands in a file for a school, by its id and its number
abbrev pub part_lines : Part → List ℕ → ℕ → List ℕ
part_lines part.Org id number = org_line id number
part_lines part.Course id number = course_line id
part_lines part.Classes id number = class_lines id
part_lines part.Users id number = user_lines id
part_lines part.Enrollments id number = enrollment_lines id

-- what stands in a file for the school of a number
abbrev pub school_lines : Part → ℕ → List ℕ
school_lines part number = part_lines part (school_id number) number

-- ---- the files

-- a header, perhaps with rows behind it, and the lines of each school
abbrev pub by_school : Part → List ℕ → ℕ → List ℕ
by_school part head count = head ++ flat_map (school_lines part) (numbers_to count)

-- the columns with which the header of each file begins
abbrev pub first_columns : List ℕ
first_columns = codes "sourcedId,status,dateLastModified,"

-- the bytes of a kind's file
unfoldable pub file_bytes : Kind → ℕ → List ℕ
file_bytes Orgs count = by_school part.Org (first_columns ++ codes "name,type,parentSourcedId\nd,,,District,district,\n") count
file_bytes AcademicSessions count = first_columns ++ codes "title,type,startDate,endDate,parentSourcedId,schoolYear\ny,,,Year,schoolYear,2024-08-01,2025-06-30,,2025\nt,,,Fall,term,2024-08-01,2024-12-20,y,2025\n"
file_bytes Courses count = by_school part.Course (first_columns ++ codes "title,orgSourcedId\n") count
file_bytes Classes count = by_school part.Classes (first_columns ++ codes "title,courseSourcedId,classType,schoolSourcedId,termSourcedIds\n") count
file_bytes Users count = by_school part.Users (first_columns ++ codes "enabledUser,orgSourcedIds,role,username,givenName,familyName\n") count
file_bytes Enrollments count = by_school part.Enrollments (first_columns ++ codes "classSourcedId,schoolSourcedId,userSourcedId,role\n") count
file_bytes Categories count = first_columns ++ codes "title\nhw,,,Homework\n"
file_bytes kind count = written_text kind []

-- the folder of the set
abbrev pub dir : List ℕ
dir = codes "gen"

-- the file of a kind in the set
abbrev pub kind_file : ℕ → Kind → Stored
kind_file count kind = record { dir = dir; name = file_of kind; bytes = file_bytes kind count }

-- the file of grants: one caller, which may read the roster and the gradebook of every school
abbrev pub grants_file : Stored
grants_file = record { dir = []; name = codes "grants.csv"; bytes = codes "caller,token,scopes,schools\ncopy,make,roster.readonly gradebook.readonly,*\n" }

-- the manifest of the set, with a file of each kind
abbrev pub manifest_file : Stored
manifest_file = record { dir = dir; name = codes "manifest.csv"; bytes = codes "propertyName,value\nmanifest.version,1.0\noneroster.version,1.1\nfile.orgs,bulk\nfile.academicSessions,bulk\nfile.courses,bulk\nfile.classes,bulk\nfile.users,bulk\nfile.enrollments,bulk\nfile.demographics,bulk\nfile.categories,bulk\nfile.lineItems,bulk\nfile.results,bulk\nfile.resources,bulk\nfile.classResources,bulk\nfile.courseResources,bulk\n" }

-- a file of grants, and the set of a district: a manifest and a file for each kind
abbrev pub made_files : ℕ → List Stored
made_files count = grants_file ∷ manifest_file ∷ map (kind_file count) all_kinds
