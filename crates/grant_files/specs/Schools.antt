-- The schools of a cell.
use Rattle.std.specs.Prelude.{ℕ, ◌==◌, List, Option, None, Some, Result, Ok, Err, bytes_eq, codes, length}
use Rattle.std.specs.Prelude.{if◌then◌else◌}
use Rattle.grant_files.specs.declared.schools.School.{School}
use Rattle.grant_scopes.specs.declared.schools.Schools.{Schools}
use Rattle.grant_scopes.specs.declared.schools.Schools.TheVariants.{All, Listed}
use Rattle.roster_base.specs.Order.{in_order}
use Rattle.roster_texts.specs.declared.fault.ValueFault.{ValueFault}
use Rattle.roster_values.specs.Lists.{ids_of}

-- the school of an id
abbrev pub school_of : List ℕ → School
school_of id = record { id = id }

-- the id of a school
abbrev pub id_in : School → List ℕ
id_in school = school.id

-- the schools of these ids in ascending order, each once, if there is one
abbrev pub listed : List (List ℕ) → Option Schools
listed ids = if length ids == 0 then None else Some (Listed (in_order (λ id. id) ids))

-- the same of a list that was read: of one with a bad id there are no schools, and its fault is not told
abbrev pub listed_if_good : Result (List (List ℕ)) ValueFault → Option Schools
listed_if_good (Ok ids) = listed ids
listed_if_good (Err fault) = None

-- the schools that a cell names: every one, or those of a list that isn't empty
unfoldable pub schools_of : List ℕ → Option Schools
schools_of text = if bytes_eq text (codes "*") then Some All else listed_if_good (ids_of text)
