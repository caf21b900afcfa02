-- What the fields of rows refer to.
use Rattle.std.specs.Prelude.{ℕ, ◌&&◌, Bool, List, [], ◌∷◌, Option, None, Some, bytes_eq, find, slice_index_or}
use Rattle.std.specs.List.{list_any}
use Rattle.roster_types.specs.Keys.{is_after, is_of_kind}
use Rattle.roster_types.specs.Records.{Record, all_values, field_of}
use Rattle.roster_values.specs.declared.kind.Kind.{Kind}
use Rattle.roster_values.specs.declared.value.Value.{Value}
use Rattle.roster_values.specs.declared.value.Value.TheVariants.{Ref, Refs}

abbrev pub is_one_of : List (List ℕ) → List ℕ → Bool
is_one_of ids id = list_any (λ other. bytes_eq other id) ids

abbrev pub refs_in : Option Value → List (List ℕ)
refs_in (Some (Ref id)) = id ∷ []
refs_in (Some (Refs ids)) = ids
refs_in _ = []

-- the ids that a field names
abbrev pub named_in : List ℕ → Record → List (List ℕ)
named_in field row = refs_in (field_of row field)

-- the field names the id
abbrev pub names : List ℕ → List ℕ → Record → Bool
names field id row = is_one_of (named_in field row) id

-- the field at a place names the id
abbrev pub names_at : ℕ → List ℕ → Record → Bool
names_at place id row = is_one_of (refs_in (slice_index_or (all_values row) place None)) id

-- a row of the kind whose field names the id
abbrev pub refers : Kind → List ℕ → List ℕ → Record → Bool
refers kind field id row = is_of_kind kind row && names field id row

-- the first row of the kind whose field names the id and whose own id is above `after`
abbrev pub next_referring : Kind → List ℕ → List ℕ → Option (List ℕ) → List Record → Option Record
next_referring kind field id after rows = find (λ row. refers kind field id row && is_after after row.id) rows
