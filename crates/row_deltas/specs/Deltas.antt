-- What differs between two lists of the rows of a kind.
use Rattle.std.specs.Prelude.{ℕ, Bool, false, not, List, [], ◌∷◌, ◌++◌, Option, Some, None, bytes_eq, filter}
use Rattle.std.specs.Prelude.{◌≡◌, true, drop, if◌then◌else◌, is_none, map}
use Rattle.std.specs.List.{AllByRecursion, list_any}
use Rattle.std.specs.Option.{option_map_or, option_to_list}
use Rattle.roster_types.specs.Keys.{Key, is_of_kind, look_up, row_key}
use Rattle.roster_types.specs.Records.{Record}
use Rattle.roster_values.specs.declared.kind.Kind.{Kind}
use Rattle.row_deltas.specs.Sameness.{same_row}
use Rattle.row_deltas.specs.declared.entry.DeltaEntry.{DeltaEntry}
use Rattle.row_deltas.specs.declared.entry.DeltaEntry.TheVariants.{Put, Gone}
use Rattle.version_core.specs.Order.{overlaid, put}
use Rattle.version_core.specs.Spans.{key_in}

-- each row is of the kind
abbrev pub AreOf : Kind → List Record → Type 0
AreOf kind rows = AllByRecursion (λ row. is_of_kind kind row ≡ true) rows

-- the key of the row of which an entry of a kind speaks
abbrev pub entry_key : Kind → DeltaEntry → Key
entry_key kind (Put row) = row_key row
entry_key kind (Gone id) = key_in kind id

-- the row stands among others just so
abbrev pub stands_in : List Record → Record → Bool
stands_in rows row = option_map_or (same_row row) (look_up row_key (row_key row) rows) false

-- no row among others has its id
abbrev pub is_lacking : List Record → Record → Bool
is_lacking rows row = is_none (look_up row_key (row_key row) rows)

-- the entry for a row that is gone
abbrev pub gone_entry : Record → DeltaEntry
gone_entry row = Gone row.id

-- in order of id, an entry for each row of the new list that the old one lacks or has otherwise, and one for the id of
-- each row of the old list that the new one lacks
unfoldable pub delta_of : Kind → List Record → List Record → List DeltaEntry
delta_of kind old new =
    overlaid (entry_key kind) (map Put (filter (λ row. not (stands_in old row)) new)) (map gone_entry (filter (is_lacking new) old))

-- what differs of one key, by what stands under it in the old list and in the new one
abbrev pub difference : Option Record → Option Record → Option DeltaEntry
difference None None = None
difference None (Some new) = Some (Put new)
difference (Some old) None = Some (Gone old.id)
difference (Some old) (Some new) = if same_row new old then None else Some (Put new)

-- what differs of the rows that have these ids
abbrev pub entries_at : Kind → List Record → List Record → List (List ℕ) → List DeltaEntry
entries_at kind old new [] = []
entries_at kind old new (id ∷ ids) =
    option_to_list (difference (look_up row_key (key_in kind id) old) (look_up row_key (key_in kind id) new)) ++ entries_at kind old new ids

-- the ids have those of all rows that differ: under each other key both lists have the same
abbrev pub Cover : Kind → List Record → List Record → List (List ℕ) → Type 0
Cover kind old new ids = (k : Key) → look_up (key_in kind) k ids ≡ None → look_up row_key k old ≡ look_up row_key k new

-- the rows that are left of a list, of which the first is passed or not
abbrev pub passed : Bool → List Record → List Record
passed is_passed rows = if is_passed then drop 1 rows else rows

-- the rows without one that has the id
abbrev pub without : List ℕ → List Record → List Record
without id rows = filter (λ row. not (bytes_eq row.id id)) rows

-- what one entry makes of rows
abbrev pub applied_entry : DeltaEntry → List Record → List Record
applied_entry (Put row) rows = put row_key row rows
applied_entry (Gone id) rows = without id rows

-- what entries make of rows
abbrev pub applied : List DeltaEntry → List Record → List Record
applied [] rows = rows
applied (entry ∷ entries) rows = applied_entry entry (applied entries rows)

-- the rows that are put
abbrev pub rows_put : List DeltaEntry → List Record
rows_put [] = []
rows_put (Put row ∷ entries) = row ∷ rows_put entries
rows_put (Gone id ∷ entries) = rows_put entries

-- the ids that are gone
abbrev pub ids_gone : List DeltaEntry → List (List ℕ)
ids_gone [] = []
ids_gone (Put row ∷ entries) = ids_gone entries
ids_gone (Gone id ∷ entries) = id ∷ ids_gone entries

-- the rows of a list that aren't gone, with those that are put in their places
unfoldable pub merged : List Record → List Record → List (List ℕ) → List Record
merged held puts gone = overlaid row_key (filter (λ row. not (list_any (bytes_eq row.id) gone)) held) puts
