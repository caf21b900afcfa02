-- An index of references: for fields and ids the ids of the rows that name them there.
use Rattle.std.specs.Prelude.{◌≡◌, ◌&&◌, ◌≤◌, ℕ, Bool, true, false, not, List, [], Option, None, Some, bytes_eq}
use Rattle.std.specs.Prelude.{if◌then◌else◌, length, option_and_then}
use Rattle.std.specs.Cmp.Lexicographic.{slice_cmp}
use Rattle.std.specs.List.{AllByRecursion, AllWithin, list_any, sum_by}
use Rattle.std.specs.List.Sorted.{IsSortedBy}
use Rattle.std.specs.Option.{option_map_or}
use Rattle.std.specs.Ordering.{is_eq, is_gt, is_lt, nat_cmp, ordering_then}
use Rattle.std.specs.declared.cmp.Ordering.{Ordering}
use Rattle.roster_types.specs.Keys.{Key, look_up, row_key}
use Rattle.roster_types.specs.Records.{Record, place_in}
use Rattle.roster_values.specs.Kinds.{place_of_kind}
use Rattle.roster_values.specs.Table.{table}
use Rattle.version_core.specs.Changes.{rows_of}
use Rattle.version_core.specs.History.{Past, past_key, past_of, rows_at}
use Rattle.version_core.specs.References.{names, names_at}
use Rattle.version_core.specs.Since.{some_from}
use Rattle.version_core.specs.declared.history.History.{History}
use Rattle.version_core.specs.declared.ref_index.RefEntry.{RefEntry}

-- a kind and a field of it by their places, and an id that the field names
abbrev pub Named : Type 0
Named = ℕ × ℕ × List ℕ

abbrev pub named_by : RefEntry → Named
named_by entry = (place_of_kind entry.kind, entry.place, entry.target)

abbrev pub named_cmp : Named → Named → Ordering
named_cmp a b = ordering_then (ordering_then (nat_cmp a.0 b.0) (nat_cmp a.1 b.1)) (slice_cmp nat_cmp a.2 b.2)

-- what is named, with the id of the row that names it
abbrev pub Naming : Type 0
Naming = Named × List ℕ

abbrev pub naming_of : RefEntry → Naming
naming_of entry = (named_by entry, entry.id)

unfoldable pub naming_cmp : Naming → Naming → Ordering
naming_cmp a b = ordering_then (named_cmp a.0 b.0) (slice_cmp nat_cmp a.1 b.1)

-- the entry is one of a named id
unfoldable pub is_of : Named → RefEntry → Bool
is_of named entry = is_eq (named_cmp (named_by entry) named)

-- the entry stands at a named id or above, and there above the id `after`
unfoldable pub is_from : Named → Option (List ℕ) → RefEntry → Bool
is_from named None entry = not (is_lt (naming_cmp (naming_of entry) (named, [])))
is_from named (Some after) entry = is_gt (naming_cmp (naming_of entry) (named, after))

abbrev pub AreInOrder : List RefEntry → Type 0
AreInOrder entries = IsSortedBy (λ a b. is_lt (naming_cmp (naming_of a) (naming_of b))) entries

-- the row, where it passes
abbrev pub passing : (Record → Bool) → Option Record → Option Record
passing test row = option_and_then (λ r. if test r then Some r else None) row

-- the row under a key stands and passes
abbrev pub passes_at : (Record → Bool) → List Record → Key → Bool
passes_at test rows key = option_map_or test (look_up row_key key rows) false

-- an entry of a named id has no row that passes
abbrev pub Fails : (Record → Bool) → List Record → Named → RefEntry → Type 0
Fails test rows named entry = is_of named entry ≡ true → passes_at test rows (named.0, entry.id) ≡ false

-- an entry of a named id has no row that passes, or one whose id isn't below another
abbrev pub IsNotBelow : (Record → Bool) → List Record → Named → List ℕ → RefEntry → Type 0
IsNotBelow test rows named id entry =
    is_of named entry ≡ true → passes_at test rows (named.0, entry.id) ≡ true → is_lt (slice_cmp nat_cmp entry.id id) ≡ false

-- the row stands and passes, and none of those that pass has a lesser id
pub record IsFirst (test : Record → Bool) (rows : List Record) (named : Named) (all : (RefEntry → Type 0) → Type 0) (row : Record) : Type 0 where
  pub stands : look_up row_key (named.0, row.id) rows ≡ Some row
  pub passes : test row ≡ true
  pub least : all (IsNotBelow test rows named row.id)

-- the first row that passes among those of a named id's entries, if there is one
abbrev pub FirstOf : (Record → Bool) → List Record → Named → ((RefEntry → Type 0) → Type 0) → Option Record → Type 0
FirstOf test rows named all None = all (Fails test rows named)
FirstOf test rows named all (Some row) = IsFirst test rows named all row

-- each of the entries has a property
abbrev pub AllOf : List RefEntry → (RefEntry → Type 0) → Type 0
AllOf entries P = AllWithin P entries 0 (length entries)

-- an entry says that the row names the id in the field at the place
abbrev pub is_entry_of : Named → List ℕ → RefEntry → Bool
is_entry_of named id entry = is_of named entry && bytes_eq entry.id id

-- each entry of the first runs has a property
abbrev pub AllUpTo : List (List RefEntry) → ℕ → (RefEntry → Type 0) → Type 0
AllUpTo runs count P = AllWithin (λ entries. AllOf entries P) runs 0 count

-- of two rows the one with the lesser id
abbrev pub lesser : Option Record → Option Record → Option Record
lesser None other = other
lesser (Some one) None = Some one
lesser (Some one) (Some other) = if is_lt (slice_cmp nat_cmp other.id one.id) then Some other else Some one

-- each id that the field of that name names in a row has its entry
abbrev pub IsNameIndexed : List (List RefEntry) → Record → List ℕ → Type 0
IsNameIndexed runs row name =
    (target : List ℕ) (place : ℕ) → place_in (table row.kind) name ≡ Some place → names name target row ≡ true
    → list_any (list_any (is_entry_of (place_of_kind row.kind, place, target) row.id)) runs ≡ true

-- each id that a field of the row names has its entry
abbrev pub IsIndexed : List (List RefEntry) → Record → Type 0
IsIndexed runs row = (name : List ℕ) → IsNameIndexed runs row name

-- what is indexed by one is indexed by the other
abbrev pub Keeps : List (List RefEntry) → List (List RefEntry) → Type 0
Keeps old new = (p : RefEntry → Bool) → list_any (list_any p) old ≡ true → list_any (list_any p) new ≡ true

-- each of the rows is indexed
abbrev pub AreIndexed : List (List RefEntry) → List Record → Type 0
AreIndexed runs rows = (row : Record) → look_up row_key (row_key row) rows ≡ Some row → IsIndexed runs row

-- each row of histories is indexed
abbrev pub ArePastsIndexed : List (List RefEntry) → List History → Type 0
ArePastsIndexed runs histories = AllWithin (λ history. AllWithin (λ entry. IsIndexed runs entry.value.row) (past_of history) 0 (length (past_of history))) histories 0 (length histories)

-- a row that stands at a version from this one on names what the entry says
abbrev pub is_kept : ℕ → List Past → RefEntry → Bool
is_kept oldest pasts entry = option_map_or (some_from oldest (λ change. names_at entry.place entry.target change.row)) (look_up past_key (place_of_kind entry.kind, entry.id) pasts) false

-- the same as a proposition, with the version and the row
abbrev pub IsKept : ℕ → List Past → RefEntry → Type 0
IsKept oldest pasts entry =
    (version : ℕ) × (row : Record) × (oldest ≤ version) × (look_up row_key (place_of_kind entry.kind, entry.id) (rows_of (rows_at version pasts)) ≡ Some row) × (names_at entry.place entry.target row ≡ true)

abbrev pub AreKept : ℕ → List Past → List (List RefEntry) → Type 0
AreKept oldest pasts runs = AllByRecursion (AllByRecursion (IsKept oldest pasts)) runs

-- the rows of each version from the oldest on that are indexed by one are indexed by the other
abbrev pub StayIndexed : ℕ → List Past → List (List RefEntry) → List (List RefEntry) → Type 0
StayIndexed oldest pasts old new = (version : ℕ) → oldest ≤ version → AreIndexed old (rows_of (rows_at version pasts)) → AreIndexed new (rows_of (rows_at version pasts))

-- how many entries runs have
abbrev pub size : List (List RefEntry) → ℕ
size runs = sum_by length runs
