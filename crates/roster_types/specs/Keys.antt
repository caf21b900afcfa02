-- Rows as one list in the order of kinds and ids, which is a finite map from kind and id to row.
use Rattle.std.specs.Prelude.{ℕ, ◌&&◌, ◌==◌, Bool, true, IsTrue, List, Option, None, Some, count_by, find, map}
use Rattle.std.specs.Cmp.Lexicographic.{slice_cmp}
use Rattle.std.specs.FinMap as fin_map
use Rattle.std.specs.Ordering.{is_lt, nat_cmp, ordering_then}
use Rattle.std.specs.declared.cmp.Ordering.{Ordering}
use Rattle.roster_values.specs.declared.kind.Kind.{Kind}
use Rattle.roster_values.specs.Kinds.{place_of_kind}
use Rattle.roster_types.specs.Records.{Record}

-- the place of a kind and the bytes of an id
abbrev pub Key : Type 0
Key = ℕ × List ℕ

-- by kind, and then by the bytes of the id
unfoldable pub key_cmp : Key → Key → Ordering
key_cmp a b = ordering_then (nat_cmp a.0 b.0) (slice_cmp nat_cmp a.1 b.1)

-- each item under its key
abbrev pub keyed : {X : Type 0} → (X → Key) → List X → List (Key × X)
keyed key xs = map (λ x. (key x, x)) xs

-- the item that has the key
abbrev pub look_up : {X : Type 0} → (X → Key) → Key → List X → Option X
look_up key k xs = fin_map.find key_cmp k (keyed key xs)

-- each key is below those after it
abbrev pub Ascends : {X : Type 0} → (X → Key) → List X → Type 0
Ascends key xs = IsTrue (fin_map.is_sorted key_cmp (keyed key xs))

-- the key of a row
abbrev pub row_key : Record → Key
row_key row = (place_of_kind row.kind, row.id)

-- a row is of the kind
abbrev pub is_of_kind : Kind → Record → Bool
is_of_kind kind row = place_of_kind row.kind == place_of_kind kind

-- the id is above another, where there is one
abbrev pub is_after : Option (List ℕ) → List ℕ → Bool
is_after None id = true
is_after (Some after) id = is_lt (slice_cmp nat_cmp after id)

-- the first row of the kind whose id is above `after`
abbrev pub next_of : Kind → Option (List ℕ) → List Record → Option Record
next_of kind after rows = find (λ row. is_of_kind kind row && is_after after row.id) rows

-- how many rows are of the kind
abbrev pub count_of : Kind → List Record → ℕ
count_of kind rows = count_by (is_of_kind kind) rows
