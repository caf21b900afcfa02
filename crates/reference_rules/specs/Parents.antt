-- Chains of parents: each org and each session may name one above it.
use Rattle.std.specs.Prelude.{◌≡◌, ℕ, zero, suc, ◌<◌, ◌≤◌, Bool, false, ◌||◌, List, Option, Some, None, codes, bytes_eq}
use Rattle.std.specs.Prelude.{option_and_then, slice_get}
use Rattle.roster_types.specs.Keys.{count_of, look_up, row_key}
use Rattle.roster_types.specs.Records.{Record, field_of}
use Rattle.roster_values.specs.declared.kind.Kind.{Kind}
use Rattle.roster_values.specs.declared.value.Value.{Value}
use Rattle.roster_values.specs.declared.value.Value.TheVariants.{Ref}
use Rattle.roster_values.specs.Kinds.{place_of_kind}
use denote.Ref.{Bor}

abbrev pub ref_in : Option Value → Option (List ℕ)
ref_in (Some (Ref id)) = Some id
ref_in _ = None

-- the parent that a row names
abbrev pub parent_in : Record → Option (List ℕ)
parent_in row = ref_in (field_of row (codes "parent"))

-- the parent that the row of this kind and id names
abbrev pub parent_of : List Record → Kind → List ℕ → Option (List ℕ)
parent_of rows kind id = option_and_then parent_in (look_up row_key (place_of_kind kind, id) rows)

-- the parent of the parent and so on, n times
abbrev pub nth_parent : List Record → Kind → List ℕ → ℕ → Option (List ℕ)
nth_parent rows kind id zero = Some id
nth_parent rows kind id (suc n) = option_and_then (parent_of rows kind) (nth_parent rows kind id n)

-- the first of these ids is the id itself, the next is its parent, and so on
abbrev pub ArePassed : List Record → Kind → List ℕ → List (Bor (List ℕ)) → Type 0
ArePassed rows kind id passed = (n : ℕ) (at : Bor (List ℕ)) → slice_get passed n ≡ Some at → nth_parent rows kind id n ≡ Some at.now

-- the id is its own n-th parent, for some n from 1 to the number of rows of its kind
abbrev pub IsInCycle : List Record → Kind → List ℕ → Type 0
IsInCycle rows kind id = (n : ℕ) × (0 < n) × (n ≤ count_of kind rows) × (nth_parent rows kind id n ≡ Some id)

abbrev pub is_id : List ℕ → Option (List ℕ) → Bool
is_id id None = false
is_id id (Some other) = bytes_eq other id

-- whether the id is its own n-th parent, for some n from 1 to `turns`
abbrev pub returns_within : List Record → Kind → List ℕ → ℕ → Bool
returns_within rows kind id zero = false
returns_within rows kind id (suc n) = returns_within rows kind id n || is_id id (nth_parent rows kind id (suc n))

abbrev pub is_in_cycle : List Record → Kind → List ℕ → Bool
is_in_cycle rows kind id = returns_within rows kind id (count_of kind rows)
