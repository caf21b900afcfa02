-- What is found on the way to the changes.
use Rattle.std.specs.Prelude.{ℤ, Bool, List, Option, Some, None, is_some, option_map, option_to_list, if◌then◌else◌}
use Rattle.std.specs.List.{flat_map}
use Rattle.roster_types.specs.Keys.{Key, look_up, row_key}
use Rattle.roster_types.specs.Records.{Record}
use Rattle.roster_types.specs.declared.set_row.SetRow.{SetRow}
use Rattle.version_changes.specs.sets.Applying.{is_active, set_key}
use Rattle.bulk_export.specs.Changes.{is_as_before, marked}
use Rattle.bulk_export.specs.declared.earlier.EarlierRow.{EarlierRow}

-- the row as it lies in the set
abbrev pub set_row : EarlierRow → SetRow
set_row earlier = earlier.listed.now

abbrev pub earlier_key : EarlierRow → Key
earlier_key earlier = set_key (set_row earlier)

-- the earlier row of a kind and id
abbrev pub earlier_at : List EarlierRow → Key → Option SetRow
earlier_at rows k = option_map set_row (look_up earlier_key k rows)

-- a held row as it is told, where the earlier set doesn't tell it
abbrev pub new_row : List EarlierRow → Record → Option Record
new_row earlier held = if is_as_before (earlier_at earlier (row_key held)) held then None else Some held

abbrev pub gone_where : ℤ → SetRow → Bool → Option Record
gone_where at earlier is_held =
    if is_active earlier.row.status then (if is_held then None else Some (marked at earlier.row)) else None

-- an earlier row as it is told, where it is active and isn't held
abbrev pub gone_row : ℤ → List Record → SetRow → Option Record
gone_row at held earlier = gone_where at earlier (is_some (look_up row_key (set_key earlier) held))

-- what is told of the items of a list
abbrev pub each_told : {X : Type 0} → (X → Option Record) → List X → List Record
each_told f xs = flat_map (λ x. option_to_list (f x)) xs
