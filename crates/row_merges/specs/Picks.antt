-- The first row of two lists.
use Rattle.std.specs.Prelude.{ℕ, ◌&&◌, Bool, true, false, List, [], ◌∷◌, bytes_eq, Option, None, Some}
use Rattle.std.specs.Prelude.{if◌then◌else◌}
use Rattle.std.specs.List.{list_any}
use Rattle.roster_types.specs.Keys.{key_cmp, row_key}
use Rattle.roster_types.specs.Records.{Record}
use Rattle.version_core.specs.Order.{by_order}
use Rattle.row_merges.specs.declared.pick.Picked.{Picked}

-- the first row by id, which list has it, and which have a row with its id in front
pub record Pick : Type 0 where
  pub row : Record
  pub is_held : Bool
  pub in_held : Bool
  pub in_puts : Bool

-- the pick that the code's value stands for
abbrev pub pick_shown : Picked → Pick
pick_shown picked = record { row = picked.row.now; is_held = picked.is_held; in_held = picked.in_held; in_puts = picked.in_puts }

-- the first of two rows; the one that is put where both have one id
abbrev pub pick_of_both : Record → Record → Pick
pick_of_both held put = by_order (key_cmp (row_key held) (row_key put))
    (record { row = held; is_held = true; in_held = true; in_puts = false })
    (record { row = put; is_held = false; in_held = true; in_puts = true })
    (record { row = put; is_held = false; in_held = false; in_puts = true })

-- the first of the rows in front of both lists, where there are any
abbrev pub pick_of : Option Record → Option Record → Option Pick
pick_of None None = None
pick_of (Some row) None = Some (record { row = row; is_held = true; in_held = true; in_puts = false })
pick_of None (Some row) = Some (record { row = row; is_held = false; in_held = false; in_puts = true })
pick_of (Some held) (Some put) = Some (pick_of_both held put)

-- the id is among these
abbrev pub is_gone : List (List ℕ) → Record → Bool
is_gone gone row = list_any (bytes_eq row.id) gone

-- the row that is kept of a pick: a held one that is gone isn't
abbrev pub kept_of : List (List ℕ) → Pick → List Record
kept_of gone pick = if pick.is_held && is_gone gone pick.row then [] else pick.row ∷ []
