-- What differs of the first rows of two lists.
use Rattle.std.specs.Prelude.{Bool, true, false, Option, None, Some, if◌then◌else◌, option_map}
use Rattle.delta_parts.specs.declared.turn.EntryRef.{EntryRef}
use Rattle.delta_parts.specs.declared.turn.EntryRef.TheVariants as lent
use Rattle.delta_parts.specs.declared.turn.Turn.{Turn}
use Rattle.version_core.specs.Order.{by_order}
use Rattle.roster_types.specs.Keys.{key_cmp, row_key}
use Rattle.roster_types.specs.Records.{Record}
use Rattle.row_deltas.specs.Sameness.{same_row}
use Rattle.row_deltas.specs.declared.entry.DeltaEntry.{DeltaEntry}
use Rattle.row_deltas.specs.declared.entry.DeltaEntry.TheVariants.{Put, Gone}

-- the entry that a lent one stands for
abbrev pub entry_shown : EntryRef → DeltaEntry
entry_shown (lent.Put row) = Put row.now
entry_shown (lent.Gone row) = Gone row.now.id

-- what differs of the first row by id, and in which of two lists that row stands
pub record TurnParts : Type 0 where
  pub entry : Option DeltaEntry
  pub is_old : Bool
  pub is_new : Bool

-- the turn that the code's value stands for
abbrev pub turn_shown : Turn → TurnParts
turn_shown turn = record { entry = option_map entry_shown turn.entry; is_old = turn.is_old; is_new = turn.is_new }

-- the turn of a row that stands in the old list alone
abbrev pub turn_of_old : Record → TurnParts
turn_of_old old = record { entry = Some (Gone old.id); is_old = true; is_new = false }

-- the turn of a row that stands in the new list alone
abbrev pub turn_of_new : Record → TurnParts
turn_of_new new = record { entry = Some (Put new); is_old = false; is_new = true }

-- what differs of the first of two rows, or of both where they have one id
abbrev pub turn_of_both : Record → Record → TurnParts
turn_of_both old new = by_order (key_cmp (row_key old) (row_key new))
    (turn_of_old old)
    (record { entry = if same_row new old then None else Some (Put new); is_old = true; is_new = true })
    (turn_of_new new)

-- what differs of the rows in front of both lists, where there are any
abbrev pub turn_of : Option Record → Option Record → Option TurnParts
turn_of None None = None
turn_of (Some old) None = Some (turn_of_old old)
turn_of None (Some new) = Some (turn_of_new new)
turn_of (Some old) (Some new) = Some (turn_of_both old new)
