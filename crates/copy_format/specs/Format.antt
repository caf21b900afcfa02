-- The items in which a copy is kept.
use Rattle.std.specs.Prelude.{◌≡◌, ◌<◌, ◌≤◌, ◌^◌, ◌+◌, ◌-◌, ◌*◌, ℕ, List, [], ◌∷◌, ◌++◌, Ok, Option, None, Some, IfSome}
use Rattle.std.specs.Prelude.{get_or, length, map, option_map}
use Rattle.std.specs.FinMap.{from_entries}
use Rattle.std.specs.List.{AllByRecursion}
use Rattle.std.specs.Option.{option_map_or}
use Rattle.std.specs.Str.{IsUtf8}
use Rattle.keeper_memory.specs.copy.Copies.{Copy, Held, IsCopy, IsOutWrite, Stage, held_list, held_token}
use Rattle.keeper_memory.specs.copy.States.{state_of}
use Rattle.keeper_memory.specs.declared.copy.entry.OutEntry.{OutEntry}
use Rattle.keeper_memory.specs.declared.copy.entry.Settled.{Settled}
use Rattle.keeper_memory.specs.declared.copy.state.StageState.{StageState}
use Rattle.hub_format.specs.Format.{Entry, first_format, format_entry, written_format}
use Rattle.hub_format.specs.Pieces.{IsSized, number}
use Rattle.item_maps.specs.Items.{Items}
use Rattle.roster_types.specs.Records.{Record}
use Rattle.roster_values.specs.Kinds.{place_of_kind}
use Rattle.roster_values.specs.declared.kind.Kind.{Kind}
use Rattle.row_json.specs.Json.{single_text}
use Rattle.row_json.specs.Reading.{row_of}
use Rattle.copy_format.specs.Bodies.{out_body, row_body, stage_body, state_body}

-- rows stand on two sides, 0 and 1: those that are held on one of them, those that are staged on the other
abbrev pub other_side : ℕ → ℕ
other_side side = 1 - side

-- the area of a kind's rows
abbrev pub row_area : ℕ → Kind → ℕ
row_area side kind = 32 + 32 * side + place_of_kind kind

-- the rows of a kind that are staged; none where there is no stage
abbrev pub staged_list : Copy → Kind → List Record
staged_list c kind = option_map_or (λ s. get_or (s.done ++ s.present ∷ []) (place_of_kind kind) []) c.stage []

-- ---- the entries of each area

abbrev pub state_entry : ℕ → Copy → Entry
state_entry side c = ([], state_body c.run (option_map (λ h. h.version) c.held) side c.last_number)

abbrev pub stage_entries : Option Stage → List Entry
stage_entries None = []
stage_entries (Some s) = ([], stage_body (state_of s)) ∷ []

-- the token under which what is held was copied
abbrev pub token_entries : Option (List ℕ) → List Entry
token_entries None = []
token_entries (Some token) = ([], token) ∷ []

abbrev pub out_entry : OutEntry → Entry
out_entry entry = (number entry.number, out_body entry)

abbrev pub row_entry : Record → Entry
row_entry row = (row.id, row_body row)

abbrev pub rows_under : List Record → List Entry
rows_under rows = map row_entry rows

-- items of this format in which a copy is kept, whose held rows stand on this side; `Areas` has the numbers of the
-- areas
pub record AreItemsOf (form side : ℕ) (c : Copy) (items : Items) : Type 0 where
  pub low : side ≤ 1
  pub format : items 0 ≡ from_entries (format_entry form ∷ [])
  pub state : items 1 ≡ from_entries (state_entry side c ∷ [])
  pub stage : items 2 ≡ from_entries (stage_entries c.stage)
  pub entries : items 3 ≡ from_entries (map out_entry c.entries)
  pub token : items 4 ≡ from_entries (token_entries (held_token c))
  pub held : (kind : Kind) → items (row_area side kind) ≡ from_entries (rows_under (held_list c kind))
  pub staged : (kind : Kind) → items (row_area (other_side side) kind) ≡ from_entries (rows_under (staged_list c kind))

-- ---- what is asked of values beyond what their types keep, for them to be found again

pub record FitsRow (row : Record) : Type 0 where
  pub id : IsUtf8 row.id
  pub short : IsSized row.id
  pub text : IsSized (single_text None row)
  pub back : row_of row.kind (single_text None row) ≡ Ok row

abbrev pub FitRows : List Record → Type 0
FitRows rows = AllByRecursion FitsRow rows

-- a number that stands in its bytes
abbrev pub IsSmall : ℕ → Type 0
IsSmall n = n < 2 ^ 64

abbrev pub FitsSettled : Settled → Type 0
FitsSettled s = IsSmall s.status × IsSmall s.version

pub record FitsOut (entry : OutEntry) : Type 0 where
  pub id : IsSized entry.write.id
  pub settled : IfSome entry.settled FitsSettled

pub record FitsStage (s : Stage) : Type 0 where
  pub token : IsSized s.token
  pub done : AllByRecursion FitRows s.done
  pub present : FitRows s.present
  pub staged : IsSmall (length s.present)
  pub total : IfSome s.total IsSmall

abbrev pub FitsHeld : Held → Type 0
FitsHeld h = AllByRecursion FitRows h.lists

pub record Fit (c : Copy) : Type 0 where
  pub held : IfSome c.held FitsHeld
  pub stage : IfSome c.stage FitsStage
  pub entries : AllByRecursion FitsOut c.entries

-- the small part of a stage
pub record FitsSmall (s : StageState) : Type 0 where
  pub pin : IsSmall s.pin
  pub token : IsSized s.token
  pub staged : IsSmall s.staged
  pub total : IfSome s.total IsSmall
  pub last : IfSome s.last IsSized

-- an entry of a copy
pub record IsOut (entry : OutEntry) : Type 0 where
  pub number : IsSmall entry.number
  pub write : IsOutWrite entry.write
  pub fits : FitsOut entry

-- a row of a kind
pub record IsRowOf (kind : Kind) (row : Record) : Type 0 where
  pub same : row.kind ≡ kind
  pub fits : FitsRow row

-- items that keep a copy, in format 2
pub record Keep (items : Items) (c : Copy) : Type 0 where
  pub side : ℕ
  pub stored : AreItemsOf written_format side c items
  pub is : IsCopy c
  pub fit : Fit c

-- items that keep a copy in format 1, which knew no token
pub record KeepOne (items : Items) (c : Copy) : Type 0 where
  pub side : ℕ
  pub stored : AreItemsOf first_format side c items
  pub none : held_token c ≡ None
  pub is : IsCopy c
  pub fit : Fit c
