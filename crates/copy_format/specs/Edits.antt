-- The edits of a change.
use Rattle.std.specs.Prelude.{◌<◌, ◌^◌, ◌+◌, ℕ, List, [], ◌∷◌, ◌++◌, Option, None, Some, IfSome, length, map, ⊤}
use Rattle.keeper_memory.specs.copy.Changes.{begun, copy_after}
use Rattle.keeper_memory.specs.copy.Copies.{Copy, first_unsettled, held_token}
use Rattle.keeper_memory.specs.copy.HeldCopy.{empty_copy}
use Rattle.keeper_memory.specs.declared.copy.change.CopyChange.{CopyChange}
use Rattle.keeper_memory.specs.declared.copy.change.CopyChange.TheVariants.{Run, Begin, Page, Drop, Swap, Enter, Settle}
use Rattle.keeper_memory.specs.declared.copy.entry.OutEntry.{OutEntry}
use Rattle.keeper_memory.specs.declared.copy.entry.Settled.{Settled}
use Rattle.hub_format.specs.Edits.{put_at, puts}
use Rattle.hub_format.specs.Format.{format_entry, written_format}
use Rattle.hub_format.specs.Pieces.{IsSized, labels_end}
use Rattle.item_maps.specs.declared.item.Edit.{Edit}
use Rattle.item_maps.specs.declared.item.Edit.TheVariants.{Clear}
use Rattle.roster_values.specs.Kinds.{all_kinds}
use Rattle.roster_values.specs.declared.kind.Kind.{Kind}
use Rattle.copy_format.specs.Areas.{format_area, outbox_area, stage_area, state_area, token_area}
use Rattle.copy_format.specs.Format.{FitRows, FitsSettled, other_side, out_entry, row_area, rows_under, stage_entries}
use Rattle.copy_format.specs.Format.{state_entry, token_entries}

-- the format, and the state of the copy that holds nothing
abbrev pub first_edits : List Edit
first_edits = put_at format_area (format_entry written_format) ∷ put_at state_area (state_entry 0 empty_copy) ∷ []

-- by these items of format 1 become those of format 2: they have no token
abbrev pub turn_edits : List Edit
turn_edits = put_at format_area (format_entry written_format) ∷ []

-- takes away the rows of a kind: all ids stand below the end
abbrev pub clear_rows : ℕ → Kind → Edit
clear_rows side kind = Clear (row_area side kind) [] labels_end

abbrev pub clear_side : ℕ → List Edit
clear_side side = map (clear_rows side) all_kinds

-- takes away the stage, whose rows stand on this side
abbrev pub clear_stage : ℕ → List Edit
clear_stage side = Clear stage_area [] (0 ∷ []) ∷ clear_side side

-- the entry once it is settled
abbrev pub settled_edits : Settled → Option OutEntry → List Edit
settled_edits settled None = []
settled_edits settled (Some entry) = put_at outbox_area (out_entry (record entry { settled = Some settled })) ∷ []

-- by these the items of a copy become those of the copy after the change
abbrev pub edits : ℕ → Copy → CopyChange → List Edit
edits side c (Run run) = put_at state_area (state_entry side (copy_after (Run run) c)) ∷ []
edits side c (Begin pin token) = puts stage_area (stage_entries (Some (begun pin token)))
edits side c (Page kind rows total done) =
    puts stage_area (stage_entries (copy_after (Page kind rows total done) c).stage)
    ++ puts (row_area (other_side side) kind) (rows_under rows)
edits side c Drop = clear_stage (other_side side)
edits side c Swap =
    put_at state_area (state_entry (other_side side) (copy_after Swap c))
    ∷ puts token_area (token_entries (held_token (copy_after Swap c))) ++ clear_stage side
edits side c (Enter number write) =
    put_at outbox_area (out_entry (record { number = number; write = write; settled = None }))
    ∷ put_at state_area (state_entry side (copy_after (Enter number write) c)) ∷ []
edits side c (Settle number status version) =
    settled_edits (record { status = status; version = version }) (first_unsettled c.entries)

-- what is asked of a change for it to be found again
abbrev pub FitsChange : CopyChange → Copy → Type 0
FitsChange (Begin pin token) c = IsSized token
FitsChange (Page kind rows total done) c =
    FitRows rows × (total < 2 ^ 64) × IfSome c.stage (λ s. length s.present + length rows < 2 ^ 64)
FitsChange (Enter number write) c = IsSized write.id
FitsChange (Settle number status version) c = FitsSettled (record { status = status; version = version })
FitsChange change c = ⊤
