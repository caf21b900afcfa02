-- What becomes of a gradebook write, by checks in order.
use Rattle.std.specs.Prelude.{◌≡◌, ℕ, ℤ, ◌+◌, ◌==◌, ◌⊎◌, Bool, true, false, List, Option, Some, None, Result, Ok, Err}
use Rattle.std.specs.Prelude.{if◌then◌else◌, option_and_then}
use Rattle.hub_spec.specs.rules.Marked.{same_write}
use Rattle.row_json.specs.Puts.{put_of}
use Rattle.roster_types.specs.Records.{Record, SameButDate}
use Rattle.roster_types.specs.declared.owner.Owner.TheVariants.{Caller}
use Rattle.row_json.specs.declared.fault.JsonFault.{JsonFault}
use Rattle.version_changes.specs.sets.Applying.{is_active, marked}
use Rattle.version_core.specs.Marks.{mark_at}
use Rattle.version_core.specs.Changes.{change_key}
use Rattle.version_core.specs.HubStates.{HubState}
use Rattle.version_core.specs.Order.{put}
use Rattle.version_core.specs.Outcomes.{bad_body_outcome, last_version_outcome, mark_taken_outcome}
use Rattle.version_core.specs.Outcomes.{no_such_object_outcome}
use Rattle.version_core.specs.Version.{empty_version, last_or, last_version}
use Rattle.version_core.specs.declared.change.BaseVersion.{BaseVersion}
use Rattle.version_core.specs.declared.grant_row.GrantRow.{GrantRow}
use Rattle.version_core.specs.declared.mark.Kept.{Kept}
use Rattle.version_core.specs.declared.mark.MarkRow.{MarkRow}
use Rattle.version_core.specs.declared.mark.Write.{Write}
use Rattle.version_core.specs.declared.row_change.RowChange.{RowChange}
use Rattle.hub_spec.specs.rules.Refusals.{delete_refusal, put_refusal, stored_at}

-- a new version, nothing new, what was kept under the mark, or the number of the check that refuses the write
pub data Verdict : Type 0 where
  Leads : BaseVersion → Verdict
  Same : Verdict
  Repeat : Kept → Verdict
  Refused : ℕ → Verdict

-- a row is stored as the next version, unless there is none
abbrev pub leads_with : BaseVersion → ℤ → RowChange → Verdict
leads_with newest at change =
    if newest.number == last_version then Refused last_version_outcome
    else Leads (record newest { number = newest.number + 1; moment = at; rows = put change_key change newest.rows })

-- a put row that equals the stored one in all but the date changes nothing
abbrev pub PutMakes : BaseVersion → ℤ → RowChange → Option RowChange → Verdict → Type 0
PutMakes newest at change None verdict = verdict ≡ leads_with newest at change
PutMakes newest at change (Some stored) verdict =
    (SameButDate change.row stored.row × (verdict ≡ Same)) ⊎ ((SameButDate change.row stored.row → ⊥) × (verdict ≡ leads_with newest at change))

-- a DELETE marks the row, once
abbrev pub delete_makes : BaseVersion → ℤ → Option RowChange → Verdict
delete_makes newest at None = Refused no_such_object_outcome
delete_makes newest at (Some stored) = if is_active stored.row.status then leads_with newest at (marked at stored) else Same

-- the verdict on a row that is put, by the first check that it fails, where it fails one
abbrev pub PutJudged : BaseVersion → GrantRow → Write → ℤ → Record → Option ℕ → Verdict → Type 0
PutJudged newest by write at row (Some number) verdict = verdict ≡ Refused number
PutJudged newest by write at row None verdict = PutMakes newest at (record { row = row; owner = Caller by.caller }) (stored_at newest write) verdict

-- the verdict on a PUT, by what its body tells
abbrev pub BodyJudged : BaseVersion → GrantRow → Write → ℤ → Result Record JsonFault → Verdict → Type 0
BodyJudged newest by write at (Err fault) verdict = verdict ≡ Refused bad_body_outcome
BodyJudged newest by write at (Ok row) verdict = PutJudged newest by write at row (put_refusal newest by write row) verdict

-- the verdict on a DELETE, by the first check that it fails, where it fails one
abbrev pub delete_judged : BaseVersion → Write → ℤ → Option ℕ → Verdict
delete_judged newest write at (Some number) = Refused number
delete_judged newest write at None = delete_makes newest at (stored_at newest write)

-- a write that no mark tells of
abbrev pub NewJudged : Bool → BaseVersion → GrantRow → Write → ℤ → Verdict → Type 0
NewJudged true newest by write at verdict = verdict ≡ delete_judged newest write at (delete_refusal newest by write)
NewJudged false newest by write at verdict = BodyJudged newest by write at (put_of write.kind write.id at write.body) verdict

-- a write whose mark is held: the same write repeats what was kept, another is refused
abbrev pub repeated : MarkRow → Write → Verdict
repeated held write = if same_write held.write write then Repeat held.kept else Refused mark_taken_outcome

-- the verdict on a write, by what is held under its mark
abbrev pub Judged : Option MarkRow → BaseVersion → GrantRow → Write → ℤ → Verdict → Type 0
Judged (Some held) newest by write at verdict = verdict ≡ repeated held write
Judged None newest by write at verdict = NewJudged write.delete newest by write at verdict

-- the mark of this number that the caller has
abbrev pub held_mark : HubState → List ℕ → Option ℕ → Option MarkRow
held_mark state caller mark = option_and_then (λ number. mark_at (caller, number) state.marks) mark

-- the newest version of a state
abbrev pub newest_in : HubState → BaseVersion
newest_in state = last_or empty_version state.published

-- the verdict on the write of a caller who has a grant
unfoldable pub Judges : HubState → GrantRow → Option ℕ → Write → ℤ → Verdict → Type 0
Judges state by mark write at verdict = Judged (held_mark state by.caller mark) (newest_in state) by write at verdict
