-- Each request has an answer.
use Rattle.std.proofs.Common.{ℕ, ℤ, inl, inr, Bool, true, false, Option, None, Some, Result, Ok, Err, refl}
use Rattle.version_changes.proofs.Deciding.{deciding}
use Rattle.hub_spec.specs.rules.Answers.{Answered, Answers, Entered, Written, either, reply_to_write, sent, write_of}
use Rattle.hub_spec.specs.rules.Answers.{write_result}
use Rattle.hub_spec.specs.rules.Checks.{Entry, entry_of}
use Rattle.hub_spec.specs.rules.Reads.{read_result}
use Rattle.hub_spec.specs.rules.Refusals.{delete_refusal, put_refusal, stored_at}
use Rattle.hub_spec.specs.rules.Verdicts.{BodyJudged, Judged, Judges, NewJudged, PutJudged, PutMakes, Refused, Same}
use Rattle.hub_spec.specs.rules.Verdicts.{Verdict, delete_judged, held_mark, leads_with, newest_in, repeated}
use Rattle.hub_spec.specs.rules.Wanted.{Wanted, is_write, mark_number}
use Rattle.hub_spec.specs.rules.Written.{state_after}
use Rattle.roster_types.specs.Records.{Record}
use Rattle.roster_types.specs.declared.owner.Owner.TheVariants.{Caller}
use Rattle.row_json.specs.Puts.{put_of}
use Rattle.row_json.specs.declared.fault.JsonFault.{JsonFault}
use Rattle.status_info.specs.declared.reply.Reply.{Reply}
use Rattle.version_core.specs.HubStates.{HubState}
use Rattle.version_core.specs.Outcomes.{bad_body_outcome}
use Rattle.version_core.specs.declared.change.BaseVersion.{BaseVersion}
use Rattle.version_core.specs.declared.grant_row.GrantRow.{GrantRow}
use Rattle.version_core.specs.declared.mark.MarkRow.{MarkRow}
use Rattle.version_core.specs.declared.mark.Write.{Write}
use Rattle.version_core.specs.declared.row_change.RowChange.{RowChange}

module _ (newest : BaseVersion) (by : GrantRow) (write : Write) (at : ℤ) where
  makes : (change : RowChange) (o : Option RowChange) → (verdict : Verdict) × PutMakes newest at change o verdict
  makes change None = (leads_with newest at change, refl)
  makes change (Some stored) =
      elim (deciding (record (change.row) { modified = stored.row.modified }) stored.row) as (λ _. (verdict : Verdict) × PutMakes newest at change (Some stored) verdict) [
        | inl same ↦ (Same, inl (same, refl))
        | inr other ↦ (leads_with newest at change, inr (other, refl))
      ]

  put_judged : (row : Record) (o : Option ℕ) → (verdict : Verdict) × PutJudged newest by write at row o verdict
  put_judged row (Some n) = (Refused n, refl)
  put_judged row None = makes (record { row = row; owner = Caller by.caller }) (stored_at newest write)

  body_judged : (r : Result Record JsonFault) → (verdict : Verdict) × BodyJudged newest by write at r verdict
  body_judged (Err fault) = (Refused bad_body_outcome, refl)
  body_judged (Ok row) = put_judged row (put_refusal newest by write row)

  new_judged : (b : Bool) → (verdict : Verdict) × NewJudged b newest by write at verdict
  new_judged true = (delete_judged newest write at (delete_refusal newest by write), refl)
  new_judged false = body_judged (put_of write.kind write.id at write.body)

  judged : (o : Option MarkRow) → (verdict : Verdict) × Judged o newest by write at verdict
  judged (Some held) = (repeated held write, refl)
  judged None = new_judged write.delete

has_verdict : (state : HubState) (by : GrantRow) (mark : Option ℕ) (write : Write) (at : ℤ) → (verdict : Verdict) × Judges state by mark write at verdict
unfolding Judges
has_verdict state by mark write at = judged (newest_in state) by write at (held_mark state by.caller mark)

module _ (before : HubState) (wanted : Wanted) (at : ℤ) where
  written : (entry : Entry) (r : Result Bool Reply) → (reply : Reply) × (after : HubState) × Written before wanted entry (write_of wanted entry.path) at r reply after
  written entry (Err refusal) = (sent wanted refusal, before, (refl, refl))
  written entry (Ok passed) =
      let write = write_of wanted entry.path in
      let told = has_verdict before entry.by (mark_number wanted.mark) write at in
      (sent wanted (reply_to_write before wanted write told.0), state_after before entry.by.caller (mark_number wanted.mark) write told.0, (told.0, told.1, refl, refl))

  entered : (b : Bool) (entry : Entry) → (reply : Reply) × (after : HubState) × Entered b before wanted at entry reply after
  entered true entry = written entry (write_result before wanted entry)
  entered false entry = (sent wanted (either (read_result before wanted entry)), before, (refl, refl))

  answered : (r : Result Entry Reply) → (reply : Reply) × (after : HubState) × Answered before wanted at r reply after
  answered (Err refusal) = (sent wanted refusal, before, (refl, refl))
  answered (Ok entry) = entered (is_write wanted.verb) entry

pub has_answer : (before : HubState) (wanted : Wanted) (at : ℤ) → (reply : Reply) × (after : HubState) × Answers before wanted at reply after
unfolding Answers
has_answer before wanted at = answered before wanted at (entry_of before wanted)
