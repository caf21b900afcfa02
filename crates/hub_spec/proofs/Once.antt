-- A request has one answer at a state and a moment.
use Rattle.std.proofs.Common.{◌≡◌, ℕ, ℤ, inl, inr, Bool, true, false, Option, None, Some, Result, Ok, Err, sym, ap, ◌∙◌}
use Rattle.hub_spec.specs.rules.Answers.{Answered, Answers, Entered, Written, reply_to_write, sent, write_of}
use Rattle.hub_spec.specs.rules.Answers.{write_result}
use Rattle.hub_spec.specs.rules.Checks.{Entry, entry_of}
use Rattle.row_json.specs.Puts.{put_of}
use Rattle.hub_spec.specs.rules.Refusals.{put_refusal, stored_at}
use Rattle.hub_spec.specs.rules.Verdicts.{BodyJudged, Judged, Judges, NewJudged, PutJudged, PutMakes, Verdict}
use Rattle.hub_spec.specs.rules.Verdicts.{held_mark, newest_in}
use Rattle.hub_spec.specs.rules.Wanted.{Wanted, is_write, mark_number}
use Rattle.hub_spec.specs.rules.Written.{state_after}
use Rattle.roster_types.specs.Records.{Record}
use Rattle.row_json.specs.declared.fault.JsonFault.{JsonFault}
use Rattle.status_info.specs.declared.reply.Reply.{Reply}
use Rattle.version_core.specs.HubStates.{HubState}
use Rattle.version_core.specs.declared.change.BaseVersion.{BaseVersion}
use Rattle.version_core.specs.declared.grant_row.GrantRow.{GrantRow}
use Rattle.version_core.specs.declared.mark.MarkRow.{MarkRow}
use Rattle.version_core.specs.declared.mark.Write.{Write}
use Rattle.version_core.specs.declared.row_change.RowChange.{RowChange}

module _ (newest : BaseVersion) (by : GrantRow) (write : Write) (at : ℤ) (one other : Verdict) where
  one_made : (change : RowChange) (stored : Option RowChange) → PutMakes newest at change stored one → PutMakes newest at change stored other → one ≡ other
  one_made change None a b = a ∙ sym b
  one_made change (Some stored) (inl a) (inl b) = a.1 ∙ sym b.1
  one_made change (Some stored) (inl a) (inr b) = absurd (b.0 a.0)
  one_made change (Some stored) (inr a) (inl b) = absurd (a.0 b.0)
  one_made change (Some stored) (inr a) (inr b) = a.1 ∙ sym b.1

  one_put : (row : Record) (o : Option ℕ) → PutJudged newest by write at row o one → PutJudged newest by write at row o other → one ≡ other
  one_put row (Some n) a b = a ∙ sym b
  one_put row None a b = one_made _ (stored_at newest write) a b

  one_body : (r : Result Record JsonFault) → BodyJudged newest by write at r one → BodyJudged newest by write at r other → one ≡ other
  one_body (Err fault) a b = a ∙ sym b
  one_body (Ok row) a b = one_put row (put_refusal newest by write row) a b

  one_new : (b : Bool) → NewJudged b newest by write at one → NewJudged b newest by write at other → one ≡ other
  one_new true a b = a ∙ sym b
  one_new false a b = one_body (put_of write.kind write.id at write.body) a b

  one_judged : (o : Option MarkRow) → Judged o newest by write at one → Judged o newest by write at other → one ≡ other
  one_judged (Some held) a b = a ∙ sym b
  one_judged None a b = one_new write.delete a b

pub one_verdict : (state : HubState) (by : GrantRow) (mark : Option ℕ) (write : Write) (at : ℤ) (one other : Verdict) → Judges state by mark write at one → Judges state by mark write at other → one ≡ other
unfolding Judges
one_verdict state by mark write at one other a b = one_judged (newest_in state) by write at one other (held_mark state by.caller mark) a b

module _ (before : HubState) (wanted : Wanted) (at : ℤ) (reply reply' : Reply) (after after' : HubState) where
  one_written : (entry : Entry) (r : Result Bool Reply) → Written before wanted entry (write_of wanted entry.path) at r reply after → Written before wanted entry (write_of wanted entry.path) at r reply' after' → (reply ≡ reply') × (after ≡ after')
  one_written entry (Err refusal) a b = (a.0 ∙ sym b.0, a.1 ∙ sym b.1)
  one_written entry (Ok passed) a b =
      let write = write_of wanted entry.path in
      let same = one_verdict before entry.by (mark_number wanted.mark) write at a.0 b.0 a.1 b.1 in
      (a.2 ∙ ap (λ v. sent wanted (reply_to_write before wanted write v)) same ∙ sym b.2, a.3 ∙ ap (state_after before entry.by.caller (mark_number wanted.mark) write) same ∙ sym b.3)

  one_entered : (b : Bool) (entry : Entry) → Entered b before wanted at entry reply after → Entered b before wanted at entry reply' after' → (reply ≡ reply') × (after ≡ after')
  one_entered true entry a b = one_written entry (write_result before wanted entry) a b
  one_entered false entry a b = (a.0 ∙ sym b.0, a.1 ∙ sym b.1)

  one_answered : (r : Result Entry Reply) → Answered before wanted at r reply after → Answered before wanted at r reply' after' → (reply ≡ reply') × (after ≡ after')
  one_answered (Err refusal) a b = (a.0 ∙ sym b.0, a.1 ∙ sym b.1)
  one_answered (Ok entry) a b = one_entered (is_write wanted.verb) entry a b

  pub one_answer : Answers before wanted at reply after → Answers before wanted at reply' after' → (reply ≡ reply') × (after ≡ after')
  unfolding Answers
  one_answer a b = one_answered (entry_of before wanted) a b

-- what is no write leaves the state
pub read_leaves : (before : HubState) (wanted : Wanted) (at : ℤ) (reply : Reply) (after : HubState) → is_write wanted.verb ≡ false → Answers before wanted at reply after → after ≡ before
unfolding Answers
read_leaves before wanted at reply after read answers = by_entry (entry_of before wanted) answers
  where
    by_verb : (b : Bool) (entry : Entry) → b ≡ false → Entered b before wanted at entry reply after → after ≡ before
    by_verb true entry e a = cc
    by_verb false entry e a = a.1

    by_entry : (r : Result Entry Reply) → Answered before wanted at r reply after → after ≡ before
    by_entry (Err refusal) a = a.1
    by_entry (Ok entry) a = by_verb (is_write wanted.verb) entry read a
