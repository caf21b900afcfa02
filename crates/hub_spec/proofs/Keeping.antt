-- What is kept of a verdict may be held, so each step leads from a state that a hub can have to another.
use Rattle.std.proofs.Common.{◌≡◌, ℕ, ℤ, ◌+◌, ◌-◌, ◌≤◌, inl, inr, Bool, true, false, ◌&&◌, ◌==◌, not, cond, List, []}
use Rattle.std.proofs.Common.{◌∷◌, ◌++◌, length, length-append, Option, None, Some, Result, Ok, Err, nat_le, refl, sym}
use Rattle.std.proofs.Common.{ap, subst, ◌∙◌, arith}
use Rattle.std.proofs.lemmas.Bool.{and_from, or_right}
use Rattle.std.proofs.lemmas.Bool.Decides.{nat_tests}
use Rattle.std.specs.List.{AllByRecursion}
use Rattle.std.specs.Option.{ForSome}
use Rattle.hub_spec.proofs.Following.{granted_of, hub_of, marked_granted, next_granted, next_is_hub}
use Rattle.hub_spec.proofs.Growing.{Enters, enters, free_of_judged}
use Rattle.hub_spec.proofs.Holding.{judged_holds, newest_holds, path_id, set_holds}
use Rattle.hub_spec.proofs.Judging.{judged_led}
use Rattle.hub_spec.proofs.Publishing.{set_next}
use Rattle.hub_spec.proofs.Versions.{newest_is}
use Rattle.rest_paths.specs.Paths.{IsPath, PathParts as Path}
use Rattle.hub_spec.specs.views.Lists.{id_at}
use Rattle.roster_base.specs.Moments.{IsMoment}
use Rattle.roster_texts.specs.Texts.{is_id}
use Rattle.status_info.specs.declared.request.Verb.{Verb}
use Rattle.status_info.specs.declared.request.Verb.TheVariants.{Put}
use Rattle.hub_spec.specs.rules.Answers.{Answered, Answers, Entered, Written, write_of, write_result}
use Rattle.hub_spec.specs.rules.Checks.{Entry, entry_of}
use Rattle.hub_spec.specs.rules.Marked.{same_write}
use Rattle.row_json.specs.Puts.{put_of}
use Rattle.hub_spec.specs.rules.Runs.{Acts, ActedOrNot, Answer, Command, Does, Fails, Publish, Reopen, Runs, SetGrants}
use Rattle.hub_spec.specs.rules.Runs.{Step, Steps, Take, Wants, WantsMemory, end_of, state_with}
use Rattle.hub_spec.specs.rules.States.{AreCommands, HoldsRows, IsCommand, IsGranted, IsHub, ListsRows}
use Rattle.version_core.proofs.VersionLemmas.{AllByRecursion-push}
use Rattle.version_changes.proofs.Granted.{grants_next}
use Rattle.version_changes.specs.grants.Granting.{GrantsMake}
use Rattle.version_changes.specs.grants.Next.{IsNext}
use Rattle.grant_scopes.specs.Entries.{AreEntries}
use Rattle.grant_scopes.specs.declared.entry.GrantEntry.{GrantEntry}
use Rattle.roster_types.specs.Sets.{SetRecord}
use Rattle.hub_spec.specs.rules.Refusals.{delete_refusal, first_of, has_grading_period, is_of_other, is_one_too_many}
use Rattle.hub_spec.specs.rules.Refusals.{is_within, put_refusal, refused_if, stored_at}
use Rattle.hub_spec.specs.rules.Verdicts.{BodyJudged, Judged, Judges, Leads, NewJudged, PutJudged, PutMakes, Refused}
use Rattle.hub_spec.specs.rules.Verdicts.{Repeat, Same, Verdict, delete_judged, delete_makes, held_mark, leads_with}
use Rattle.hub_spec.specs.rules.Verdicts.{newest_in, repeated}
use Rattle.hub_spec.specs.rules.Wanted.{Wanted, allows, is_delete, is_write, mark_number}
use Rattle.hub_spec.specs.rules.Written.{done_of, kept_mark, newest_after, outcome_of, published_after, state_after}
use Rattle.hub_spec.specs.rules.Written.{with_kept}
use Rattle.roster_types.specs.Records.{Record}
use Rattle.roster_types.specs.declared.owner.Owner.TheVariants.{Caller}
use Rattle.row_json.specs.declared.fault.JsonFault.{JsonFault}
use Rattle.version_changes.specs.sets.Applying as applying
use Rattle.version_changes.specs.sets.Applying.{is_active, marked}
use Rattle.status_info.specs.declared.reply.Reply.{Reply}
use Rattle.hub_spec.specs.views.Seen.{sees}
use Rattle.version_core.proofs.MarkLemmas.{AreMarks-later, AreMarks-with_mark}
use Rattle.version_core.specs.Changes.{change_key, rows_of}
use Rattle.version_core.specs.HubStates.{HubState, newest_number}
use Rattle.version_core.specs.Marks.{AreMarks, CanMark, is_outcome}
use Rattle.version_core.specs.Order.{put}
use Rattle.version_core.specs.Outcomes.{last_version_outcome, mark_taken_outcome}
use Rattle.version_core.specs.Version.{last_version}
use Rattle.version_core.specs.declared.change.BaseVersion.{BaseVersion}
use Rattle.version_core.specs.declared.grant_row.GrantRow.{GrantRow}
use Rattle.version_core.specs.declared.mark.MarkRow.{MarkRow}
use Rattle.version_core.specs.declared.mark.Write.{Write}
use Rattle.version_core.specs.declared.row_change.RowChange.{RowChange}

-- ---- the numbers of refusals

abbrev InRange : ℕ → Type 0
InRange n = (2 ≤ n) × (n ≤ 8)

-- a verdict on a write that no mark tells of refuses with a number from 2 to 8
abbrev IsFair : Verdict → Type 0
IsFair (Refused n) = InRange n
IsFair v = Unit {0}

abbrev AreFair : List (Option ℕ) → Type 0
AreFair checks = AllByRecursion (λ c. ForSome c InRange) checks

fair_first : (checks : List (Option ℕ)) (n : ℕ) → AreFair checks → first_of checks ≡ Some n → InRange n
fair_first [] n all e = cc
fair_first (None ∷ checks) n all e = fair_first checks n all.1 e
fair_first (Some m ∷ checks) n all e = let same : m ≡ n = cc in subst InRange same (all.0 m refl)

fair_check : (b : Bool) (n : ℕ) → InRange n → ForSome (refused_if b n) InRange
fair_check true n in_range m e = let same : n ≡ m = cc in subst InRange same in_range
fair_check false n in_range m e = cc

module _ (newest : BaseVersion) (by : GrantRow) (write : Write) (at : ℤ) where
  fair_leads : (change : RowChange) → IsFair (leads_with newest at change)
  fair_leads change = elim (newest.number == last_version) as (λ b. IsFair (cond b (Refused last_version_outcome) (Leads (record newest { number = newest.number + 1; moment = at; rows = put change_key change newest.rows })))) [ true ↦ (omega arith, omega arith) | false ↦ tt ]

  fair_delete_makes : (stored : Option RowChange) → IsFair (delete_makes newest at stored)
  fair_delete_makes None = (omega arith, omega arith)
  fair_delete_makes (Some stored) = elim (is_active stored.row.status) as (λ b. IsFair (cond b (leads_with newest at (marked at stored)) Same)) [ true ↦ fair_leads (marked at stored) | false ↦ tt ]

  fair_delete : (o : Option ℕ) → delete_refusal newest by write ≡ o → IsFair (delete_judged newest write at o)
  fair_delete None e = fair_delete_makes (stored_at newest write)
  fair_delete (Some n) e =
      let unseen = not (sees by.grant.schools (rows_of newest.rows) write.kind write.id) in
      let others = is_of_other by.caller (stored_at newest write) in
      fair_first (refused_if unseen 3 ∷ refused_if others 4 ∷ []) n (fair_check unseen 3 (omega arith, omega arith), (fair_check others 4 (omega arith, omega arith), tt)) e

  fair_put : (change : RowChange) (stored : Option RowChange) (verdict : Verdict) → PutMakes newest at change stored verdict → IsFair verdict
  fair_put change None verdict makes = subst IsFair (sym makes) (fair_leads change)
  fair_put change (Some stored) verdict (inl same) = subst IsFair (sym same.1) tt
  fair_put change (Some stored) verdict (inr differs) = subst IsFair (sym differs.1) (fair_leads change)

  fair_row : (row : Record) (o : Option ℕ) (verdict : Verdict) → put_refusal newest by write row ≡ o → PutJudged newest by write at row o verdict → IsFair verdict
  fair_row row (Some n) verdict e judged =
      let others = is_of_other by.caller (stored_at newest write) in
      let outside = not (is_within by.grant.schools (rows_of newest.rows) row) in
      let wrong = not (has_grading_period (rows_of newest.rows) row) in
      let many = is_one_too_many (rows_of newest.rows) write.kind (stored_at newest write) in
      subst IsFair (sym judged) (fair_first (refused_if others 4 ∷ refused_if outside 5 ∷ refused_if wrong 6 ∷ refused_if many 7 ∷ []) n
      (fair_check others 4 (omega arith, omega arith), (fair_check outside 5 (omega arith, omega arith), (fair_check wrong 6 (omega arith, omega arith), (fair_check many 7 (omega arith, omega arith), tt)))) e)
  fair_row row None verdict e judged = fair_put (record { row = row; owner = Caller by.caller }) (stored_at newest write) verdict judged

  fair_body : (r : Result Record JsonFault) (verdict : Verdict) → BodyJudged newest by write at r verdict → IsFair verdict
  fair_body (Err fault) verdict judged = subst IsFair (sym judged) (omega arith, omega arith)
  fair_body (Ok row) verdict judged = fair_row row (put_refusal newest by write row) verdict refl judged

  fair_new : (b : Bool) (verdict : Verdict) → NewJudged b newest by write at verdict → IsFair verdict
  fair_new true verdict judged = subst IsFair (sym judged) (fair_delete (delete_refusal newest by write) refl)
  fair_new false verdict judged = fair_body (put_of write.kind write.id at write.body) verdict judged

-- ---- marks that may be held

refusal_kept : (delete : Bool) (n : ℕ) → InRange n → is_outcome delete n ≡ true
refusal_kept delete n in_range =
    let low : nat_le 2 n ≡ true = let a = in_range.0 in grind (arith, nat_tests) in
    let high : nat_le n 8 ≡ true = let b = in_range.1 in grind (arith, nat_tests) in
    or_right (n == cond delete 9 0) (nat_le 2 n && nat_le n 8) (and_from _ _ low high)

done_kept : (write : Write) → is_outcome write.delete (done_of write) ≡ true
done_kept write = elim write.delete as (λ b. is_outcome b (cond b 9 0) ≡ true) [ true ↦ refl | false ↦ refl ]

fair_kept : (write : Write) (verdict : Verdict) (outcome : ℕ) → IsFair verdict → outcome_of write verdict ≡ Some outcome → is_outcome write.delete outcome ≡ true
fair_kept write (Leads version) outcome fair e = let same : done_of write ≡ outcome = cc in subst (λ n. is_outcome write.delete n ≡ true) same (done_kept write)
fair_kept write Same outcome fair e = let same : done_of write ≡ outcome = cc in subst (λ n. is_outcome write.delete n ≡ true) same (done_kept write)
fair_kept write (Repeat kept) outcome fair e = cc
fair_kept write (Refused n) outcome fair e =
    elim (n == 1) as (λ b. cond b None (Some n) ≡ Some outcome → is_outcome write.delete outcome ≡ true) [
      | true ↦ λ e. cc
      | false ↦ λ e. let same : n ≡ outcome = cc in subst (λ m. is_outcome write.delete m ≡ true) same (refusal_kept write.delete n fair)
    ] e

-- what is kept where the mark is held: nothing
nothing_of : (write : Write) (held : MarkRow) (outcome : ℕ) → outcome_of write (repeated held write) ≡ Some outcome → ⊥
nothing_of write held outcome e =
    elim (same_write held.write write) as (λ b. outcome_of write (cond b (Repeat held.kept) (Refused mark_taken_outcome)) ≡ Some outcome → ⊥) [ true ↦ λ e. cc | false ↦ λ e. cc ] e

module _ (state : HubState) (by : GrantRow) (number : Option ℕ) (write : Write) (at : ℤ) (verdict : Verdict) (judged : Judges state by number write at verdict) where
  fair : (held : Option MarkRow) → Judged held (newest_in state) by write at verdict → (outcome : ℕ) → outcome_of write verdict ≡ Some outcome → is_outcome write.delete outcome ≡ true
  fair (Some held) j outcome e = absurd (nothing_of write held outcome (ap (outcome_of write) (sym j) ∙ e))
  fair None j outcome e = fair_kept write verdict outcome (fair_new (newest_in state) by write at write.delete verdict j) e

  -- what is kept of a verdict is a mark that may be held
  pub may_hold : (newest n outcome : ℕ) → number ≡ Some n → outcome_of write verdict ≡ Some outcome
      → CanMark newest state.marks (record { caller = by.caller; number = n; write = write; kept = record { outcome = outcome; version = newest } })
  unfolding Judges
  may_hold newest n outcome is e = record {
    outcome = fair (held_mark state by.caller number) judged outcome e;
    version = omega arith;
    free = free_of_judged state by number write at verdict judged n outcome is e;
  }

-- ---- what a verdict leads to, whatever the versions hold

module _ (state : HubState) (granted : IsGranted state) (by : GrantRow) (number : Option ℕ) (write : Write) (at : ℤ) (verdict : Verdict) (judged : Judges state by number write at verdict) where
  marks_kept : (newest : ℕ) → newest_number state ≤ newest → AreMarks newest (with_kept (kept_mark by.caller number write newest (outcome_of write verdict)) state.marks)
  marks_kept newest later = kept number (outcome_of write verdict) refl refl
    where
      old : AreMarks newest state.marks
      old = AreMarks-later (newest_number state) newest state.marks later granted.state.marks

      kept : (n o : Option ℕ) → number ≡ n → outcome_of write verdict ≡ o → AreMarks newest (with_kept (kept_mark by.caller n write newest o) state.marks)
      kept None o is e = old
      kept (Some n) None is e = old
      kept (Some n) (Some o) is e = AreMarks-with_mark newest state.marks _ old (may_hold state by number write at verdict judged newest n o is e)

  pub verdict_granted : IsGranted (state_after state by.caller number write verdict)
  unfolding state_after Judges
  verdict_granted = by_verdict verdict refl
    where
      plain : AreMarks (newest_number state) (with_kept (kept_mark by.caller number write (newest_number state) (outcome_of write verdict)) state.marks)
      plain = marks_kept (newest_number state) (omega arith)

      by_verdict : (v : Verdict) → verdict ≡ v → IsGranted (record state { published = published_after state.published v; marks = with_kept (kept_mark by.caller number write (newest_after state v) (outcome_of write v)) state.marks })
      by_verdict (Leads next) is =
          let newest = length (state.published ++ next ∷ []) - 1 in
          let more : newest ≡ length state.published = let e = length-append state.published (next ∷ []) in omega arith in
          let judged_so = subst (λ v. Judged (held_mark state by.caller number) (newest_in state) by write at v) is judged in
          let led = judged_led (newest_in state) (newest_is state granted.state) at by write next (held_mark state by.caller number) judged_so in
          let marks = subst (λ v. AreMarks newest (with_kept (kept_mark by.caller number write newest (outcome_of write v)) state.marks)) is (marks_kept newest (let e = more in omega arith)) in
          next_granted state granted next led _ (subst (λ n. AreMarks n (with_kept (kept_mark by.caller number write newest (outcome_of write (Leads next))) state.marks)) more marks)
      by_verdict other is = marked_granted state granted _ (subst (λ v. AreMarks (newest_number state) (with_kept (kept_mark by.caller number write (newest_number state) (outcome_of write v)) state.marks)) is plain)

-- ---- and where they hold rows

module _ (state : HubState) (hub : IsHub state) (by : GrantRow) (number : Option ℕ) (write : Write) (at : ℤ) (moment : IsMoment at) (good : write.delete ≡ false → is_id write.id ≡ true) (verdict : Verdict) (judged : Judges state by number write at verdict) where
  verdict_rows : (v : Verdict) → verdict ≡ v → AllByRecursion HoldsRows (published_after state.published v)
  unfolding Judges
  verdict_rows (Leads next) is =
      let judged_so = subst (λ v. Judged (held_mark state by.caller number) (newest_in state) by write at v) is judged in
      AllByRecursion-push HoldsRows state.published next hub.rows
      (judged_holds (newest_in state) (newest_holds state.published hub.rows) by write at moment next good (held_mark state by.caller number) judged_so)
  verdict_rows other is = hub.rows

  verdict_keeps : IsHub (state_after state by.caller number write verdict)
  unfolding state_after
  verdict_keeps = hub_of _ (verdict_granted state (granted_of state hub) by number write at verdict judged) (verdict_rows verdict refl)

-- ---- each step

same_hub : (before after : HubState) → IsHub before → after ≡ before → IsHub after
same_hub before after hub same = subst IsHub (sym same) hub

-- a request that puts a row goes to a good id
put_id : (path : Path) (verb : Verb) → IsPath path → allows path verb ≡ true → is_write verb ≡ true → is_delete verb ≡ false → is_id (id_at path 0) ≡ true
put_id path Put is may writes puts = path_id path is may
put_id path other is may writes puts = cc

module _ (before : HubState) (hub : IsHub before) (wanted : Wanted) (at : ℤ) (can : IsCommand (Take wanted at)) (reply : Reply) (after : HubState) where
  written_keeps : (entry : Entry) → (is_delete wanted.verb ≡ false → is_id (id_at entry.path 0) ≡ true) → (r : Result Bool Reply) → Written before wanted entry (write_of wanted entry.path) at r reply after → IsHub after
  written_keeps entry good (Err refusal) w = same_hub before after hub w.1
  written_keeps entry good (Ok passed) w = subst IsHub (sym w.3) (verdict_keeps before hub entry.by (mark_number wanted.mark) (write_of wanted entry.path) at can.0 good w.0 w.1)

  entered_keeps : (b : Bool) (entry : Entry) → is_write wanted.verb ≡ b → Enters before wanted entry → Entered b before wanted at entry reply after → IsHub after
  entered_keeps true entry writes enters e = written_keeps entry (put_id entry.path wanted.verb (can.1 entry.path enters.path) enters.allowed writes) (write_result before wanted entry) e
  entered_keeps false entry writes enters e = same_hub before after hub e.1

  answered_keeps : (r : Result Entry Reply) → entry_of before wanted ≡ r → Answered before wanted at r reply after → IsHub after
  answered_keeps (Err refusal) is e = same_hub before after hub e.1
  answered_keeps (Ok entry) is e = entered_keeps (is_write wanted.verb) entry refl (enters before wanted entry is) e

  pub answer_keeps : Answers before wanted at reply after → IsHub after
  unfolding Answers
  answer_keeps answers = answered_keeps (entry_of before wanted) refl answers

module _ (before : HubState) (hub : IsHub before) where
  unmarked : (next : BaseVersion) → IsNext (newest_in before) next → HoldsRows next → IsHub (record before { published = before.published ++ next ∷ [] })
  unmarked next is holds = next_is_hub before hub next is holds before.marks (AreMarks-later (newest_number before) (length before.published) before.marks (omega arith) hub.state.marks)

  newest_held : HoldsRows (newest_in before)
  newest_held = newest_holds before.published hub.rows

  set_keeps : (set : SetRecord) (at : ℤ) (outcome : applying.Outcome) → IsMoment at → ListsRows set → applying.Applies (newest_in before) set at outcome → IsHub (state_with before outcome)
  set_keeps set at (applying.Refuses fault) moment lists applies = hub
  set_keeps set at applying.Unchanged moment lists applies = hub
  set_keeps set at (applying.Leads next) moment lists applies =
      unmarked next (set_next (newest_in before) set at next (newest_is before hub.state) applies) (set_holds (newest_in before) set at next moment lists newest_held applies)

  grants_keep : (entries : List GrantEntry) (at : ℤ) (outcome : applying.Outcome) → AreEntries entries → GrantsMake (newest_in before) entries at outcome → IsHub (state_with before outcome)
  grants_keep entries at (applying.Refuses fault) are makes = hub
  grants_keep entries at applying.Unchanged are makes = hub
  grants_keep entries at (applying.Leads next) are makes =
      unmarked next (grants_next (newest_in before) (newest_is before hub.state) entries at next are makes) (subst HoldsRows (sym makes.2) newest_held)

  does_keep : (command : Command) → IsCommand command → (answer : Answer) (after : HubState) → Does command before answer after → IsHub after
  does_keep (Publish set at) is answer after does = subst IsHub (sym does.3) (set_keeps set at does.0 is.0 is.1 does.1)
  does_keep (SetGrants entries at) is answer after does = subst IsHub (sym does.3) (grants_keep entries at does.0 is.1 does.1)
  does_keep (Take wanted at) is answer after does = answer_keeps before hub wanted at is does.0 after does.1
  does_keep Reopen is answer after does = same_hub before after hub does.1

  acted_keep : (command : Command) → IsCommand command → (after : HubState) → ActedOrNot command before after → IsHub after
  acted_keep command is after (inl same) = same_hub before after hub same
  acted_keep command is after (inr does) = does_keep command is does.0 after does.1

  wants_keep : (command : Command) → IsCommand command → (after : HubState) → Wants command before after → IsHub after
  wants_keep (Take wanted at) is after wants = acted_keep (Take wanted at) is after wants
  wants_keep other is after wants = same_hub before after hub wants

  -- a step of a state that a hub can have leads to one
  pub step_keeps : (command : Command) → IsCommand command → (answer : Answer) (after : HubState) (failed : ℕ) → Steps command before answer after failed → IsHub after
  step_keeps command is answer after failed (Acts does none) = does_keep command is answer after does
  step_keeps command is answer after failed (Fails acted told once) = acted_keep command is after acted
  step_keeps command is answer after failed (WantsMemory wants told none) = wants_keep command is after wants

-- and so does a run
pub run_keeps : (before : HubState) → IsHub before → (steps : List Step) (faults : ℕ) → AreCommands steps → Runs before steps faults → IsHub (end_of before steps)
run_keeps before hub [] faults are run = hub
run_keeps before hub (step ∷ steps) faults are run =
    run_keeps step.after (step_keeps before hub step.command are.0 step.answer step.after run.0 run.2) steps run.1 are.1 run.4

pub verdict_next : (state : HubState) → IsHub state → (by : GrantRow) (mark : Option ℕ) (write : Write) (at : ℤ) (next : BaseVersion) → Judges state by mark write at (Leads next) → IsNext (newest_in state) next
unfolding Judges
verdict_next state hub by mark write at next judged = judged_led (newest_in state) (newest_is state hub.state) at by write next (held_mark state by.caller mark) judged
