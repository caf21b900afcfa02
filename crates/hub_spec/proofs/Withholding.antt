-- A write's reply says no more than what the writer can tell of a state.
use Rattle.std.proofs.Common.{◌≡◌, ℕ, ℤ, ◌+◌, ◌-◌, ◌==◌, ◌&&◌, inl, inr, Bool, true, false, not, cond, codes, is_some}
use Rattle.std.proofs.Common.{List, [], ◌∷◌, ◌++◌, length, length-append, nat_lt, Option, None, Some, Result, Ok, Err}
use Rattle.std.proofs.Common.{refl, sym, ap, subst, ◌∙◌, arith}
use Rattle.std.specs.List.{list_all}
use Rattle.std.specs.Option.{option_map_or}
use Rattle.std.specs.Prelude.{option_and_then}
use Rattle.grant_scopes.specs.declared.schools.Schools.{Schools}
use Rattle.grant_scopes.specs.declared.schools.Schools.TheVariants as school
use Rattle.grant_scopes.specs.Opens.{opens}
use Rattle.hub_spec.proofs.Growing.{Enters, enters}
use Rattle.hub_spec.proofs.Versions.{newest_has, newest_is, some_version}
use Rattle.hub_spec.specs.rules.Answers.{Answered, Answers, Entered, Written, reply_to_write, sent, told, write_of}
use Rattle.hub_spec.specs.rules.Answers.{write_result}
use Rattle.hub_spec.specs.rules.Checks.{Entry, check, entry_of, method_refused, refused, refused_at}
use Rattle.hub_spec.specs.rules.Refusals.{all_name_seen, delete_refusal, first_of, has_grading_period}
use Rattle.hub_spec.specs.rules.Refusals.{is_grading_period, is_of, is_of_other, is_one_too_many, is_within, kind_named}
use Rattle.hub_spec.specs.rules.Refusals.{names_seen, put_refusal, refused_if, stored_at}
use Rattle.hub_spec.specs.rules.Verdicts.{BodyJudged, Judged, Judges, Leads, NewJudged, PutJudged, PutMakes, Refused}
use Rattle.hub_spec.specs.rules.Verdicts.{Repeat, Same, Verdict, delete_judged, delete_makes, held_mark, leads_with}
use Rattle.hub_spec.specs.rules.Verdicts.{newest_in}
use Rattle.hub_spec.specs.rules.Views.{SameToWriter, own_rows}
use Rattle.hub_spec.specs.rules.Wanted.{Wanted, access_of, allows, is_good_mark, is_write, mark_number}
use Rattle.hub_spec.specs.rules.Written.{done_of}
use Rattle.hub_spec.specs.views.Lists.{kind_of_path}
use Rattle.hub_spec.specs.views.References.{row_at}
use Rattle.hub_spec.specs.views.Seen.{seen, sees, sees_at, sees_row}
use Rattle.reference_rules.proofs.KeyOrder.{found_key}
use Rattle.roster_values.proofs.KindLaws.{kind_from_place}
use Rattle.roster_base.specs.Reading.{◌>>=◌}
use Rattle.roster_texts.specs.Results.{found_or}
use Rattle.roster_types.specs.Keys.{Ascends, Key, look_up, row_key}
use Rattle.roster_types.specs.Records.{Record, all_values}
use Rattle.roster_types.specs.declared.owner.Owner.TheVariants.{Caller}
use Rattle.roster_values.specs.Kinds.{place_of_kind}
use Rattle.roster_values.specs.Table.{Info, table}
use Rattle.roster_values.specs.declared.kind.Kind.{Kind}
use Rattle.roster_values.specs.declared.kind.Kind.TheVariants.{AcademicSessions}
use Rattle.roster_values.specs.declared.value.Value.{Value}
use Rattle.row_json.specs.Puts.{put_of}
use Rattle.row_json.specs.declared.fault.JsonFault.{JsonFault}
use Rattle.version_changes.specs.sets.Applying.{is_active, marked}
use Rattle.status_info.specs.declared.cause.Cause.TheVariants as cause
use Rattle.status_info.specs.declared.reply.Reply.{Reply}
use Rattle.version_core.proofs.LookUps.{if_kept, look_up-filter}
use Rattle.version_core.proofs.RowsOf.{is_sorted-rows_of}
use Rattle.version_core.specs.Changes.{AreChanges, change_key, rows_of}
use Rattle.version_core.specs.HubStates.{HubState, IsHubState, newest_number}
use Rattle.version_core.specs.Order.{put}
use Rattle.version_core.specs.Outcomes.{last_version_outcome}
use Rattle.version_core.specs.References.{named_in, refs_in}
use Rattle.version_core.specs.Version.{empty_version, last_version}
use Rattle.version_core.specs.declared.change.BaseVersion.{BaseVersion}
use Rattle.version_core.specs.declared.grant_row.GrantRow.{GrantRow}
use Rattle.version_core.specs.declared.mark.MarkRow.{MarkRow}
use Rattle.version_core.specs.declared.mark.Write.{Write}
use Rattle.version_core.specs.declared.row_change.RowChange.{RowChange}

-- ---- rows that are seen

module _ (schools : Schools) (rows : List Record) (up : Ascends row_key rows) where
  test_kept : (p : Record → Bool) (o : Option Record) → option_map_or p o false ≡ is_some (option_and_then (if_kept row_key p) o)
  test_kept p None = refl
  test_kept p (Some row) = elim (p row) as (λ b. b ≡ is_some (cond b (Some row) None)) [ true ↦ refl | false ↦ refl ]

  -- a row is seen where it stands among those that are
  sees_among : (kind : Kind) (id : List ℕ) → sees schools rows kind id ≡ is_some (look_up row_key (place_of_kind kind, id) (seen schools rows))
  sees_among kind id =
      test_kept (sees_row schools rows) (row_at rows kind id) ∙ ap is_some (sym (look_up-filter row_key (sees_row schools rows) (place_of_kind kind, id) rows up))

  -- each session is seen
  sees_session : (row : Record) → row.kind ≡ AcademicSessions → sees_row schools rows row ≡ true
  unfolding sees_row
  sees_session row is = by_schools schools
    where
      by_schools : (s : Schools) → sees_row s rows row ≡ true
      by_schools school.All = refl
      by_schools (school.Listed ids) = ap (λ kind. sees_at ids rows kind row) is

  session_kept : (id : List ℕ) → look_up row_key (place_of_kind AcademicSessions, id) (seen schools rows) ≡ look_up row_key (place_of_kind AcademicSessions, id) rows
  session_kept id = look_up-filter row_key (sees_row schools rows) (place_of_kind AcademicSessions, id) rows up ∙ all_kept (look_up row_key (place_of_kind AcademicSessions, id) rows) refl
    where
      all_kept : (o : Option Record) → look_up row_key (place_of_kind AcademicSessions, id) rows ≡ o → option_and_then (if_kept row_key (sees_row schools rows)) o ≡ o
      all_kept None e = refl
      all_kept (Some row) e =
          let found = found_key row_key (place_of_kind AcademicSessions, id) rows row e in
          ap (λ b. cond b (Some row) None) (sees_session row (kind_from_place row.kind AcademicSessions (ap (λ (k : Key). k.0) found)))

-- ---- verdicts without their versions

abbrev bare : Verdict → Verdict
bare (Leads version) = Leads empty_version
bare Same = Same
bare (Repeat kept) = Repeat kept
bare (Refused number) = Refused number

abbrev made_after : ℕ → Verdict
made_after number = cond (number == last_version) (Refused last_version_outcome) (Leads empty_version)

bare_leads : (newest : BaseVersion) (at : ℤ) (change : RowChange) → bare (leads_with newest at change) ≡ made_after newest.number
bare_leads newest at change =
    elim (newest.number == last_version) as (λ b. bare (cond b (Refused last_version_outcome) (Leads (record newest { number = newest.number + 1; moment = at; rows = put change_key change newest.rows }))) ≡ cond b (Refused last_version_outcome) (Leads empty_version)) [ true ↦ refl | false ↦ refl ]

first_passes : (b : Bool) (checks : List (Option ℕ)) → first_of (refused_if b 4 ∷ checks) ≡ None → b ≡ false
first_passes true checks e = cc
first_passes false checks e = refl

second_passes : (a : Option ℕ) (b : Bool) → first_of (a ∷ refused_if b 4 ∷ []) ≡ None → b ≡ false
second_passes (Some n) b e = cc
second_passes None true e = cc
second_passes None false e = refl

module _ (newest other : BaseVersion) (up : AreChanges newest.rows) (up' : AreChanges other.rows) (by : GrantRow) (write : Write) (at : ℤ) (number : newest.number ≡ other.number)
    (rows : seen by.grant.schools (rows_of newest.rows) ≡ seen by.grant.schools (rows_of other.rows)) (own : own_rows by newest ≡ own_rows by other)
    (owner : is_of_other by.caller (stored_at newest write) ≡ is_of_other by.caller (stored_at other write))
    (full : is_one_too_many (rows_of newest.rows) write.kind None ≡ is_one_too_many (rows_of other.rows) write.kind None) where
  order : Ascends row_key (rows_of newest.rows)
  order = is_sorted-rows_of newest.rows ∙ up

  order' : Ascends row_key (rows_of other.rows)
  order' = is_sorted-rows_of other.rows ∙ up'

  same_sees : (kind : Kind) (id : List ℕ) → sees by.grant.schools (rows_of newest.rows) kind id ≡ sees by.grant.schools (rows_of other.rows) kind id
  same_sees kind id =
      sees_among by.grant.schools (rows_of newest.rows) order kind id
      ∙ ap (λ those. is_some (look_up row_key (place_of_kind kind, id) those)) rows
      ∙ sym (sees_among by.grant.schools (rows_of other.rows) order' kind id)

  same_names : (info : Info) (value : Option Value) → names_seen by.grant.schools (rows_of newest.rows) info value ≡ names_seen by.grant.schools (rows_of other.rows) info value
  same_names info value = λ i. option_map_or (λ kind. list_all (λ id. same_sees kind id i) (refs_in value)) (kind_named info.form) true

  same_all : (infos : List Info) (values : List (Option Value)) → all_name_seen by.grant.schools (rows_of newest.rows) infos values ≡ all_name_seen by.grant.schools (rows_of other.rows) infos values
  same_all [] values = refl
  same_all (info ∷ infos) [] = refl
  same_all (info ∷ infos) (value ∷ values) = λ i. same_names info value i && same_all infos values i

  same_within : (row : Record) → is_within by.grant.schools (rows_of newest.rows) row ≡ is_within by.grant.schools (rows_of other.rows) row
  same_within row = same_all (table row.kind) (all_values row)

  same_session : (id : List ℕ) → look_up row_key (place_of_kind AcademicSessions, id) (rows_of newest.rows) ≡ look_up row_key (place_of_kind AcademicSessions, id) (rows_of other.rows)
  same_session id =
      sym (session_kept by.grant.schools (rows_of newest.rows) order id)
      ∙ ap (look_up row_key (place_of_kind AcademicSessions, id)) rows
      ∙ session_kept by.grant.schools (rows_of other.rows) order' id

  same_period : (row : Record) → has_grading_period (rows_of newest.rows) row ≡ has_grading_period (rows_of other.rows) row
  same_period row = λ i. list_all (λ id. option_map_or is_grading_period (same_session id i) false) (named_in (codes "gradingPeriod") row)

  -- what stands where the write goes is the same, unless it is another's
  same_stored : is_of_other by.caller (stored_at newest write) ≡ false → stored_at newest write ≡ stored_at other write
  same_stored mine =
      sym (look_up-filter change_key (λ c. is_of by.caller c.owner) (place_of_kind write.kind, write.id) newest.rows up ∙ left (stored_at newest write) mine)
      ∙ ap (look_up change_key (place_of_kind write.kind, write.id)) own
      ∙ look_up-filter change_key (λ c. is_of by.caller c.owner) (place_of_kind write.kind, write.id) other.rows up' ∙ left (stored_at other write) (sym owner ∙ mine)
    where
      left : (o : Option RowChange) → is_of_other by.caller o ≡ false → option_and_then (if_kept change_key (λ c. is_of by.caller c.owner)) o ≡ o
      left None e = refl
      left (Some c) e = elim (is_of by.caller c.owner) as (λ b. not b ≡ false → cond b (Some c) None ≡ Some c) [ true ↦ λ _. refl | false ↦ λ wrong. cc ] e

  same_leads : (change : RowChange) → bare (leads_with newest at change) ≡ bare (leads_with other at change)
  same_leads change = bare_leads newest at change ∙ ap made_after number ∙ sym (bare_leads other at change)

  -- ---- a PUT

  same_room : (o : Option RowChange) → is_one_too_many (rows_of newest.rows) write.kind o ≡ is_one_too_many (rows_of other.rows) write.kind o
  same_room None = full
  same_room (Some stored) = refl

  abbrev checks : BaseVersion → Record → List (Option ℕ)
  checks version row =
      refused_if (not (is_within by.grant.schools (rows_of version.rows) row)) 5
      ∷ refused_if (not (has_grading_period (rows_of version.rows) row)) 6
      ∷ refused_if (is_one_too_many (rows_of version.rows) write.kind (stored_at version write)) 7
      ∷ []

  same_put_refusal : (row : Record) → put_refusal newest by write row ≡ put_refusal other by write row
  same_put_refusal row =
      elim (is_of_other by.caller (stored_at newest write)) as (λ b. is_of_other by.caller (stored_at newest write) ≡ b → put_refusal newest by write row ≡ put_refusal other by write row) [
        | true ↦ λ taken. ap (λ b. first_of (refused_if b 4 ∷ checks newest row)) taken ∙ sym (ap (λ b. first_of (refused_if b 4 ∷ checks other row)) (sym owner ∙ taken))
        | false ↦ λ mine.
            let room = ap (is_one_too_many (rows_of newest.rows) write.kind) (same_stored mine) ∙ same_room (stored_at other write) in
            λ i. first_of (refused_if (owner i) 4 ∷ refused_if (not (same_within row i)) 5 ∷ refused_if (not (same_period row i)) 6 ∷ refused_if (room i) 7 ∷ [])
      ] refl

  module _ (one two : Verdict) where
    same_made : (change : RowChange) (o : Option RowChange) → PutMakes newest at change o one → PutMakes other at change o two → bare one ≡ bare two
    same_made change None a b = ap bare a ∙ same_leads change ∙ sym (ap bare b)
    same_made change (Some stored) (inl a) (inl b) = ap bare a.1 ∙ sym (ap bare b.1)
    same_made change (Some stored) (inl a) (inr b) = absurd (b.0 a.0)
    same_made change (Some stored) (inr a) (inl b) = absurd (a.0 b.0)
    same_made change (Some stored) (inr a) (inr b) = ap bare a.1 ∙ same_leads change ∙ sym (ap bare b.1)

    same_put : (row : Record) (o : Option ℕ) → put_refusal newest by write row ≡ o → PutJudged newest by write at row o one → PutJudged other by write at row o two → bare one ≡ bare two
    same_put row (Some n) e a b = ap bare a ∙ sym (ap bare b)
    same_put row None e a b =
        let stored = same_stored (first_passes (is_of_other by.caller (stored_at newest write)) (checks newest row) e) in
        same_made (record { row = row; owner = Caller by.caller }) (stored_at newest write) a (subst (λ o. PutMakes other at (record { row = row; owner = Caller by.caller }) o two) (sym stored) b)

    same_body : (r : Result Record JsonFault) → BodyJudged newest by write at r one → BodyJudged other by write at r two → bare one ≡ bare two
    same_body (Err fault) a b = ap bare a ∙ sym (ap bare b)
    same_body (Ok row) a b =
        same_put row (put_refusal newest by write row) refl a (subst (λ o. PutJudged other by write at row o two) (sym (same_put_refusal row)) b)

  -- ---- a DELETE

  same_delete_refusal : delete_refusal newest by write ≡ delete_refusal other by write
  same_delete_refusal = λ i. first_of (refused_if (not (same_sees write.kind write.id i)) 3 ∷ refused_if (owner i) 4 ∷ [])

  same_deletes : (o : Option RowChange) → bare (delete_makes newest at o) ≡ bare (delete_makes other at o)
  same_deletes None = refl
  same_deletes (Some stored) =
      elim (is_active stored.row.status) as (λ b. bare (cond b (leads_with newest at (marked at stored)) Same) ≡ bare (cond b (leads_with other at (marked at stored)) Same)) [ true ↦ same_leads (marked at stored) | false ↦ refl ]

  same_delete : (o : Option ℕ) → delete_refusal newest by write ≡ o → bare (delete_judged newest write at o) ≡ bare (delete_judged other write at o)
  same_delete (Some n) e = refl
  same_delete None e =
      same_deletes (stored_at newest write) ∙ ap (λ o. bare (delete_makes other at o)) (same_stored (second_passes (refused_if (not (sees by.grant.schools (rows_of newest.rows) write.kind write.id)) 3) (is_of_other by.caller (stored_at newest write)) e))

  -- ---- either, under a mark or without one

  module _ (one two : Verdict) where
    same_new : (b : Bool) → NewJudged b newest by write at one → NewJudged b other by write at two → bare one ≡ bare two
    same_new true a b =
        ap bare a ∙ same_delete (delete_refusal newest by write) refl ∙ ap (λ o. bare (delete_judged other write at o)) same_delete_refusal ∙ sym (ap bare b)
    same_new false a b = same_body one two (put_of write.kind write.id at write.body) a b

    same_judged : (o : Option MarkRow) → Judged o newest by write at one → Judged o other by write at two → bare one ≡ bare two
    same_judged (Some held) a b = ap bare a ∙ sym (ap bare b)
    same_judged None a b = same_new write.delete a b

-- ---- replies

module _ (wanted : Wanted) (write : Write) where
  -- the reply to a verdict, by the number of the newest version alone
  abbrev reply_by : ℕ → Verdict → Reply
  reply_by n (Leads version) = told wanted (mark_number wanted.mark) (n + 1) (done_of write)
  reply_by n Same = told wanted (mark_number wanted.mark) n (done_of write)
  reply_by n (Repeat kept) = told wanted (mark_number wanted.mark) kept.version kept.outcome
  reply_by n (Refused number) = told wanted (cond (nat_lt 1 number) (mark_number wanted.mark) None) n number

  replies_by : (state : HubState) → IsHubState state → (verdict : Verdict) → reply_to_write state wanted write verdict ≡ reply_by (newest_number state) verdict
  replies_by state is (Leads version) =
      let some = some_version state is in
      let longer = length-append state.published (version ∷ []) in
      let more : length (state.published ++ version ∷ []) - 1 ≡ (length state.published - 1) + 1 = omega arith in
      ap (λ n. told wanted (mark_number wanted.mark) n (done_of write)) more
  replies_by state is other = refl

  bare_reply : (n : ℕ) (verdict : Verdict) → reply_by n verdict ≡ reply_by n (bare verdict)
  bare_reply n (Leads version) = refl
  bare_reply n Same = refl
  bare_reply n (Repeat kept) = refl
  bare_reply n (Refused number) = refl

module _ (wanted : Wanted) (one other : HubState) (is : IsHubState one) (is' : IsHubState other) (same : SameToWriter wanted one other) (at : ℤ) (reply reply' : Reply) (after after' : HubState) where
  same_entry : entry_of one wanted ≡ entry_of other wanted
  same_entry = ap (λ g. found_or (refused wanted cause.NoSuchPath) wanted.path >>= λ path. check (allows path wanted.verb) (method_refused wanted path) >>= λ _. found_or (refused wanted cause.NoKnownToken) g >>= λ by. Ok (record { path = path; by = by })) same.grant

  same_write_result : (entry : Entry) → write_result one wanted entry ≡ write_result other wanted entry
  same_write_result entry =
      ap (λ n. check (opens entry.by.grant.scopes (kind_of_path entry.path) (access_of wanted.verb)) (refused_at wanted n cause.ScopeMissing) >>= λ _. check (is_good_mark wanted.mark) (refused_at wanted n cause.BadMark)) same.newest

  same_held : (entry : Entry) → Enters one wanted entry → (mark : Option ℕ) → held_mark one entry.by.caller mark ≡ held_mark other entry.by.caller mark
  same_held entry entered None = refl
  same_held entry entered (Some n) = same.marks entry.by n entered.by

  same_verdict : (entry : Entry) → Enters one wanted entry → (verdict verdict' : Verdict) → Judges one entry.by (mark_number wanted.mark) (write_of wanted entry.path) at verdict
      → Judges other entry.by (mark_number wanted.mark) (write_of wanted entry.path) at verdict' → bare verdict ≡ bare verdict'
  unfolding Judges
  same_verdict entry entered verdict verdict' a b =
      let write = write_of wanted entry.path in
      let numbers = newest_has one is ∙ same.newest ∙ sym (newest_has other is') in
      same_judged (newest_in one) (newest_in other) (newest_is one is).rows (newest_is other is').rows entry.by write at numbers (same.rows entry.by entered.by) (same.own entry.by entered.by)
      (same.owner entry.by entry.path entered.by entered.path) (same.full entry.path entered.path) verdict verdict' (held_mark one entry.by.caller (mark_number wanted.mark)) a
      (subst (λ o. Judged o (newest_in other) entry.by write at verdict') (sym (same_held entry entered (mark_number wanted.mark))) b)

  same_told : (entry : Entry) → Enters one wanted entry → (r : Result Bool Reply) → Written one wanted entry (write_of wanted entry.path) at r reply after
      → Written other wanted entry (write_of wanted entry.path) at r reply' after' → reply ≡ reply'
  same_told entry entered (Err refusal) a b = a.0 ∙ sym b.0
  same_told entry entered (Ok passed) a b =
      let write = write_of wanted entry.path in
      let verdicts = same_verdict entry entered a.0 b.0 a.1 b.1 in
      a.2 ∙ ap (sent wanted) (replies_by wanted write one is a.0 ∙ bare_reply wanted write (newest_number one) a.0 ∙ ap (reply_by wanted write (newest_number one)) verdicts
      ∙ ap (λ n. reply_by wanted write n (bare b.0)) same.newest ∙ sym (bare_reply wanted write (newest_number other) b.0) ∙ sym (replies_by wanted write other is' b.0)) ∙ sym b.2

  same_entered : (b : Bool) (entry : Entry) → b ≡ true → Enters one wanted entry → Entered b one wanted at entry reply after → Entered b other wanted at entry reply' after' → reply ≡ reply'
  same_entered false entry e entered a b = cc
  same_entered true entry e entered a b =
      same_told entry entered (write_result one wanted entry) a (subst (λ r. Written other wanted entry (write_of wanted entry.path) at r reply' after') (sym (same_write_result entry)) b)

  same_answered : (r : Result Entry Reply) → is_write wanted.verb ≡ true → entry_of one wanted ≡ r → Answered one wanted at r reply after → Answered other wanted at r reply' after' → reply ≡ reply'
  same_answered (Err refusal) writes e a b = a.0 ∙ sym b.0
  same_answered (Ok entry) writes e a b = same_entered (is_write wanted.verb) entry writes (enters one wanted entry e) a b

-- equal replies, where the states are one to the writer
pub same_written_reply : (wanted : Wanted) (one other : HubState) → IsHubState one → IsHubState other → SameToWriter wanted one other → is_write wanted.verb ≡ true
    → (at : ℤ) (reply reply' : Reply) (after after' : HubState) → Answers one wanted at reply after → Answers other wanted at reply' after' → reply ≡ reply'
unfolding Answers
same_written_reply wanted one other is is' same writes at reply reply' after after' a b =
    same_answered wanted one other is is' same at reply reply' after after' (entry_of one wanted) writes refl a
    (subst (λ r. Answered other wanted at r reply' after') (sym (same_entry wanted one other is is' same at reply reply' after after')) b)
