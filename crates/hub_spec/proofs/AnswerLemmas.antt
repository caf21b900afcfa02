-- A marked write is answered with one of four.
use Rattle.std.proofs.Common.{◌≡◌, ◌≤◌, ℕ, ℤ, Bool, true, false, ◌&&◌, ◌==◌, cond, nat_lt, Option, None, Some, Ok, refl}
use Rattle.std.proofs.Common.{sym, ap, subst, ◌∙◌, arith}
use Rattle.std.proofs.lemmas.Bool.Decides.{nat_tests}
use Rattle.grant_scopes.specs.Opens.{opens}
use Rattle.rest_paths.specs.Paths.{PathParts as Path}
use Rattle.hub_spec.specs.rules.Answers.{Answered, Answers, Entered, Written, reply_to_write, sent, write_of}
use Rattle.hub_spec.specs.rules.Answers.{write_result}
use Rattle.hub_spec.specs.rules.Checks.{Entry, check, grant_in, method_refused, refused, refused_at}
use Rattle.hub_spec.specs.rules.Marked.{same_write}
use Rattle.hub_spec.specs.rules.Verdicts.{Judged, Judges, Leads, Refused, Repeat, Same, Verdict, held_mark, newest_in}
use Rattle.hub_spec.specs.rules.Wanted.{Wanted, access_of, allows, is_delete, is_good_mark, is_write, mark_number}
use Rattle.hub_spec.specs.rules.Wanted.{takes_writes}
use Rattle.hub_spec.specs.rules.Written.{done_of, kept_mark, newest_after, outcome_of, state_after, with_kept}
use Rattle.hub_spec.specs.views.Lists.{kind_of_path}
use Rattle.reference_rules.proofs.KeyOrder.{and_first, and_second}
use Rattle.roster_base.specs.Reading.{◌>>=◌}
use Rattle.roster_texts.specs.Results.{found_or}
use Rattle.status_info.specs.Causes.{status_of}
use Rattle.status_info.specs.declared.cause.Cause.TheVariants as cause
use Rattle.status_info.specs.declared.reply.Reply.{Reply}
use Rattle.status_info.specs.declared.request.MarkField.{MarkField}
use Rattle.status_info.specs.declared.request.MarkField.TheVariants as mark
use Rattle.status_info.specs.declared.request.Verb.{Verb}
use Rattle.status_info.specs.declared.request.Verb.TheVariants.{Delete, Put}
use Rattle.version_core.specs.HubStates.{HubState, newest_number}
use Rattle.version_core.specs.Marks.{mark_at}
use Rattle.version_core.specs.Outcomes.{mark_taken_outcome}
use Rattle.version_core.specs.declared.grant_row.GrantRow.{GrantRow}
use Rattle.version_core.specs.declared.mark.MarkRow.{MarkRow}
use Rattle.version_core.specs.declared.mark.Write.{Write}
use Rattle.hub_spec.proofs.JudgeLemmas.{IsNew, mark_found, new_judged, write_is, write_same}
use Rattle.hub_spec.specs.marks.Answering.{IsWriteReply, Shown, Shut, Stranger, Taken, access_to, kept_status}
use Rattle.hub_spec.specs.marks.Marked.{Marked, marked_at, marked_in}

-- ---- what a marked request is

pub record IsMarked (wanted : Wanted) (marked : Marked) : Type 0 where
  pub number : mark_number wanted.mark ≡ Some marked.number
  pub path : Path
  pub is_path : wanted.path ≡ Some path
  pub writes : is_write wanted.verb ≡ true
  pub takes : takes_writes path ≡ true
  pub write : marked.write ≡ write_of wanted path

module _ (wanted : Wanted) (marked : Marked) where
  by_test : (number : ℕ) (path : Path) (b : Bool) → mark_number wanted.mark ≡ Some number → wanted.path ≡ Some path → (is_write wanted.verb && takes_writes path) ≡ b
      → cond b (Some (record { number = number; write = write_of wanted path })) None ≡ Some marked → IsMarked wanted marked
  by_test number path true en ep eb e =
      let same : record { number = number; write = write_of wanted path } ≡ marked = cc in
      record {
        number = en ∙ ap (λ (m : Marked). Some m.number) same;
        path = path;
        is_path = ep;
        writes = and_first _ _ eb;
        takes = and_second _ _ eb;
        write = ap (λ (m : Marked). m.write) (sym same);
      }
  by_test number path false en ep eb e = cc

  by_parts : (number : Option ℕ) (path : Option Path) → mark_number wanted.mark ≡ number → wanted.path ≡ path → marked_at wanted number path ≡ Some marked → IsMarked wanted marked
  by_parts None path en ep e = cc
  by_parts (Some number) None en ep e = cc
  by_parts (Some number) (Some path) en ep e = by_test number path (is_write wanted.verb && takes_writes path) en ep refl e

  pub marked_is : marked_in wanted ≡ Some marked → IsMarked wanted marked
  unfolding marked_in
  marked_is e = by_parts (mark_number wanted.mark) wanted.path refl refl e

-- ---- its answer

allowed : (path : Path) (verb : Verb) → is_write verb ≡ true → takes_writes path ≡ true → allows path verb ≡ true
allowed path Put w t = t
allowed path Delete w t = t
allowed path other w t = cc

needed : (verb : Verb) (write : Write) → is_write verb ≡ true → write.delete ≡ is_delete verb → access_of verb ≡ access_to write
needed Put write w e = ap (λ b. cond b (access_of Delete) (access_of Put)) (sym e)
needed Delete write w e = ap (λ b. cond b (access_of Delete) (access_of Put)) (sym e)
needed other write w e = cc

good_mark : (field : MarkField) (number : ℕ) → mark_number field ≡ Some number → is_good_mark field ≡ true
good_mark mark.Nothing number e = refl
good_mark (mark.Number n) number e = refl
good_mark mark.Bad number e = cc

module _ (state : HubState) (wanted : Wanted) (marked : Marked) (is : IsMarked wanted marked) (at : ℤ) (reply : Reply) (next : HubState) where
  abbrev IsPageReply : Type 0
  IsPageReply = IsWriteReply state wanted.token marked reply next

  module _ (by : GrantRow) (known : grant_in state wanted.token ≡ Some by) where
    abbrev after : Verdict → HubState
    after verdict = state_after state by.caller (Some marked.number) marked.write verdict

    -- the mark is held
    repeats : (held : MarkRow) (b : Bool) → mark_at (by.caller, marked.number) state.marks ≡ Some held → same_write held.write marked.write ≡ b
        → reply ≡ sent wanted (reply_to_write state wanted marked.write (cond b (Repeat held.kept) (Refused mark_taken_outcome))) → next ≡ after (cond b (Repeat held.kept) (Refused mark_taken_outcome)) → IsPageReply
    unfolding state_after kept_status
    repeats held true holds same e left = Shown by held known (ap (λ (s : HubState). mark_at (by.caller, marked.number) s.marks) left ∙ holds) (record {
      write = write_is held.write marked.write same;
      mark = ap (λ (r : Reply). r.mark) e ∙ is.number;
      status = ap (λ (r : Reply). status_of r.cause) e;
      version = ap (λ (r : Reply). r.version) e;
    })
    repeats held false holds other e left = Taken by held known holds (λ (same : held.write ≡ marked.write). differs (ap (λ w. same_write held.write w) (sym same)) other)
        (ap (λ (r : Reply). r.cause) e) (ap (λ (r : Reply). r.mark) e)
      where
        differs : same_write held.write marked.write ≡ same_write held.write held.write → same_write held.write marked.write ≡ false → ⊥
        differs one two = let three = write_same held.write in cc

    -- the mark is new, and so much is kept under it
    module _ (free : mark_at (by.caller, marked.number) state.marks ≡ None) where
      abbrev kept : Verdict → ℕ → MarkRow
      kept verdict outcome = record { caller = by.caller; number = marked.number; write = marked.write; kept = record { outcome = outcome; version = newest_after state verdict } }

      keeps : (verdict : Verdict) (outcome : ℕ) → outcome_of marked.write verdict ≡ Some outcome → next ≡ after verdict → mark_at (by.caller, marked.number) next.marks ≡ Some (kept verdict outcome)
      unfolding state_after
      keeps verdict outcome e left =
          ap (λ (s : HubState). mark_at (by.caller, marked.number) s.marks) left
          ∙ ap (λ o. mark_at (by.caller, marked.number) (with_kept (kept_mark by.caller (Some marked.number) marked.write (newest_after state verdict) o) state.marks)) e
          ∙ mark_found (kept verdict outcome) state.marks free

      not_one : (number : ℕ) → 2 ≤ number → outcome_of marked.write (Refused number) ≡ Some number
      not_one number le = let other : (number == 1) ≡ false = grind (arith, nat_tests) in ap (λ b. cond b None (Some number)) other

      over_one : (number : ℕ) → 2 ≤ number → cond (nat_lt 1 number) (mark_number wanted.mark) None ≡ Some marked.number
      over_one number le = let more : nat_lt 1 number ≡ true = grind (arith, nat_tests) in ap (λ b. cond b (mark_number wanted.mark) None) more ∙ is.number

      judges : (verdict : Verdict) → IsNew verdict → reply ≡ sent wanted (reply_to_write state wanted marked.write verdict) → next ≡ after verdict → IsPageReply
      unfolding kept_status
      judges (Leads version) new e left = Shown by (kept (Leads version) (done_of marked.write)) known (keeps (Leads version) (done_of marked.write) refl left) (record {
        write = refl;
        mark = ap (λ (r : Reply). r.mark) e ∙ is.number;
        status = ap (λ (r : Reply). status_of r.cause) e;
        version = ap (λ (r : Reply). r.version) e;
      })
      judges Same new e left = Shown by (kept Same (done_of marked.write)) known (keeps Same (done_of marked.write) refl left) (record {
        write = refl;
        mark = ap (λ (r : Reply). r.mark) e ∙ is.number;
        status = ap (λ (r : Reply). status_of r.cause) e;
        version = ap (λ (r : Reply). r.version) e;
      })
      judges (Repeat k) new e left = absurd new
      judges (Refused number) new e left = Shown by (kept (Refused number) number) known (keeps (Refused number) number (not_one number new) left) (record {
        write = refl;
        mark = ap (λ (r : Reply). r.mark) e ∙ over_one number new;
        status = ap (λ (r : Reply). status_of r.cause) e;
        version = ap (λ (r : Reply). r.version) e;
      })

    judged : (o : Option MarkRow) (verdict : Verdict) → mark_at (by.caller, marked.number) state.marks ≡ o → Judged o (newest_in state) by marked.write at verdict
        → reply ≡ sent wanted (reply_to_write state wanted marked.write verdict) → next ≡ after verdict → IsPageReply
    judged (Some held) verdict holds is_verdict e left =
        repeats held (same_write held.write marked.write) holds refl (e ∙ ap (λ v. sent wanted (reply_to_write state wanted marked.write v)) is_verdict) (left ∙ ap after is_verdict)
    judged None verdict free is_verdict e left = judges free verdict (new_judged (newest_in state) by marked.write at marked.write.delete verdict is_verdict) e left

    written : (verdict : Verdict) → Judges state by (mark_number wanted.mark) marked.write at verdict
        → reply ≡ sent wanted (reply_to_write state wanted marked.write verdict) → next ≡ state_after state by.caller (mark_number wanted.mark) marked.write verdict → IsPageReply
    unfolding Judges
    written verdict judges e left =
        judged (mark_at (by.caller, marked.number) state.marks) verdict refl (subst (λ n. Judged (held_mark state by.caller n) (newest_in state) by marked.write at verdict) is.number judges) e
        (left ∙ ap (λ n. state_after state by.caller n marked.write verdict) is.number)

    abbrev entry : Entry
    entry = record { path = is.path; by = by }

    opened : (b : Bool) → opens by.grant.scopes marked.write.kind (access_to marked.write) ≡ b
        → Written state wanted entry marked.write at (check b (refused_at wanted (newest_number state) cause.ScopeMissing) >>= λ _. check true (refused_at wanted (newest_number state) cause.BadMark)) reply next → IsPageReply
    opened false shut said = Shut by known shut (ap (λ (r : Reply). r.cause) said.0) (ap (λ (r : Reply). r.mark) said.0)
    opened true opens said = written said.0 said.1 said.2 said.3

    entered : Entered (is_write wanted.verb) state wanted at entry reply next → IsPageReply
    entered said =
        let one = subst (λ b. Entered b state wanted at entry reply next) is.writes said in
        let two = subst (λ w. Written state wanted entry w at (write_result state wanted entry) reply next) (sym is.write) one in
        let kind : kind_of_path is.path ≡ marked.write.kind = ap (λ (w : Write). w.kind) (sym is.write) in
        let access = needed wanted.verb marked.write is.writes (ap (λ (w : Write). w.delete) is.write) in
        let test : opens by.grant.scopes (kind_of_path is.path) (access_of wanted.verb) ≡ opens by.grant.scopes marked.write.kind (access_to marked.write) = λ i. opens by.grant.scopes (kind i) (access i) in
        let result = λ (b good : Bool). check b (refused_at wanted (newest_number state) cause.ScopeMissing) >>= λ _. check good (refused_at wanted (newest_number state) cause.BadMark) in
        opened _ refl (subst (λ r. Written state wanted entry marked.write at r reply next) (λ i. result (test i) (good_mark wanted.mark marked.number is.number i)) two)

  answered : (o : Option GrantRow) → grant_in state wanted.token ≡ o
      → Answered state wanted at (found_or (refused wanted cause.NoKnownToken) o >>= λ by. Ok (record { path = is.path; by = by })) reply next → IsPageReply
  answered None unknown said = Stranger unknown (ap (λ (r : Reply). r.cause) said.0) (ap (λ (r : Reply). r.mark) said.0)
  answered (Some by) known said = entered by known said

  -- a marked write is answered with one of four
  pub says_write : Answers state wanted at reply next → IsPageReply
  unfolding Answers
  says_write said =
      let path = ap (λ o. found_or (refused wanted cause.NoSuchPath) o >>= λ path. check (allows path wanted.verb) (method_refused wanted path) >>= λ _. found_or (refused wanted cause.NoKnownToken) (grant_in state wanted.token) >>= λ by. Ok (record { path = path; by = by })) is.is_path in
      let way = ap (λ b. check b (method_refused wanted is.path) >>= λ _. found_or (refused wanted cause.NoKnownToken) (grant_in state wanted.token) >>= λ by. Ok (record { path = is.path; by = by })) (allowed is.path wanted.verb is.writes is.takes) in
      answered (grant_in state wanted.token) refl (subst (λ r. Answered state wanted at r reply next) (path ∙ way) said)
