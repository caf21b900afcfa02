-- Each step lets a state grow, and a new mark is that of its request.
use Rattle.std.proofs.Common.{◌≡◌, ℕ, ℤ, zero, suc, find, ◌<◌, ◌≤◌, inl, inr, Bool, true, false, cond, List, [], ◌∷◌}
use Rattle.std.proofs.Common.{◌++◌, length, length-append, get_or, Option, None, Some, Result, Ok, Err, refl, sym, ap}
use Rattle.std.proofs.Common.{subst, ◌∙◌, arith}
use Rattle.std.proofs.Math.ListN.{get_or-append}
use Rattle.hub_spec.specs.rules.Answers.{Answered, Answers, Entered, Written, write_of, write_result}
use Rattle.hub_spec.specs.rules.Checks.{Entry, check, entry_of, grant_in, method_refused, refused}
use Rattle.hub_spec.specs.rules.Growth.{GrowsBy, Grew, IsMarkOf, IsNewMark, IsRunMark}
use Rattle.hub_spec.specs.rules.Marked.{same_write}
use Rattle.hub_spec.specs.rules.Runs.{Acts, ActedOrNot, Answer, Command, Does, Fails, Publish, Reopen, Runs, SetGrants}
use Rattle.hub_spec.specs.rules.Runs.{Step, Steps, Take, Wants, WantsMemory, end_of, state_with}
use Rattle.hub_spec.specs.rules.Verdicts.{Judged, Judges, Leads, Refused, Repeat, Verdict, held_mark, newest_in}
use Rattle.hub_spec.specs.rules.Verdicts.{repeated}
use Rattle.hub_spec.specs.rules.Wanted.{Wanted, allows, is_write, mark_number}
use Rattle.hub_spec.specs.rules.Written.{kept_mark, newest_after, outcome_of, published_after, state_after, with_kept}
use Rattle.rest_paths.specs.Paths.{PathParts as Path}
use Rattle.std.specs.List.{insert, prefix_len}
use Rattle.version_core.proofs.MarkLemmas.{from_same}
use Rattle.version_core.specs.Marks.{is_below, mark_at, mark_key, same_mark, with_mark}
use Rattle.roster_base.specs.Reading.{◌>>=◌}
use Rattle.roster_texts.specs.Results.{found_or}
use Rattle.version_changes.specs.sets.Applying as applying
use Rattle.status_info.specs.declared.cause.Cause.TheVariants as cause
use Rattle.status_info.specs.declared.reply.Reply.{Reply}
use Rattle.version_core.specs.HubStates.{HubState}
use Rattle.version_core.specs.Outcomes.{mark_taken_outcome}
use Rattle.version_core.specs.Version.{empty_version}
use Rattle.version_core.specs.declared.change.BaseVersion.{BaseVersion}
use Rattle.version_core.specs.declared.grant_row.GrantRow.{GrantRow}
use Rattle.version_core.specs.declared.mark.MarkRow.{MarkRow}
use Rattle.version_core.specs.declared.mark.Write.{Write}

pub Grew-refl : (state : HubState) → Grew state state
Grew-refl state = record { keep = refl; longer = omega arith; same = λ n within. refl; marks = λ caller n mark held. held }

pub Grew-trans : (one two three : HubState) → Grew one two → Grew two three → Grew one three
Grew-trans one two three first second = record {
  keep = second.keep ∙ first.keep;
  longer = let a = first.longer in let b = second.longer in omega arith;
  same = λ n within. second.same n (let a = first.longer in omega arith) ∙ first.same n within;
  marks = λ caller n mark held. second.marks caller n mark (first.marks caller n mark held);
}

-- one version more
pub Grew-published : (state : HubState) (version : BaseVersion) → Grew state (record state { published = state.published ++ version ∷ [] })
Grew-published state version = record {
  keep = refl;
  longer = omega (arith, length-append state.published (version ∷ []));
  same = λ n within. get_or-append state.published (version ∷ []) _ n within;
  marks = λ caller n mark held. held;
}

-- what is found where an item is put among others
module _ {X : Type 0} (p : X → Bool) where
  find_other : (xs : List X) (i : ℕ) (x : X) → p x ≡ false → find p (insert xs i x) ≡ find p xs
  find_other xs zero x fails = ap (λ b. cond b (Some x) (find p xs)) fails
  find_other [] (suc i) x fails = ap (λ b. cond b (Some x) None) fails
  find_other (y ∷ ys) (suc i) x fails = ap (cond (p y) (Some y)) (find_other ys i x fails)

  pub find_it : (xs : List X) (i : ℕ) (x : X) → p x ≡ true → find p xs ≡ None → find p (insert xs i x) ≡ Some x
  find_it xs zero x is none = ap (λ b. cond b (Some x) (find p xs)) is
  find_it [] (suc i) x is none = ap (λ b. cond b (Some x) None) is
  find_it (y ∷ ys) (suc i) x is none =
      elim (p y) as (λ b. cond b (Some y) (find p ys) ≡ None → cond b (Some y) (find p (insert ys i x)) ≡ Some x) [
        | true ↦ λ e. cc
        | false ↦ λ e. find_it ys i x is e
      ] none

-- a mark that isn't held is added; the others stay, and it alone is new
module _ (mark : MarkRow) (marks : List MarkRow) where
  pub others_stay : mark_at (mark_key mark) marks ≡ None → (key : List ℕ × ℕ) (held : MarkRow) → mark_at key marks ≡ Some held → mark_at key (with_mark mark marks) ≡ Some held
  others_stay none key held is =
      elim (same_mark key (mark_key mark)) as (λ b. same_mark key (mark_key mark) ≡ b → mark_at key (with_mark mark marks) ≡ Some held) [
        | true ↦ λ e. let never : mark_at key marks ≡ None = subst (λ k. mark_at k marks ≡ None) (sym (from_same key (mark_key mark) e)) none in cc
        | false ↦ λ e. find_other (λ m. same_mark key (mark_key m)) marks (prefix_len (is_below mark) marks) mark e ∙ is
      ] refl

  pub new_is_it : (key : List ℕ × ℕ) (held : MarkRow) → mark_at key marks ≡ None → mark_at key (with_mark mark marks) ≡ Some held → (key ≡ mark_key mark) × (held ≡ mark)
  new_is_it key held none is =
      elim (same_mark key (mark_key mark)) as (λ b. same_mark key (mark_key mark) ≡ b → (key ≡ mark_key mark) × (held ≡ mark)) [
        | true ↦ λ e. (from_same key (mark_key mark) e, let found = find_it (λ m. same_mark key (mark_key m)) marks (prefix_len (is_below mark) marks) mark e none in let same : held ≡ mark = cc in same)
        | false ↦ λ e. let stays = find_other (λ m. same_mark key (mark_key m)) marks (prefix_len (is_below mark) marks) mark e in cc
      ] refl

-- what is kept of a write adds no mark where one is held
module _ (state : HubState) (by : GrantRow) (number : Option ℕ) (write : Write) where
  abbrev after_verdict : Verdict → HubState
  after_verdict verdict = state_after state by.caller number write verdict

  Grew-verdict : (verdict : Verdict) → ((n : ℕ) (outcome : ℕ) → number ≡ Some n → outcome_of write verdict ≡ Some outcome → mark_at (by.caller, n) state.marks ≡ None) → Grew state (after_verdict verdict)
  unfolding state_after
  Grew-verdict verdict free = record {
    keep = refl;
    longer = longer_after verdict;
    same = same_after verdict;
    marks = λ caller n mark held. kept_after number (outcome_of write verdict) (λ m outcome e o. free m outcome e o) caller n mark held;
  }
    where
      longer_after : (verdict : Verdict) → length state.published ≤ length (published_after state.published verdict)
      longer_after (Leads version) = omega (arith, length-append state.published (version ∷ []))
      longer_after other = omega arith

      same_after : (verdict : Verdict) (n : ℕ) → n < length state.published → get_or (published_after state.published verdict) n empty_version ≡ get_or state.published n empty_version
      same_after (Leads version) n within = get_or-append state.published (version ∷ []) _ n within
      same_after other n within = refl

      kept_after : (number outcome : Option ℕ) → ((n o : ℕ) → number ≡ Some n → outcome ≡ Some o → mark_at (by.caller, n) state.marks ≡ None) → (caller : List ℕ) (n : ℕ) (mark : MarkRow) → mark_at (caller, n) state.marks ≡ Some mark → mark_at (caller, n) (with_kept (kept_mark by.caller number write (newest_after state verdict) outcome) state.marks) ≡ Some mark
      kept_after None outcome free caller n mark held = held
      kept_after (Some m) None free caller n mark held = held
      kept_after (Some m) (Some o) free caller n mark held = others_stay _ state.marks (free m o refl refl) (caller, n) mark held

  -- a verdict on a write whose mark is held keeps nothing
  held_keeps_nothing : (held : MarkRow) (outcome : ℕ) → outcome_of write (repeated held write) ≡ Some outcome → ⊥
  held_keeps_nothing held outcome e =
      elim (same_write held.write write) as (λ b. outcome_of write (cond b (Repeat held.kept) (Refused mark_taken_outcome)) ≡ Some outcome → ⊥) [ true ↦ λ e. cc | false ↦ λ e. cc ] e

  pub free_of_judged : (at : ℤ) (verdict : Verdict) → Judges state by number write at verdict → (n outcome : ℕ) → number ≡ Some n → outcome_of write verdict ≡ Some outcome → mark_at (by.caller, n) state.marks ≡ None
  unfolding Judges
  free_of_judged at verdict judged n outcome is kept =
      elim (held_mark state by.caller number) as (λ o. held_mark state by.caller number ≡ o → Judged o (newest_in state) by write at verdict → mark_at (by.caller, n) state.marks ≡ None) [
        | None ↦ λ none _. subst (λ m. held_mark state by.caller m ≡ None) is none
        | Some held ↦ λ _ same. absurd (held_keeps_nothing held outcome (ap (outcome_of write) (sym same) ∙ kept))
      ] refl judged

  pub Grew-judged : (at : ℤ) (verdict : Verdict) → Judges state by number write at verdict → Grew state (after_verdict verdict)
  Grew-judged at verdict judged = Grew-verdict verdict (free_of_judged at verdict judged)

  -- a mark that is new has the number and the write, and is the caller's
  pub new_of_verdict : (verdict : Verdict) (caller : List ℕ) (place : ℕ) (mark : MarkRow) → IsNewMark state (after_verdict verdict) caller place mark → (number ≡ Some place) × (mark.write ≡ write) × (by.caller ≡ caller)
  unfolding state_after
  new_of_verdict verdict caller place mark new = from number (outcome_of write verdict) new
    where
      from : (number outcome : Option ℕ) → (mark_at (caller, place) state.marks ≡ None) × (mark_at (caller, place) (with_kept (kept_mark by.caller number write (newest_after state verdict) outcome) state.marks) ≡ Some mark) → (number ≡ Some place) × (mark.write ≡ write) × (by.caller ≡ caller)
      from None outcome new = absurd (let a = new.0 in let b = new.1 in cc)
      from (Some m) None new = absurd (let a = new.0 in let b = new.1 in cc)
      from (Some m) (Some o) new =
          let it = new_is_it _ state.marks (caller, place) mark new.0 new.1 in
          (ap (λ (k : List ℕ × ℕ). Some k.1) (sym it.0), ap (λ (r : MarkRow). r.write) it.1, ap (λ (k : List ℕ × ℕ). k.0) (sym it.0))

-- what a request that enters says of itself
pub record Enters (before : HubState) (wanted : Wanted) (entry : Entry) : Type 0 where
  pub path : wanted.path ≡ Some entry.path
  pub allowed : allows entry.path wanted.verb ≡ true
  pub by : grant_in before wanted.token ≡ Some entry.by

module _ (before : HubState) (wanted : Wanted) where
  named_by : (path : Path) (o : Option GrantRow) (entry : Entry) → wanted.path ≡ Some path → allows path wanted.verb ≡ true → grant_in before wanted.token ≡ o
      → (found_or (refused wanted cause.NoKnownToken) o >>= λ by. Ok (record { path = path; by = by })) ≡ Ok entry → Enters before wanted entry
  named_by path None entry is may known e = cc
  named_by path (Some by) entry is may known e =
      let same : record { path = path; by = by } ≡ entry = cc in
      record { path = is ∙ ap (λ (x : Entry). Some x.path) same; allowed = subst (λ (x : Entry). allows x.path wanted.verb ≡ true) same may; by = known ∙ ap (λ (x : Entry). Some x.by) same }

  allowed_by : (path : Path) (b : Bool) (entry : Entry) → wanted.path ≡ Some path → allows path wanted.verb ≡ b
      → (check b (method_refused wanted path) >>= λ _. found_or (refused wanted cause.NoKnownToken) (grant_in before wanted.token) >>= λ by. Ok (record { path = path; by = by })) ≡ Ok entry → Enters before wanted entry
  allowed_by path false entry is may e = cc
  allowed_by path true entry is may e = named_by path (grant_in before wanted.token) entry is may refl e

  entered : (o : Option Path) (entry : Entry) → wanted.path ≡ o
      → (found_or (refused wanted cause.NoSuchPath) o >>= λ path. check (allows path wanted.verb) (method_refused wanted path) >>= λ _. found_or (refused wanted cause.NoKnownToken) (grant_in before wanted.token) >>= λ by. Ok (record { path = path; by = by })) ≡ Ok entry → Enters before wanted entry
  entered None entry is e = cc
  entered (Some path) entry is e = allowed_by path (allows path wanted.verb) entry is refl e

  pub enters : (entry : Entry) → entry_of before wanted ≡ Ok entry → Enters before wanted entry
  enters entry e = entered wanted.path entry refl e

-- what an answer leaves: a state that grew, where each new mark is the request's
pub record Leaves (before : HubState) (wanted : Wanted) (after : HubState) : Type 0 where
  pub grew : Grew before after
  pub marks : (caller : List ℕ) (number : ℕ) (mark : MarkRow) → IsNewMark before after caller number mark → IsMarkOf wanted before caller number mark

no_new_mark : (state : HubState) (caller : List ℕ) (number : ℕ) (mark : MarkRow) → IsNewMark state state caller number mark → ⊥
no_new_mark state caller number mark new = let a = new.0 in let b = new.1 in cc

pub Leaves-same : (before : HubState) (wanted : Wanted) (after : HubState) → after ≡ before → Leaves before wanted after
Leaves-same before wanted after same =
    subst (Leaves before wanted) (sym same) (record { grew = Grew-refl before; marks = λ caller number mark new. absurd (no_new_mark before caller number mark new) })

module _ (before : HubState) (wanted : Wanted) (at : ℤ) (reply : Reply) (after : HubState) where
  written_leaves : (entry : Entry) (r : Result Bool Reply) → Enters before wanted entry → Written before wanted entry (write_of wanted entry.path) at r reply after → Leaves before wanted after
  written_leaves entry (Err refusal) enters written = Leaves-same before wanted after written.1
  written_leaves entry (Ok passed) enters written =
      let write = write_of wanted entry.path in
      let number = mark_number wanted.mark in
      subst (Leaves before wanted) (sym written.3) (record {
        grew = Grew-judged before entry.by number write at written.0 written.1;
        marks = λ caller place mark new.
            let it = new_of_verdict before entry.by number write written.0 caller place mark new in
            record { number = it.0; write = (entry.path, enters.path, it.1); caller = (entry.by, enters.by, it.2) };
      })

  entered_leaves : (b : Bool) (entry : Entry) → Enters before wanted entry → Entered b before wanted at entry reply after → Leaves before wanted after
  entered_leaves true entry enters e = written_leaves entry (write_result before wanted entry) enters e
  entered_leaves false entry enters e = Leaves-same before wanted after e.1

  answered_leaves : (r : Result Entry Reply) → entry_of before wanted ≡ r → Answered before wanted at r reply after → Leaves before wanted after
  answered_leaves (Err refusal) is e = Leaves-same before wanted after e.1
  answered_leaves (Ok entry) is e = entered_leaves (is_write wanted.verb) entry (enters before wanted entry is) e

  pub answer_leaves : Answers before wanted at reply after → Leaves before wanted after
  unfolding Answers
  answer_leaves answers = answered_leaves (entry_of before wanted) refl answers

GrowsBy-same : (command : Command) (before after : HubState) → after ≡ before → GrowsBy command before after
GrowsBy-same command before after same =
    subst (GrowsBy command before) (sym same) (record { grew = Grew-refl before; marks = λ caller number mark new. absurd (no_new_mark before caller number mark new) })

GrowsBy-made : (command : Command) (before after : HubState) (outcome : applying.Outcome) → after ≡ state_with before outcome → GrowsBy command before after
GrowsBy-made command before after (applying.Refuses fault) same = GrowsBy-same command before after same
GrowsBy-made command before after applying.Unchanged same = GrowsBy-same command before after same
GrowsBy-made command before after (applying.Leads version) same =
    subst (GrowsBy command before) (sym same) (record { grew = Grew-published before version; marks = λ caller number mark new. absurd (no_new_mark before caller number mark new) })

does_go : (command : Command) (before : HubState) (answer : Answer) (after : HubState) → Does command before answer after → GrowsBy command before after
does_go (Publish set at) before answer after does = GrowsBy-made (Publish set at) before after does.0 does.3
does_go (SetGrants entries at) before answer after does = GrowsBy-made (SetGrants entries at) before after does.0 does.3
does_go (Take wanted at) before answer after does =
    let leaves = answer_leaves before wanted at does.0 after does.1 in
    record { grew = leaves.grew; marks = λ caller number mark new. (wanted, at, refl, leaves.marks caller number mark new) }
does_go Reopen before answer after does = GrowsBy-same Reopen before after does.1

acted_goes : (command : Command) (before after : HubState) → ActedOrNot command before after → GrowsBy command before after
acted_goes command before after (inl same) = GrowsBy-same command before after same
acted_goes command before after (inr does) = does_go command before does.0 after does.1

wants_goes : (command : Command) (before after : HubState) → Wants command before after → GrowsBy command before after
wants_goes (Publish set at) before after wants = GrowsBy-same (Publish set at) before after wants
wants_goes (SetGrants entries at) before after wants = GrowsBy-same (SetGrants entries at) before after wants
wants_goes (Take wanted at) before after wants = acted_goes (Take wanted at) before after wants
wants_goes Reopen before after wants = GrowsBy-same Reopen before after wants

pub step_grows : (command : Command) (before : HubState) (answer : Answer) (after : HubState) (failed : ℕ) → Steps command before answer after failed → GrowsBy command before after
step_grows command before answer after failed (Acts does none) = does_go command before answer after does
step_grows command before answer after failed (Fails acted told once) = acted_goes command before after acted
step_grows command before answer after failed (WantsMemory wants told none) = wants_goes command before after wants

-- and a run of steps
pub run_grows : (before : HubState) (steps : List Step) (faults : ℕ) → Runs before steps faults → Grew before (end_of before steps)
run_grows before [] faults run = Grew-refl before
run_grows before (step ∷ steps) faults run =
    Grew-trans before step.after (end_of step.after steps) (step_grows step.command before step.answer step.after run.0 run.2).grew (run_grows step.after steps run.1 run.4)

pub run_marks : (before : HubState) (steps : List Step) (faults : ℕ) → Runs before steps faults → (caller : List ℕ) (number : ℕ) (mark : MarkRow)
    → IsNewMark before (end_of before steps) caller number mark → IsRunMark before steps (end_of before steps) caller number mark
run_marks before [] faults run caller number mark new = absurd (no_new_mark before caller number mark new)
run_marks before (step ∷ steps) faults run caller number mark new =
    let goes = step_grows step.command before step.answer step.after run.0 run.2 in
    let rest = run_grows step.after steps run.1 run.4 in
    elim (mark_at (caller, number) step.after.marks) as (λ o. mark_at (caller, number) step.after.marks ≡ o → IsRunMark before (step ∷ steps) (end_of step.after steps) caller number mark) [
      | None ↦ λ none.
          let later = run_marks step.after steps run.1 run.4 caller number mark (none, new.1) in
          record {
            wanted = later.wanted;
            taken_at = later.taken_at;
            asked = inr later.asked;
            since = Grew-trans before step.after later.taken_at goes.grew later.since;
            until = later.until;
            mark = later.mark;
          }
      | Some held ↦ λ is.
          let stays = rest.marks caller number held is in
          let same : held ≡ mark = let e = new.1 in cc in
          let from = goes.marks caller number mark (new.0, is ∙ ap (λ m. Some m) same) in
          record {
            wanted = from.0;
            taken_at = before;
            asked = inl (from.1, from.2);
            since = Grew-refl before;
            until = Grew-trans before step.after (end_of step.after steps) goes.grew rest;
            mark = from.3;
          }
    ] refl
