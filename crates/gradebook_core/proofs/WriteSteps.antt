-- What is made of a judgement is what its verdict leads to.
use Rattle.std.proofs.Common.{◌≡◌, ◌≤◌, ◌&&◌, ◌==◌, ℕ, ℤ, ◌-◌, Bool, true, false, cond, nat_le, inl, inr, List, [], ◌∷◌}
use Rattle.std.proofs.Common.{length, length-append, Option, None, Some, Ok, Err, refl, sym, ap, subst, ◌∙◌, arith}
use Rattle.std.proofs.lemmas.Bool.{and_parts, eqb-true, leb-true, or_cases}
use Rattle.std.specs.List.{AllByRecursion}
use Rattle.std.specs.Option.{ForSome}
use Rattle.gradebook_core.specs.Judging.{MayLead, RepeatsOneOf, verdict_of}
use Rattle.gradebook_core.specs.Outcomes.{check_number}
use Rattle.gradebook_core.specs.Writing.{MayCommit, LedBy, Writes, change_in, commit_of, number_after, refused_as}
use Rattle.gradebook_core.specs.Writing.{written_by, written_as, written_of}
use Rattle.gradebook_core.specs.declared.judgement.Judgement.{Judgement}
use Rattle.gradebook_core.specs.declared.judgement.Judgement.TheVariants as judgement
use Rattle.gradebook_core.specs.declared.outcome.Check.{Check}
use Rattle.gradebook_core.specs.declared.outcome.Check.TheVariants as check
use Rattle.gradebook_core.specs.declared.written.Written.{Written}
use Rattle.hub_core.proofs.StepLemmas.{may_follow, newest_is}
use Rattle.hub_core.specs.Steps.{Installs}
use Rattle.hub_core.specs.declared.hub_error.HubError.{HubError}
use Rattle.hub_core.specs.declared.hub_error.HubError.TheVariants as error
use Rattle.hub_spec.proofs.Judging.{judged_led}
use Rattle.hub_spec.proofs.Keeping.{may_hold}
use Rattle.hub_spec.proofs.Versions.{newest_has, reads_kept, some_version}
use Rattle.hub_spec.specs.rules.Verdicts.{Judged, Judges, held_mark, newest_in}
use Rattle.hub_spec.specs.rules.Written.{done_of, kept_mark, newest_after, outcome_of, state_after, with_kept}
use Rattle.keeper_memory.proofs.KeptLemmas as kept_lemmas
use Rattle.keeper_memory.proofs.PartLemmas.{follows}
use Rattle.keeper_memory.specs.Commits.{CanLead, marks_after, with_commit}
use Rattle.keeper_memory.specs.Kept.{IsKept, KeptState, newest_kept}
use Rattle.keeper_memory.specs.Parts.{IsPartOf}
use Rattle.keeper_memory.specs.declared.hub_commit.HubCommit.{HubCommit}
use Rattle.version_core.specs.HubStates.{HubState, IsHubState}
use Rattle.version_core.specs.Marks.{AreMarks, CanMark, is_outcome, mark_at, mark_key, same_mark}
use Rattle.version_core.specs.Outcomes.{deleted_outcome, stored_outcome}
use Rattle.version_core.specs.Version.{Versions, after, empty_version, last_or, newest_of}
use Rattle.version_core.specs.declared.change.BaseVersion.{BaseVersion}
use Rattle.version_core.specs.declared.grant_row.GrantRow.{GrantRow}
use Rattle.version_core.specs.declared.mark.Kept.{Kept}
use Rattle.version_core.specs.declared.mark.MarkRow.{MarkRow}
use Rattle.version_core.specs.declared.mark.Write.{Write}

-- the newest version of a state is the newest that is kept
pub newest_same : (state : HubState) → IsHubState state → (kept : KeptState) → IsPartOf kept state → newest_in state ≡ newest_kept kept.versions
newest_same state is kept part = (reads_kept state is kept.versions (sym part.versions)).newest

marks_are : (marks : List MarkRow) (mark : Option MarkRow) → marks_after marks mark ≡ with_kept mark marks
marks_are marks None = refl
marks_are marks (Some mark) = refl

-- what is kept of a judgement doesn't turn on the version that a repeat tells
pub same_commit : (newest : BaseVersion) (caller : List ℕ) (mark : Option ℕ) (write : Write) (made : Judgement)
    → commit_of newest caller mark write made (written_by newest mark write made).version ≡ commit_of newest caller mark write made (number_after newest made)
same_commit newest caller None write (judgement.Repeat kept) = refl
same_commit newest caller (Some number) write (judgement.Repeat kept) = refl
same_commit newest caller mark write other = refl

-- ---- where it leads

module _ (state : HubState) (is : IsHubState state) (kept : KeptState) (part : IsPartOf kept state) where
  abbrev newest : BaseVersion
  newest = newest_kept kept.versions

  number : newest.number ≡ length state.published - 1
  number = ap (λ (v : BaseVersion). v.number) (sym (newest_same state is kept part)) ∙ newest_has state is

  some : state.published ≡ [] → ⊥
  some none = let here = some_version state is in let empty = ap length none in absurd (omega arith)

  number_is : (made : Judgement) → MayLead newest made → number_after newest made ≡ newest_after state (verdict_of newest made)
  number_is (judgement.New change) leads =
      let next = leads.next in
      let long = length-append state.published (after newest change ∷ []) in
      let here = some_version state is in
      let last = number in
      omega arith
  number_is other leads = number

  module _ (mark : Option ℕ) (write : Write) where
    -- what is told is what the verdict says
    pub written_is : (made : Judgement) → MayLead newest made → written_by newest mark write made ≡ written_of state mark write (verdict_of newest made)
    written_is (judgement.New change) leads = ap (written_as mark (done_of write)) (number_is (judgement.New change) leads)
    written_is judgement.Same leads = ap (written_as mark (done_of write)) number
    written_is (judgement.Repeat held) leads = refl
    written_is (judgement.Refused n) leads = ap (refused_as mark (check_number n)) number

    marks_led : (caller : List ℕ) (made : Judgement) → MayLead newest made
        → marks_after kept.marks (kept_mark caller mark write (number_after newest made) (outcome_of write (verdict_of newest made)))
        ≡ with_kept (kept_mark caller mark write (newest_after state (verdict_of newest made)) (outcome_of write (verdict_of newest made))) state.marks
    marks_led caller made leads =
        marks_are kept.marks (kept_mark caller mark write (number_after newest made) (outcome_of write (verdict_of newest made)))
        ∙ (λ i. with_kept (kept_mark caller mark write (number_is made leads i) (outcome_of write (verdict_of newest made))) (part.marks i))

    -- and the commit leads where the verdict does
    pub led : (caller : List ℕ) (made : Judgement) → MayLead newest made
        → IsPartOf (with_commit kept (commit_of newest caller mark write made (number_after newest made))) (state_after state caller mark write (verdict_of newest made))
    unfolding state_after
    led caller (judgement.New change) leads =
        let next = follows kept state (after newest change) some part in
        record { keep = next.keep; versions = next.versions; marks = marks_led caller (judgement.New change) leads }
    led caller judgement.Same leads = record { keep = part.keep; versions = part.versions; marks = marks_led caller judgement.Same leads }
    led caller (judgement.Repeat held) leads = record { keep = part.keep; versions = part.versions; marks = marks_led caller (judgement.Repeat held) leads }
    led caller (judgement.Refused n) leads = record { keep = part.keep; versions = part.versions; marks = marks_led caller (judgement.Refused n) leads }

-- ---- that it may be made

-- the kept versions, taken for all that were published: the verdict reads no others
abbrev pub as_state : KeptState → HubState
as_state kept = record { keep = kept.keep; published = kept.versions; marks = kept.marks }

module _ (kept : KeptState) (is : IsKept kept) (by : GrantRow) (mark : Option ℕ) (write : Write) (at : ℤ) (made : Judgement)
    (judged : Judges (as_state kept) by mark write at (verdict_of (newest_kept kept.versions) made)) (leads : MayLead (newest_kept kept.versions) made) where
  abbrev due : HubCommit
  due = commit_of (newest_kept kept.versions) by.caller mark write made (number_after (newest_kept kept.versions) made)

  may_lead : (m : Judgement) → made ≡ m → ForSome (change_in m) (CanLead kept.versions)
  unfolding Judges
  may_lead (judgement.New change) same = λ other e.
      let newest = newest_kept kept.versions in
      let one : change ≡ other = cc in
      let verdict = subst (λ m. Judged (held_mark (as_state kept) by.caller mark) newest by write at (verdict_of newest m)) same judged in
      let on = subst (MayLead newest) same leads in
      let next = judged_led newest (newest_is kept.keep kept.versions is.versions) at by write (after newest change) (held_mark (as_state kept) by.caller mark) verdict in
      subst (CanLead kept.versions) one (record { follows = may_follow kept.keep kept.versions is.versions (after newest change) next; changes = on.changes })
  may_lead rest same = λ other e. cc

  -- the newest version after the commit
  last : (m : Judgement) (marked : Option MarkRow) → (newest_kept (with_commit kept (record { change = change_in m; mark = marked })).versions).number ≡ number_after (newest_kept kept.versions) m
  last (judgement.New change) marked = ap (λ (v : BaseVersion). v.number) (kept_lemmas.newest_after kept.keep kept.versions (after (newest_kept kept.versions) change))
  last other marked = refl

  may_mark : (number : ℕ) (n o : Option ℕ) → mark ≡ n → outcome_of write (verdict_of (newest_kept kept.versions) made) ≡ o → ForSome (kept_mark by.caller n write number o) (CanMark number kept.marks)
  may_mark number None o named kept_so = λ row e. cc
  may_mark number (Some n) None named kept_so = λ row e. cc
  may_mark number (Some n) (Some o) named kept_so = λ row e.
      let one : record { caller = by.caller; number = n; write = write; kept = record { outcome = o; version = number } } ≡ row = cc in
      subst (CanMark number kept.marks) one (may_hold (as_state kept) by mark write at (verdict_of (newest_kept kept.versions) made) judged number n o named kept_so)

  pub may : MayCommit kept due
  may = record {
    change = may_lead made refl;
    mark = subst (λ number. ForSome due.mark (CanMark number kept.marks)) (sym (last made due.mark))
        (may_mark (number_after (newest_kept kept.versions) made) mark (outcome_of write (verdict_of (newest_kept kept.versions) made)) refl refl);
  }

-- ---- what is answered

module _ (by : GrantRow) (mark : Option ℕ) (write : Write) (at : ℤ) (kept : KeptState) (made : Judgement)
    (judged : (state : HubState) → newest_in state ≡ newest_kept kept.versions → state.marks ≡ kept.marks → Judges state by mark write at (verdict_of (newest_kept kept.versions) made))
    (leads : MayLead (newest_kept kept.versions) made) where
  abbrev handed : HubCommit
  handed = commit_of (newest_kept kept.versions) by.caller mark write made (number_after (newest_kept kept.versions) made)

  led_by : (state : HubState) → IsHubState state → IsPartOf kept state → LedBy by mark write at state (with_commit kept handed) (verdict_of (newest_kept kept.versions) made)
  led_by state is part = record { judged = judged state (newest_same state is kept part) (sym part.marks); led = led state is kept part mark write by.caller made leads }

  pub writes_done : (after : KeptState) → after ≡ with_commit kept handed → Writes by mark write at (Ok (written_by (newest_kept kept.versions) mark write made)) kept after
  writes_done after same state is part =
      let verdict = verdict_of (newest_kept kept.versions) made in
      (verdict, subst (λ k. LedBy by mark write at state k verdict) (sym same) (led_by state is part), written_is state is kept part mark write made leads)

  pub writes_failed : (e : HubError) (after : KeptState) → Installs {T = Unit {0}} handed (Err e) kept after → Writes by mark write at (Err e) kept after
  writes_failed error.Keeper after (inl same) state is part = inl (subst (λ k. IsPartOf k state) (sym same) part)
  writes_failed error.Keeper after (inr done) state is part =
      let verdict = verdict_of (newest_kept kept.versions) made in
      inr (verdict, subst (λ k. LedBy by mark write at state k verdict) (sym done) (led_by state is part))
  writes_failed error.NoMemory after same state is part = subst (λ k. IsPartOf k state) (sym same) part
  writes_failed (error.Refused fault) after made state is part = made

-- ---- over a table and marks that stand for what is kept

module _ (kept : KeptState) (table : Versions) (marks : List MarkRow) (same : table.versions ≡ kept.versions) (same_marks : marks ≡ kept.marks)
    (by : GrantRow) (mark : Option ℕ) (write : Write) (at : ℤ) (made : Judgement)
    (judged : (state : HubState) → newest_in state ≡ newest_of table → state.marks ≡ marks → Judges state by mark write at (verdict_of (newest_of table) made))
    (leads : MayLead (newest_of table) made)
    (told : Written) (is_told : told ≡ written_by (newest_of table) mark write made)
    (due : HubCommit) (is_due : (newest : BaseVersion) → due ≡ commit_of newest by.caller mark write made told.version) where
  same_newest : newest_of table ≡ newest_kept kept.versions
  same_newest = ap (λ versions. last_or empty_version versions) same

  judged_here : (state : HubState) → newest_in state ≡ newest_kept kept.versions → state.marks ≡ kept.marks → Judges state by mark write at (verdict_of (newest_kept kept.versions) made)
  judged_here state is_newest are_marks =
      subst (λ newest. Judges state by mark write at (verdict_of newest made)) same_newest (judged state (is_newest ∙ sym same_newest) (are_marks ∙ sym same_marks))

  leads_here : MayLead (newest_kept kept.versions) made
  leads_here = subst (λ newest. MayLead newest made) same_newest leads

  told_here : told ≡ written_by (newest_kept kept.versions) mark write made
  told_here = is_told ∙ ap (λ newest. written_by newest mark write made) same_newest

  due_here : due ≡ commit_of (newest_kept kept.versions) by.caller mark write made (number_after (newest_kept kept.versions) made)
  due_here = is_due (newest_kept kept.versions) ∙ ap (λ (w : Written). commit_of (newest_kept kept.versions) by.caller mark write made w.version) told_here
      ∙ same_commit (newest_kept kept.versions) by.caller mark write made

  pub may_commit : IsKept kept → MayCommit kept due
  may_commit is = subst (MayCommit kept) (sym due_here) (may kept is by mark write at made (judged_here (as_state kept) refl refl) leads_here)

  pub done : (after : KeptState) → after ≡ with_commit kept due → Writes by mark write at (Ok told) kept after
  done after led_so =
      subst (λ (w : Written). Writes by mark write at (Ok w) kept after) (sym told_here) (writes_done by mark write at kept made judged_here leads_here after (led_so ∙ ap (with_commit kept) due_here))

  pub failed : (e : HubError) (after : KeptState) → Installs {T = Unit {0}} due (Err e) kept after → Writes by mark write at (Err e) kept after
  failed e after installs = writes_failed by mark write at kept made judged_here leads_here e after (subst (λ d. Installs {T = Unit {0}} d (Err e) kept after) due_here installs)

-- ---- the number of an outcome

-- what holds of each mark holds of one that is found
found_has : (P : MarkRow → Type 0) (key : List ℕ × ℕ) (marks : List MarkRow) (held : MarkRow) → AllByRecursion P marks → mark_at key marks ≡ Some held → P held
found_has P key [] held all found = let none : None ≡ Some held = found in absurd (cc)
found_has P key (mark ∷ marks) held all found =
    elim (same_mark key (mark_key mark)) as (λ b. cond b (Some mark) (mark_at key marks) ≡ Some held → P held) [
      | true ↦ λ here. let same : mark ≡ held = cc in subst P same all.0
      | false ↦ λ there. found_has P key marks held all.1 there
    ] found

kept_low : (delete : Bool) (n : ℕ) → is_outcome delete n ≡ true → n ≤ deleted_outcome
kept_low delete n is = elim (or_cases (n == cond delete 9 0) (nat_le 2 n && nat_le n 8) is) [
  | inl same ↦ let here = eqb-true n (cond delete 9 0) same in
      subst (λ m. m ≤ deleted_outcome) (sym here) (elim delete as (λ b. cond b deleted_outcome stored_outcome ≤ deleted_outcome) [ true ↦ omega arith | false ↦ omega arith ])
  | inr between ↦ let high = leb-true n 8 (and_parts (nat_le 2 n) (nat_le n 8) between).1 in omega arith
]

done_low : (write : Write) → done_of write ≤ deleted_outcome
done_low write = elim write.delete as (λ b. cond b deleted_outcome stored_outcome ≤ deleted_outcome) [ true ↦ omega arith | false ↦ omega arith ]

check_low : (failed : Check) → check_number failed ≤ deleted_outcome
check_low check.MarkOfAnotherWrite = omega arith
check_low check.BadBody = omega arith
check_low check.NoSuchObject = omega arith
check_low check.OwnedByAnother = omega arith
check_low check.ReferenceOutsideGrant = omega arith
check_low check.ReferenceOfWrongType = omega arith
check_low check.TooManyRows = omega arith
check_low check.LastVersion = omega arith

-- what is told of a judgement is the number of an outcome
pub told_low : (top : ℕ) (marks : List MarkRow) → AreMarks top marks → (newest : BaseVersion) (mark : Option ℕ) (write : Write) (made : Judgement)
    → RepeatsOneOf marks made → (written_by newest mark write made).outcome ≤ deleted_outcome
told_low top marks are newest mark write (judgement.New change) repeats = done_low write
told_low top marks are newest mark write judgement.Same repeats = done_low write
told_low top marks are newest mark write (judgement.Repeat kept) repeats =
    let has = found_has (λ m. is_outcome m.write.delete m.kept.outcome ≡ true) repeats.key marks repeats.held are.outcomes repeats.found in
    subst (λ (k : Kept). k.outcome ≤ deleted_outcome) (sym repeats.is) (kept_low repeats.held.write.delete repeats.held.kept.outcome has)
told_low top marks are newest mark write (judgement.Refused failed) repeats = check_low failed
