-- What a copy holds, cascaded into a hub.
use Rattle.std.proofs.Common.{◌≡◌, ◌≢◌, ◌⊎◌, ℕ, ℤ, List, [], Option, Result, Ok, Err, true, false, refl, sym, subst, inl, inr}
use Rattle.exchange_link.specs.Between.{CopyRun}
use Rattle.hub_cascade.specs.Answers.{CountsCopy, CountsHub, MakesCascade, TellsHeld}
use Rattle.hub_cascade.specs.Held.{CascadesHeld}
use Rattle.hub_cascade.specs.declared.error.CascadeError.{CascadeError}
use Rattle.hub_cascade.specs.declared.error.CascadeError.TheVariants as error
use Rattle.hub_core.specs.declared.hub_error.HubError.{HubError}
use Rattle.hub_core.specs.declared.hub_error.HubError.TheVariants as hub_error
use Rattle.hub_core.specs.declared.published.Published.{Published}
use Rattle.hub_core.specs.declared.published.Published.TheVariants.{New}
use Rattle.hub_core.specs.Standing.{HeldHub, KeeperFits, StandsFrom}
use Rattle.hub_core.specs.Steps.{CountsFault, RefusesNothing}
use Rattle.keeper_memory.specs.Kept.{IsKept, KeptState}
use Rattle.rest_provider.specs.Moments.{IsMomentOf}
use Rattle.roster_base.specs.Faults.{Rose}
use Rattle.version_changes.specs.declared.sets.publish_fault.PublishFault.{PublishFault}
use Rattle.hub_commands.proofs.Leading.{leads-nowhere, leads-on, leads-standing}
use Rattle.hub_commands.proofs.Publishing.{rose}
use Rattle.hub_commands.specs.Answers.{status_of}
use Rattle.hub_commands.specs.CascadeAnswers.{CascadesCopy, IsCascadeAnswer, TellsCascade, cascade_run, end_of_cascade, or_ended}
use Rattle.hub_commands.specs.ConsumerAnswers.{CopyStays}
use Rattle.hub_commands.specs.declared.answer.Answer.{Answer}
use Rattle.hub_commands.specs.declared.answer.End.{End}
use Rattle.hub_commands.specs.declared.answer.End.TheVariants.{CopyFailed, Done}
use Rattle.hub_commands.specs.declared.answer.End.TheVariants.{HubFailed, NoMemory}
use Rattle.hub_commands.specs.declared.answer.End.TheVariants.{NothingHeld, NotPublished, Refused}
use Rattle.hub_commands.specs.Outside.{Faults, HaveRisen, faults_of}
use Rattle.hub_commands.specs.PublishAnswers.{IsTold}
use Rattle.hub_commands.specs.Runs.{LeadsFrom}
use Rattle.hub_commands.specs.Steps.{end_of_error}
use Rattle.hub_words.specs.Statuses.{bad_words_status, copy_failed_status, folder_failed_status, hub_failed_status}
use Rattle.hub_words.proofs.Quiet.{is_quiet, unlike}

-- what the status of an end says
pub record CascadeSays (faults : Faults) (copies : CopyRun) (end : End) : Type 0 where
  pub words : status_of end ≢ bad_words_status
  pub folder : status_of end ≢ folder_failed_status
  pub keeper : status_of end ≡ hub_failed_status → HaveRisen faults
  pub copy_says : status_of end ≡ copy_failed_status → Rose copies.faults_before copies.faults_now

pub quiet_cascade : (faults : Faults) (copies : CopyRun) (end : End) → is_quiet (status_of end) ≡ true → CascadeSays faults copies end
quiet_cascade faults copies end quiet = record {
  words = unlike (status_of end) bad_words_status quiet refl;
  folder = unlike (status_of end) folder_failed_status quiet refl;
  keeper = λ e. absurd (unlike (status_of end) hub_failed_status quiet refl e);
  copy_says = λ e. absurd (unlike (status_of end) copy_failed_status quiet refl e);
}

module _ (feed : List ℕ) (moment : Option ℤ) (faults : Faults) (copies : CopyRun) where
  abbrev pub Tells : List ℕ → End → KeptState → KeptState → Type 0
  Tells = TellsCascade (cascade_run feed moment faults copies)

  -- ---- what the hub makes of it

  -- a failure of the copy's keeper made its count rise
  abbrev pub RisesBroken : Result Published CascadeError → Type 0
  RisesBroken made = made ≡ Err error.CopyKeeper → Rose copies.faults_before copies.faults_now

  module _ (at : ℤ) (m : IsMomentOf moment at) where
    abbrev pub Makes : Result Published CascadeError → KeptState → KeptState → Type 0
    Makes = MakesCascade (CascadesHeld copies.stands feed at)

    -- an error ends the command
    stopped : (e : CascadeError) (before after : KeptState) → Makes (Err e) before after → TellsHeld copies.stands (Err e) → CountsHub faults.before faults.now (Err e) → RisesBroken (Err e) → Tells [] (end_of_cascade e) before after
    stopped error.HubKeeper before after makes held hub_counts broke = (refl, (rose faults.before faults.now hub_counts, inr (at, m, makes)))
    stopped error.CopyKeeper before after makes held hub_counts broke = (refl, (broke refl, makes))
    stopped error.NoMemory before after makes held hub_counts broke = (refl, inl makes)
    stopped error.NothingHeld before after makes held hub_counts broke = (refl, (held, hub_counts, makes))
    stopped (error.Refused fault) before after makes held hub_counts broke = (refl, (held, hub_counts, (at, m, makes)))

    -- what is told of what the hub made
    pub tells_made : (made : Result Published CascadeError) (answer : Answer) (before after : KeptState) → IsTold feed (or_ended made) answer → Makes made before after
        → TellsHeld copies.stands made → CountsHub faults.before faults.now made → RisesBroken made → Tells answer.done answer.end before after
    tells_made (Ok published) answer before after (inl is) makes held hub_counts broke =
        subst (λ end. Tells answer.done end before after) (sym is.1) (held, hub_counts, published, (at, m, makes), is.0)
    tells_made (Ok published) answer before after (inr is) makes held hub_counts broke =
        subst (λ end. Tells answer.done end before after) (sym is.1) (is.0, inr (published, (at, m, makes)))
    tells_made (Err e) answer before after is makes held hub_counts broke =
        subst (λ (a : Answer). Tells a.done a.end before after) (sym is) (stopped e before after makes held hub_counts broke)

    rises : (made : Result Published CascadeError) → CountsCopy copies.faults_before copies.faults_now made → RisesBroken made
    rises made counts e = rose copies.faults_before copies.faults_now (subst (CountsCopy copies.faults_before copies.faults_now) e counts)

    -- a copy cascaded into a hub that was opened
    pub cascaded : CopyStays copies → (old new : KeptState → Type 0) (first hub : HeldHub) (made : Result Published CascadeError) (answer : Answer) → IsKept first.kept → first.commit_open ≡ false → KeeperFits new hub
        → StandsFrom old new first hub (Makes made)
        → TellsHeld copies.stands made → CountsHub faults.before faults.now made → CountsCopy copies.faults_before copies.faults_now made → IsTold feed (or_ended made) answer
        → LeadsFrom old new (IsCascadeAnswer (cascade_run feed moment faults copies) answer)
    cascaded stays old new first hub made answer is shut fits led held hub_counts copy_counts told =
        leads-standing old new first hub (IsCascadeAnswer (cascade_run feed moment faults copies) answer) is shut fits (λ after standing.
        let l = led after standing in
        (l.0, l.1, l.2, (stays, tells_made made answer l.0 after told l.3 held hub_counts (rises made copy_counts))))

  -- ---- want of memory for the line of an end

  made_or_not : (before after : KeptState) → (after ≡ before) ⊎ CascadesCopy (cascade_run feed moment faults copies) (Err error.HubKeeper) before after
      → (after ≡ before) ⊎ ((answer : Published) × CascadesCopy (cascade_run feed moment faults copies) (Ok answer) before after)
  made_or_not before after (inl same) = inl same
  made_or_not before after (inr (at, m, inl same)) = inl same
  made_or_not before after (inr (at, m, inr (next, adds))) = inr (New next.number, (at, m, (next, adds, refl)))

  refused-stays : (fault : PublishFault) (before after : KeptState) → CascadesCopy (cascade_run feed moment faults copies) (Err (error.Refused fault)) before after → after ≡ before
  refused-stays fault before after (at, m, (asked, same)) = same

  pub tells-wants : (done : List ℕ) (end : End) (before after : KeptState) → Tells done end before after → end ≢ Done → Tells done NoMemory before after
  tells-wants done Done before after is other = absurd (other refl)
  tells-wants done HubFailed before after (none, (risen, made)) other = (none, made_or_not before after made)
  tells-wants done CopyFailed before after (none, (risen, same)) other = (none, inl same)
  tells-wants done (NotPublished fault) before after (none, (held, stood, made)) other = (none, inl (refused-stays fault before after made))
  tells-wants done NothingHeld before after (none, (held, stood, same)) other = (none, inl same)
  tells-wants done NoMemory before after is other = is
  tells-wants done end before after is other = absurd is.1

  -- memory may run out for the line of an end
  pub cascade-wants : (answer : Answer) (before after : KeptState) → IsCascadeAnswer (cascade_run feed moment faults copies) answer before after → answer.end ≢ Done
      → IsCascadeAnswer (cascade_run feed moment faults copies) (record answer { end = NoMemory }) before after
  cascade-wants answer before after (stays, told) other = (stays, tells-wants answer.done answer.end before after told other)

  -- ---- what a status says

  pub tells-says : (done : List ℕ) (end : End) (before after : KeptState) → Tells done end before after → CascadeSays faults copies end
  tells-says done Done before after is = quiet_cascade faults copies _ refl
  tells-says done HubFailed before after (none, (risen, made)) = record { words = λ e. cc e; folder = λ e. cc e; keeper = λ e. risen; copy_says = λ e. cc e }
  tells-says done CopyFailed before after (none, (risen, same)) = record { words = λ e. cc e; folder = λ e. cc e; keeper = λ e. cc e; copy_says = λ e. risen }
  tells-says done (NotPublished fault) before after is = quiet_cascade faults copies _ refl
  tells-says done NothingHeld before after is = quiet_cascade faults copies _ refl
  tells-says done NoMemory before after is = quiet_cascade faults copies _ refl
  tells-says done end before after is = absurd is.1

  -- what the status of an end says
  pub cascade-says : (answer : Answer) (before after : KeptState) → IsCascadeAnswer (cascade_run feed moment faults copies) answer before after → CascadeSays faults copies answer.end
  cascade-says answer before after (stays, told) = tells-says answer.done answer.end before after told

-- ---- the whole command

module _ (feed : List ℕ) (moment : Option ℤ) (keeper keeper_now : ℕ) (copies : CopyRun) (old new : KeptState → Type 0) where
  -- a copy, cascaded into the hub that was opened
  pub cascade_opened : (keeper_open : ℕ) (stands : KeptState → Type 0) (answer : Answer) → ((kept : KeptState) → stands kept → old kept) → keeper_open ≡ keeper
      → LeadsFrom stands new (IsCascadeAnswer (cascade_run feed moment (faults_of keeper_open keeper_now) copies) answer) → LeadsFrom old new (IsCascadeAnswer (cascade_run feed moment (faults_of keeper keeper_now) copies) answer)
  cascade_opened keeper_open stands answer told same =
      leads-on old stands new _ _ told (λ before after is. subst (λ k. IsCascadeAnswer (cascade_run feed moment (faults_of k keeper_now) copies) answer before after) same is)

  -- a hub that couldn't be opened
  pub cascade_not_opened : (T : Type 0) (e : HubError) → CopyStays copies → RefusesNothing {T = T} (Err e) → CountsFault {T = T} keeper keeper_now (Err e) → ((kept : KeptState) → new kept → old kept)
      → LeadsFrom old new (IsCascadeAnswer (cascade_run feed moment (faults_of keeper keeper_now) copies) (record { done = []; end = end_of_error e }))
  cascade_not_opened T e stays quiet counts told =
      leads-on old new new _ _ told (λ before after is. is) (leads-nowhere new (IsCascadeAnswer (cascade_run feed moment (faults_of keeper keeper_now) copies) (record { done = []; end = end_of_error e })) (λ kept. (stays, failed e quiet counts kept)))
    where
      failed : (e : HubError) → RefusesNothing {T = T} (Err e) → CountsFault {T = T} keeper keeper_now (Err e) → (kept : KeptState) → TellsCascade (cascade_run feed moment (faults_of keeper keeper_now) copies) [] (end_of_error e) kept kept
      failed hub_error.Keeper quiet counts kept = (refl, (rose keeper keeper_now counts, inl refl))
      failed hub_error.NoMemory quiet counts kept = (refl, inl refl)
      failed (hub_error.Refused f) quiet counts kept = absurd quiet
