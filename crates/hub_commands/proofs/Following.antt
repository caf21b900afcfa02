-- A copy brought up to date with another hub, and cascaded into one.
use Rattle.std.proofs.Common.{◌≡◌, ◌≢◌, ◌⊎◌, ◌+◌, ◌≤◌, ℕ, ℤ, List, [], Option, Result, Ok, Err, false, true, refl, sym}
use Rattle.std.proofs.Common.{ap, subst, inl, inr, arith}
use Rattle.std.specs.Prelude.{min, ◌-◌, ◌^◌, ⊤}
use Rattle.exchange_link.specs.Between.{CopyRun, LinkRun, copy_between, link_between}
use Rattle.consumer_commands.proofs.Below.DeltaDoneLemmas.{cause_fails}
use Rattle.consumer_commands.proofs.Below.DeltaStopLemmas.{halts_end}
use Rattle.consumer_commands.specs.Below.DeltaCauses.{DeltaCause}
use Rattle.consumer_commands.specs.Below.DeltaCauses.DeltaCause.{Broke as BrokeBeside, Halted, OutOfRuns, Swapped}
use Rattle.consumer_commands.specs.Below.DeltaCauses.DeltaCause.{Unbased, Wants as WantsAlone}
use Rattle.consumer_commands.specs.Below.DeltaFilling.{Halts}
use Rattle.consumer_commands.specs.Below.DeltaFilling.Halts.{Broke, Merging, Stopped, Wants as WantsBeside}
use Rattle.consumer_commands.specs.Below.DeltaGathering.Stops.{Given, NoReply, NoneCame, Wants as WantsFirst}
use Rattle.consumer_commands.specs.Below.Place.{Place}
use Rattle.consumer_commands.specs.Below.DeltaAnswer.{DeltaAnswer}
use Rattle.consumer_commands.specs.Below.DeltaAnswer.TheVariants as delta
use Rattle.exchange_link.specs.Exchanges.{LinkState}
use Rattle.exchange_link.specs.declared.answer.SyncAnswer.{SyncAnswer}
use Rattle.exchange_link.specs.declared.answer.SyncAnswer.TheVariants as sync
use Rattle.hub_cascade.specs.Answers.{CountsCopy, CountsHub, MakesCascade, TellsHeld}
use Rattle.hub_cascade.specs.Held.{CascadesHeld}
use Rattle.hub_cascade.specs.declared.error.CascadeError.{CascadeError}
use Rattle.hub_cascade.specs.declared.error.CascadeError.TheVariants as error
use Rattle.hub_core.specs.declared.hub_error.HubError.{HubError}
use Rattle.hub_core.specs.declared.hub_error.HubError.TheVariants as hub_error
use Rattle.hub_core.specs.declared.published.Published.{Published}
use Rattle.hub_core.specs.Standing.{HeldHub, KeeperFits, StandsFrom}
use Rattle.hub_core.specs.Steps.{CountsFault, RefusesNothing}
use Rattle.hub_follow.specs.Causes.{KeeperView, LinkView, MissedBy, MissedTold}
use Rattle.hub_follow.specs.Ends.{IfCascaded, lacks_base, synced}
use Rattle.hub_follow.specs.declared.answer.FollowAnswer.{FollowAnswer}
use Rattle.hub_follow.specs.declared.answer.FollowAnswer.TheVariants as follow
use Rattle.hub_follow.specs.declared.answer.Missed.{Missed}
use Rattle.hub_follow.specs.declared.answer.Missed.TheVariants as missed
use Rattle.hub_words.specs.Tasks.{Task}
use Rattle.keeper_memory.specs.Kept.{IsKept, KeptState}
use Rattle.keeper_memory.specs.copy.Copies.{Copy}
use Rattle.rest_provider.specs.Moments.{IsMomentOf}
use Rattle.roster_base.specs.Faults.{Rose}
use Rattle.hub_commands.proofs.Cascading.{CascadeSays, quiet_cascade, tells-says, tells-wants, tells_made}
use Rattle.hub_commands.proofs.Leading.{leads-nowhere, leads-on, leads-standing}
use Rattle.hub_commands.proofs.Publishing.{rose}
use Rattle.hub_commands.specs.CascadeAnswers.{TellsCascade, cascade_run, end_of_cascade, or_ended}
use Rattle.hub_commands.specs.FollowAnswers.{IsCaughtUp, IsFollowAnswer, IsUnbased, MissCause, MissTold, TellsEnd}
use Rattle.hub_commands.specs.FollowAnswers.{TellsFollow, TellsVersion}
use Rattle.hub_commands.specs.declared.answer.Answer.{Answer}
use Rattle.hub_commands.specs.declared.answer.End.{End}
use Rattle.hub_commands.specs.declared.answer.End.TheVariants.{DeltaSynced, Done, HubFailed, NoMemory, Synced}
use Rattle.hub_commands.specs.Outside.{Faults, HaveRisen, HaveStood, faults_of}
use Rattle.hub_commands.specs.PublishAnswers.{IsTold, told_text}
use Rattle.hub_commands.specs.Runs.{LeadsFrom}
use Rattle.hub_commands.specs.Steps.{end_of_error}

-- ---- the synchronisation in it

-- a base that is gone is so by a reply
gone_given : (kept : List ℕ) (run count : ℕ) (missed broke : Type 0) (copies : Copy → Type 0) (place : Place) (version oldest : ℕ) → Halts kept run count missed broke copies place (delta.BaseGone version oldest)
    → IsUnbased kept run count (delta.BaseGone version oldest)
gone_given kept run count missed broke copies place version oldest (Stopped held shown (Given given)) = (place, held, given)
gone_given kept run count missed broke copies place version oldest (Stopped held shown (NoneCame offset tried none is)) = cc is
gone_given kept run count missed broke copies place version oldest (Stopped held shown (NoReply offset none is)) = cc is
gone_given kept run count missed broke copies place version oldest (Stopped held shown (WantsFirst is)) = cc is
gone_given kept run count missed broke copies place version oldest (Merging entries are shown s why is) = cc is
gone_given kept run count missed broke copies place version oldest (Broke failed is) = cc is
gone_given kept run count missed broke copies place version oldest (WantsBeside is) = cc is

unbased_by : (kept : List ℕ) (run count : ℕ) (missed broke : Type 0) (copies : Copy → Type 0) (place : Place) (a : DeltaAnswer) → lacks_base a ≡ true → DeltaCause kept run count missed broke copies place a → IsUnbased kept run count a
unbased_by kept run count missed broke copies place (delta.Ended a) lacks cause = cc lacks
unbased_by kept run count missed broke copies place a lacks (OutOfRuns none is) = cc (lacks, is)
unbased_by kept run count missed broke copies place a lacks (Swapped version is) = cc (lacks, is)
unbased_by kept run count missed broke copies place a lacks (BrokeBeside failed is) = cc (lacks, is)
unbased_by kept run count missed broke copies place a lacks (WantsAlone is) = cc (lacks, is)
unbased_by kept run count missed broke copies place delta.NoBase lacks (Unbased none is) = none
unbased_by kept run count missed broke copies place delta.NoBase lacks (Halted halts) = absurd (halts_end kept run count missed broke copies place delta.NoBase halts)
unbased_by kept run count missed broke copies place (delta.BaseGone held oldest) lacks (Unbased none is) = cc is
unbased_by kept run count missed broke copies place (delta.BaseGone held oldest) lacks (Halted halts) = gone_given kept run count missed broke copies place held oldest halts

-- the call that is named made the answer
pub miss_cause : {K N : Type 0} (copies : KeeperView K) (links : LinkView N) (task : Task) (old new : K) (before after : N) (s : Result ℕ Missed) → MissedBy copies links task.token task.limit task.tries old new before after s
    → MissCause task (copy_between copies.stands copies.faults old new) (link_between links.tells links.asked links.missed links.kept links.faults before after) s
miss_cause copies links task old new before after (Ok version) by = tt
miss_cause copies links task old new before after (Err (missed.Delta a)) by = by
miss_cause copies links task old new before after (Err (missed.Sync a)) (between, mid, first, behind, by) = (
  record {
    run = behind.cause.run;
    count = behind.cause.count;
    kept = links.kept mid;
    first = first;
    unbased = unbased_by (links.kept mid) behind.cause.run behind.cause.count _ _ (copies.stands between) behind.cause.place first behind.lacks behind.cause.only;
    asked = links.asked mid;
    faults = copies.faults between;
    link_faults = links.faults mid;
    counts = behind.cause.counts;
    later = behind.later;
    link_later = behind.link_later;
  },
  record {
    run = by.run;
    count = by.count;
    asked = by.asked;
    counts = by.counts;
    runs = by.runs;
    only = by.only;
    exact = by.exact;
    last = by.last;
    on = by.on;
  },
)

-- what a link that tells adds
pub miss_told : {N : Type 0} (links : LinkView N) (task : Task) (before after : N) (tells : LinkState) (s : Result ℕ Missed) → MissedTold links task.token before tells s
    → MissTold task (link_between links.tells links.asked links.missed links.kept links.faults before after) tells s
miss_told links task before after tells (Ok version) is = tt
miss_told links task before after tells (Err (missed.Delta a)) is = is
miss_told links task before after tells (Err (missed.Sync a)) is = is.0

-- ---- what is told

-- what holds of a cascade's answer, said more weakly
pub if_weaker : (r : FollowAnswer) (P P' : Result Published CascadeError → Type 0) (Q Q' : Type 0) → ((made : Result Published CascadeError) → P made → P' made) → (Q → Q') → IfCascaded r P Q → IfCascaded r P' Q'
if_weaker (follow.Done version published) P P' Q Q' p q is = p (Ok published) is
if_weaker (follow.Sync a) P P' Q Q' p q is = q is
if_weaker (follow.Delta a) P P' Q Q' p q is = q is
if_weaker (follow.Cascade version e) P P' Q Q' p q is = p (Err e) is

-- what is told of a cascade, where memory doesn't run out
abbrev told_of : List ℕ → Result Published CascadeError → Answer
told_of feed (Ok published) = record { done = told_text feed published; end = Done }
told_of feed (Err e) = record { done = []; end = end_of_cascade e }

is_told_of : (feed : List ℕ) (made : Result Published CascadeError) → IsTold feed (or_ended made) (told_of feed made)
is_told_of feed (Ok published) = inl (refl, refl)
is_told_of feed (Err e) = refl

module _ (task : Task) (feed : List ℕ) (moment : Option ℤ) (faults : Faults) (copies : CopyRun) (link : LinkRun) where
  -- a cascade counts a failure of the copy's keeper from a count on that isn't lower
  abbrev pub CountsFrom : Result Published CascadeError → Type 0
  CountsFrom made = (n : ℕ) × (copies.faults_before ≤ n) × CountsCopy n copies.faults_now made

  rises : (made : Result Published CascadeError) → CountsFrom made → made ≡ Err error.CopyKeeper → Rose copies.faults_before copies.faults_now
  rises made (n, later, counts) e =
      let counted : copies.faults_now ≡ min (n + 1) (2 ^ 64 - 1) = subst (CountsCopy n copies.faults_now) e counts in
      omega (arith, later, counted)

  module _ (at : ℤ) (m : IsMomentOf moment at) where
    abbrev pub Makes : Result Published CascadeError → KeptState → KeptState → Type 0
    Makes = MakesCascade (CascadesHeld copies.stands feed at)

    tells_version : (version : ℕ) (made : Result Published CascadeError) (answer : Answer) (before after : KeptState) → TellsVersion feed version made answer → Makes made before after
        → TellsHeld copies.stands made → CountsHub faults.before faults.now made → CountsFrom made → TellsFollow (cascade_run feed moment faults copies) (Ok version) answer before after
    tells_version version made answer before after (inl (cascaded, told, is)) makes held hub_counts counts = inl (
      cascaded.done,
      ap (λ (a : Answer). a.done) is,
      subst (λ (e : End). TellsCascade (cascade_run feed moment faults copies) cascaded.done e before after) (sym (ap (λ (a : Answer). a.end) is))
          (tells_made feed moment faults copies at m made cascaded before after told makes held hub_counts (rises made counts)),
    )
    tells_version version made answer before after (inr none) makes held hub_counts counts =
        let told = told_of feed made in
        inr (ap (λ (a : Answer). a.done) none, ap (λ (a : Answer). a.end) none, told.done, told.end, tells_made feed moment faults copies at m made told before after (is_told_of feed made) makes held hub_counts (rises made counts))

    tells_follow : (r : FollowAnswer) (answer : Answer) (before after : KeptState) → TellsEnd feed r answer → IfCascaded r (λ made. Makes made before after) (after ≡ before)
        → IfCascaded r (TellsHeld copies.stands) ⊤ → IfCascaded r (CountsHub faults.before faults.now) ⊤ → IfCascaded r CountsFrom ⊤ → IfCascaded r (λ made. ⊤) (HaveStood faults)
        → TellsFollow (cascade_run feed moment faults copies) (synced r) answer before after
    tells_follow (follow.Done version published) answer before after told makes held hub_counts counts stood = tells_version version (Ok published) answer before after told makes held hub_counts counts
    tells_follow (follow.Sync a) answer before after told same held hub_counts counts stood = (stood, same, ap (λ (x : Answer). x.done) told, inl (ap (λ (x : Answer). x.end) told))
    tells_follow (follow.Delta a) answer before after told same held hub_counts counts stood = (stood, same, ap (λ (x : Answer). x.done) told, inl (ap (λ (x : Answer). x.end) told))
    tells_follow (follow.Cascade version e) answer before after told makes held hub_counts counts stood = tells_version version (Err e) answer before after told makes held hub_counts counts

    -- another hub followed into one that was opened
    pub followed : (old new : KeptState → Type 0) (first hub : HeldHub) (r : FollowAnswer) (answer : Answer) → IsKept first.kept → first.commit_open ≡ false → KeeperFits new hub
        → StandsFrom old new first hub (λ before after. IfCascaded r (λ made. Makes made before after) (after ≡ before))
        → IfCascaded r (TellsHeld copies.stands) ⊤ → IfCascaded r (CountsHub faults.before faults.now) ⊤ → IfCascaded r CountsFrom ⊤ → IfCascaded r (λ made. ⊤) (HaveStood faults)
        → IsCaughtUp task (synced r) copies link → TellsEnd feed r answer → LeadsFrom old new (IsFollowAnswer task (cascade_run feed moment faults copies) link answer)
    followed old new first hub r answer is shut fits led held hub_counts counts stood caught told =
        leads-standing old new first hub (IsFollowAnswer task (cascade_run feed moment faults copies) link answer) is shut fits (λ after standing.
        let l = led after standing in
        (l.0, l.1, l.2, inl (synced r, caught, tells_follow r answer l.0 after told l.3 held hub_counts counts stood)))

  -- ---- want of memory for the line of an end

  follows-want : (s : Result ℕ Missed) (answer : Answer) (before after : KeptState) → TellsFollow (cascade_run feed moment faults copies) s answer before after → answer.end ≢ Done
      → TellsFollow (cascade_run feed moment faults copies) s (record answer { end = NoMemory }) before after
  follows-want (Ok version) answer before after (inl (more, line, told)) other = inl (more, line, tells-wants feed moment faults copies more answer.end before after told other)
  follows-want (Ok version) answer before after (inr (none, wants, more, end, told)) other = inr (none, refl, more, end, told)
  follows-want (Err (missed.Sync a)) answer before after (stood, same, none, end) other = (stood, same, none, inr refl)
  follows-want (Err (missed.Delta a)) answer before after (stood, same, none, end) other = (stood, same, none, inr refl)

  -- memory may run out for the line of an end
  pub follow-wants : (answer : Answer) (before after : KeptState) → IsFollowAnswer task (cascade_run feed moment faults copies) link answer before after → answer.end ≢ Done
      → IsFollowAnswer task (cascade_run feed moment faults copies) link (record answer { end = NoMemory }) before after
  follow-wants answer before after (inl (s, caught, told)) other = inl (s, caught, follows-want s answer before after told other)
  follow-wants answer before after (inr shut) other = inr (record { done = shut.done; end = inr refl; same = shut.same })

  -- ---- what a status says

  says_memory : (end : End) → end ≡ NoMemory → CascadeSays faults copies end
  says_memory end is = subst (CascadeSays faults copies) (sym is) (quiet_cascade faults copies NoMemory refl)

  sync-says : (a : SyncAnswer) → (a ≡ sync.KeeperFault → Rose copies.faults_before copies.faults_now) → CascadeSays faults copies (Synced a)
  sync-says sync.KeeperFault broke = record { words = λ e. cc e; folder = λ e. cc e; keeper = λ e. cc e; copy_says = λ e. broke refl }
  sync-says other broke = quiet_cascade faults copies _ refl

  -- an end with the status of another says what that does
  ended-says : (a : SyncAnswer) → CascadeSays faults copies (Synced a) → CascadeSays faults copies (DeltaSynced (delta.Ended a))
  ended-says a s = record { words = s.words; folder = s.folder; keeper = s.keeper; copy_says = s.copy_says }

  delta-says : (a : DeltaAnswer) → (a ≡ delta.Ended sync.KeeperFault → Rose copies.faults_before copies.faults_now) → CascadeSays faults copies (DeltaSynced a)
  delta-says (delta.Ended a) broke = ended-says a (sync-says a (λ e. broke (ap delta.Ended e)))
  delta-says delta.NoBase broke = quiet_cascade faults copies _ refl
  delta-says (delta.BaseGone held oldest) broke = quiet_cascade faults copies _ refl

  -- a fault of the copy's keeper that ended the synchronisation was counted
  sync_broke : (a : SyncAnswer) → MissCause task copies link (Err (missed.Sync a)) → a ≡ sync.KeeperFault → Rose copies.faults_before copies.faults_now
  sync_broke sync.KeeperFault (mid, cause) e = let rose = cause.only in omega (arith, rose, mid.later)
  sync_broke a cause e = cc e

  delta_broke : (a : DeltaAnswer) → MissCause task copies link (Err (missed.Delta a)) → a ≡ delta.Ended sync.KeeperFault → Rose copies.faults_before copies.faults_now
  delta_broke a cause e = cause_fails _ _ _ _ _ _ cause.place a cause.only e

  follows-say : (s : Result ℕ Missed) (answer : Answer) (before after : KeptState) → MissCause task copies link s → TellsFollow (cascade_run feed moment faults copies) s answer before after → CascadeSays faults copies answer.end
  follows-say (Ok version) answer before after cause (inl (more, line, told)) = tells-says feed moment faults copies more answer.end before after told
  follows-say (Ok version) answer before after cause (inr (none, wants, more, end, told)) = says_memory answer.end wants
  follows-say (Err (missed.Sync a)) answer before after cause (stood, same, none, inl is) = subst (CascadeSays faults copies) (sym is) (sync-says a (sync_broke a cause))
  follows-say (Err (missed.Sync a)) answer before after cause (stood, same, none, inr wants) = says_memory answer.end wants
  follows-say (Err (missed.Delta a)) answer before after cause (stood, same, none, inl is) = subst (CascadeSays faults copies) (sym is) (delta-says a (delta_broke a cause))
  follows-say (Err (missed.Delta a)) answer before after cause (stood, same, none, inr wants) = says_memory answer.end wants

  shut-says : (answer : Answer) → ((answer.end ≡ HubFailed) × HaveRisen faults) ⊎ (answer.end ≡ NoMemory) → CascadeSays faults copies answer.end
  shut-says answer (inl (is, risen)) = subst (CascadeSays faults copies) (sym is) (record { words = λ e. cc e; folder = λ e. cc e; keeper = λ e. risen; copy_says = λ e. cc e })
  shut-says answer (inr wants) = says_memory answer.end wants

  -- what the status of an end says
  pub follow-says : (answer : Answer) (before after : KeptState) → IsFollowAnswer task (cascade_run feed moment faults copies) link answer before after → CascadeSays faults copies answer.end
  follow-says answer before after (inl (s, caught, told)) = follows-say s answer before after caught.cause told
  follow-says answer before after (inr shut) = shut-says answer shut.end

-- ---- the whole command

module _ (task : Task) (feed : List ℕ) (moment : Option ℤ) (keeper keeper_now : ℕ) (copies : CopyRun) (link : LinkRun) (old new : KeptState → Type 0) where
  -- another hub followed into one that was opened, as it was asked for
  pub follow_opened : (token : List ℕ) (limit tries : ℕ) → token ≡ task.token → limit ≡ task.limit → tries ≡ task.tries
      → (keeper_open : ℕ) (stands : KeptState → Type 0) (answer : Answer) → ((kept : KeptState) → stands kept → old kept) → keeper_open ≡ keeper
      → LeadsFrom stands new (IsFollowAnswer (record { token = token; limit = limit; tries = tries }) (cascade_run feed moment (faults_of keeper_open keeper_now) copies) link answer)
      → LeadsFrom old new (IsFollowAnswer task (cascade_run feed moment (faults_of keeper keeper_now) copies) link answer)
  follow_opened token limit tries a b c keeper_open stands answer told same =
      leads-on old stands new _ _ told (λ before after is. subst (λ k. IsFollowAnswer task (cascade_run feed moment (faults_of k keeper_now) copies) link answer before after) same
      (subst (λ (t : Task). IsFollowAnswer t (cascade_run feed moment (faults_of keeper_open keeper_now) copies) link answer before after) same_task is))
    where
      same_task : record { token = token; limit = limit; tries = tries } ≡ task
      same_task = rw (a, b, c) refl

  -- a hub that couldn't be opened
  pub follow_not_opened : (T : Type 0) (e : HubError) → copies.same → link.same → RefusesNothing {T = T} (Err e) → CountsFault {T = T} keeper keeper_now (Err e) → ((kept : KeptState) → new kept → old kept)
      → LeadsFrom old new (IsFollowAnswer task (cascade_run feed moment (faults_of keeper keeper_now) copies) link (record { done = []; end = end_of_error e }))
  follow_not_opened T e copy_same link_same quiet counts told =
      leads-on old new new _ _ told (λ before after is. is) (leads-nowhere new (IsFollowAnswer task (cascade_run feed moment (faults_of keeper keeper_now) copies) link (record { done = []; end = end_of_error e }))
      (λ kept. inr (record { done = refl; end = failed e quiet counts; same = (copy_same, link_same, refl) })))
    where
      failed : (e : HubError) → RefusesNothing {T = T} (Err e) → CountsFault {T = T} keeper keeper_now (Err e) → ((end_of_error e ≡ HubFailed) × HaveRisen (faults_of keeper keeper_now)) ⊎ (end_of_error e ≡ NoMemory)
      failed hub_error.Keeper quiet counts = inl (refl, rose keeper keeper_now counts)
      failed hub_error.NoMemory quiet counts = inr refl
      failed (hub_error.Refused f) quiet counts = absurd quiet
