-- A publication, or a change of grants, as a step of a hub's whole state.
use Rattle.std.proofs.Common.{◌≡◌, ℕ, ℤ, ◌<◌, ◌≤◌, inl, inr, List, [], ◌∷◌, length, length-append, Result, Ok, Err}
use Rattle.std.proofs.Common.{refl, sym, ap, subst, ◌∙◌, arith}
use Rattle.version_changes.specs.grants.Granting.{GrantsMake}
use Rattle.grant_scopes.specs.declared.entry.GrantEntry.{GrantEntry}
use Rattle.hub_core.specs.Errors.{error_of_keeper}
use Rattle.hub_core.specs.Standing.{HeldHub, IsStanding, KeeperFits}
use Rattle.hub_core.specs.Steps.{CountsFault, MakesNext}
use Rattle.hub_core.specs.declared.hub_error.HubError.{HubError}
use Rattle.hub_core.specs.declared.hub_error.HubError.TheVariants as error
use Rattle.hub_core.specs.declared.published.Published.{Published}
use Rattle.hub_core.specs.declared.published.Published.TheVariants as published
use Rattle.hub_spec.proofs.Growing.{step_grows}
use Rattle.hub_spec.proofs.Keeping.{step_keeps}
use Rattle.hub_spec.proofs.Versions.{newest_has, reads_kept, some_version}
use Rattle.hub_spec.specs.rules.Runs.{Acts, Answer, Command, Does, Fails, KeeperFailed, Made, OutOfMemory, Publish}
use Rattle.hub_spec.specs.rules.Runs.{SetGrants, Steps, Wants, WantsMemory, failed_answer, memory_answer, state_with}
use Rattle.hub_spec.specs.rules.States.{IsCommand, IsHub}
use Rattle.hub_spec.specs.rules.Verdicts.{newest_in}
use Rattle.keeper_memory.proofs.PartLemmas.{follows}
use Rattle.keeper_memory.specs.Calls.{CallsLead}
use Rattle.keeper_memory.specs.Commits.{followed_by}
use Rattle.keeper_memory.specs.Kept.{KeptState, newest_kept, oldest_kept}
use Rattle.keeper_memory.specs.Parts.{IsPartOf}
use Rattle.rest_provider.specs.Steps.{CountsFailed}
use Rattle.roster_base.specs.Faults.{CountsError}
use Rattle.roster_base.specs.declared.keeper.KeeperError.{KeeperError}
use Rattle.roster_base.specs.declared.keeper.KeeperError.TheVariants as keeper
use Rattle.roster_types.specs.Sets.{SetRecord}
use Rattle.version_changes.specs.sets.Applying.{Applies, Leads, Outcome, Refuses, Unchanged}
use Rattle.version_core.specs.HubStates.{HubState, newest_number, oldest_number}
use Rattle.version_core.specs.declared.change.BaseVersion.{BaseVersion}
use Rattle.sync_world.proofs.WholeLemmas.{is_next, oldest_is, reaches_oldest, same_with_oldest, whole_next}
use Rattle.sync_world.proofs.WholeLemmas.{whole_with_oldest}
use Rattle.sync_world.specs.Acts.{IsMade, Makes}
use Rattle.sync_world.specs.Worlds.{HeldWorld, IsWhole, whole_state, with_oldest}

-- a command that makes something of the newest version
pub record IsMaking (command : Command) (asks : BaseVersion → Outcome → Type 0) : Type 0 where
  pub is : IsCommand command
  pub does : (state : HubState) (outcome : Outcome) → asks (newest_in state) outcome → Does command state (Made outcome) (state_with state outcome)
  pub fails : failed_answer command ≡ KeeperFailed
  pub wants : memory_answer command ≡ OutOfMemory
  pub rests : (state : HubState) → Wants command state state

pub publishing : (set : SetRecord) (at : ℤ) → IsCommand (Publish set at) → IsMaking (Publish set at) (λ version. Applies version set at)
publishing set at is = record { is = is; does = λ state outcome asked. (outcome, asked, refl, refl); fails = refl; wants = refl; rests = λ state. refl }

pub granting : (list : List GrantEntry) (at : ℤ) → IsCommand (SetGrants list at) → IsMaking (SetGrants list at) (λ version. GrantsMake version list at)
granting list at is = record { is = is; does = λ state outcome asked. (outcome, asked, refl, refl); fails = refl; wants = refl; rests = λ state. refl }

-- the step that was made, and the answer to it
pub record Told (command : Command) (given : Result Published HubError) (before after : HubState) (faults faults' : ℕ) : Type 0 where
  pub answer : Answer
  pub failed : ℕ
  pub count : CountsFailed faults faults' failed
  pub step : Steps command before answer after failed
  pub made : IsMade given answer after

-- as the clause of a call says it
pub told_makes : {command : Command} {given : Result Published HubError} {before after : HeldWorld} → Told command given before.state after.state before.faults after.faults → CallsLead before.plan after.plan → Makes command given before after
told_makes told calls = record { answer = told.answer; failed = told.failed; count = told.count; step = told.step; calls = calls; is = told.made }

-- what became of the state
pub record Came (command : Command) (given : Result Published HubError) (before : HubState) (gone : List BaseVersion) (kept : KeptState) (faults faults' : ℕ) : Type 0 where
  pub whole : IsWhole gone kept
  pub told : Told command given before (whole_state gone kept) faults faults'

module _ (command : Command) (asks : BaseVersion → Outcome → Type 0) (m : IsMaking command asks) (gone : List BaseVersion) (kept : KeptState) (whole : IsWhole gone kept) (reach : (oldest_kept kept.versions).number < length gone) (faults faults' : ℕ) where
  abbrev state : HubState
  state = whole_state gone kept

  newest_same : newest_kept kept.versions ≡ newest_in state
  newest_same = sym (reads_kept state whole.hub.state kept.versions (sym whole.part.versions)).newest

  asked : (outcome : Outcome) → asks (newest_kept kept.versions) outcome → asks (newest_in state) outcome
  asked outcome = subst (λ (v : BaseVersion). asks v outcome) newest_same

  module _ (next : BaseVersion) (ask : asks (newest_kept kept.versions) (Leads next)) (kept' : KeptState) (added : kept' ≡ followed_by kept next) where
    abbrev after : HubState
    after = state_with state (Leads next)

    led : Steps command state (Made (Leads next)) after 0
    led = Acts (m.does state (Leads next) (asked (Leads next) ask)) refl

    hub_after : IsHub after
    hub_after = step_keeps state whole.hub command m.is (Made (Leads next)) after 0 led

    some : state.published ≡ [] → ⊥
    some none = let long = some_version state whole.hub.state in let e = ap length none in omega (arith, long, e)

    part_after : IsPartOf kept' after
    part_after = subst (λ (k : KeptState). IsPartOf k after) (sym added) (follows kept state next some whole.part)

    within : oldest_number after ≤ length gone
    within =
        let longer = length-append state.published (next ∷ []) in
        let number = oldest_is state whole.hub.state kept whole.part in
        omega (arith, longer, number, reach)

    pub whole_after : IsWhole gone kept'
    whole_after = whole_next gone kept kept' whole after hub_after part_after (step_grows command state (Made (Leads next)) after 0 led).grew within

    pub same_after : whole_state gone kept' ≡ after
    same_after = is_next gone kept kept' whole after hub_after part_after (step_grows command state (Made (Leads next)) after 0 led).grew within

  rested : (kept' : KeptState) → kept' ≡ kept → (given : Result Published HubError) → Told command given state state faults faults' → Came command given state gone kept' faults faults'
  rested kept' same given told = subst (λ (k : KeptState). Came command given state gone k faults faults') (sym same) (record { whole = whole; told = told })

  moved : (given : Result Published HubError) (next : BaseVersion) (kept' : KeptState) → (ask : asks (newest_kept kept.versions) (Leads next)) (added : kept' ≡ followed_by kept next)
      → Told command given state (state_with state (Leads next)) faults faults' → Came command given state gone kept' faults faults'
  moved given next kept' ask added told =
      let same = sym (same_after next ask kept' added) in
      record { whole = whole_after next ask kept' added; told = subst (λ (s : HubState). Told command given state s faults faults') same told }

  newest_told : (newest_kept kept.versions).number ≡ newest_number state
  newest_told = ap (λ (v : BaseVersion). v.number) newest_same ∙ newest_has state whole.hub.state

  pub came : (given : Result Published HubError) (kept' : KeptState) → MakesNext asks given kept kept' → CountsFault faults faults' given → Came command given state gone kept' faults faults'
  came (Ok (published.New number)) kept' (next, adds, is) count =
      moved (Ok (published.New number)) next kept' adds.asked adds.added (record {
        answer = Made (Leads next);
        failed = 0;
        count = inl (refl, count);
        step = Acts (m.does state (Leads next) (asked (Leads next) adds.asked)) refl;
        made = (next, refl, is);
      })
  came (Ok (published.Same number)) kept' (ask, same, is) count =
      rested kept' same (Ok (published.Same number)) (record {
        answer = Made Unchanged;
        failed = 0;
        count = inl (refl, count);
        step = Acts (m.does state Unchanged (asked Unchanged ask)) refl;
        made = (refl, is ∙ newest_told);
      })
  came (Err (error.Refused fault)) kept' (ask, same) count =
      rested kept' same (Err (error.Refused fault)) (record {
        answer = Made (Refuses fault);
        failed = 0;
        count = inl (refl, count);
        step = Acts (m.does state (Refuses fault) (asked (Refuses fault) ask)) refl;
        made = refl;
      })
  came (Err error.Keeper) kept' (inl same) count =
      rested kept' same (Err error.Keeper) (record {
        answer = KeeperFailed;
        failed = 1;
        count = inr (refl, count);
        step = Fails (inl refl) (sym m.fails) refl;
        made = refl;
      })
  came (Err error.Keeper) kept' (inr (next, adds)) count =
      moved (Err error.Keeper) next kept' adds.asked adds.added (record {
        answer = KeeperFailed;
        failed = 1;
        count = inr (refl, count);
        step = Fails (inr (Made (Leads next), m.does state (Leads next) (asked (Leads next) adds.asked))) (sym m.fails) refl;
        made = refl;
      })
  came (Err error.NoMemory) kept' same count =
      rested kept' same (Err error.NoMemory) (record {
        answer = OutOfMemory;
        failed = 0;
        count = inl (refl, count);
        step = WantsMemory (m.rests state) (sym m.wants) refl;
        made = refl;
      })

-- once the oldest version is held
module _ (command : Command) (asks : BaseVersion → Outcome → Type 0) (m : IsMaking command asks) (gone : List BaseVersion) (kept : KeptState) (whole : IsWhole gone kept) (faults faults' : ℕ) where
  with_oldest_came : (given : Result Published HubError) (kept' : KeptState) → MakesNext asks given kept kept' → CountsFault faults faults' given
      → Came command given (whole_state gone kept) (with_oldest (oldest_kept kept.versions) gone) kept' faults faults'
  with_oldest_came given kept' makes count =
      subst (λ (s : HubState). Came command given s (with_oldest (oldest_kept kept.versions) gone) kept' faults faults') (same_with_oldest gone kept whole)
      (came command asks m (with_oldest (oldest_kept kept.versions) gone) kept (whole_with_oldest gone kept whole) (reaches_oldest gone kept whole) faults faults' given kept' makes count)

  pub held_came : (given : Result Published HubError) (gone' : List BaseVersion) (mid kept' : KeptState) → mid ≡ kept → gone' ≡ with_oldest (oldest_kept kept.versions) gone → MakesNext asks given mid kept' → CountsFault faults faults' given
      → Came command given (whole_state gone kept) gone' kept' faults faults'
  held_came given gone' mid kept' same held makes count =
      subst (λ (g : List BaseVersion). Came command given (whole_state gone kept) g kept' faults faults') (sym held)
      (with_oldest_came given kept' (subst (λ (k : KeptState). MakesNext asks given k kept') same makes) count)

  -- the keeper failed, or memory ran out, before the hub did anything
  pub held_not : (e : KeeperError) → CountsError faults faults' e → Told command (Err (error_of_keeper e)) (whole_state gone kept) (whole_state gone kept) faults faults'
  held_not keeper.Failed count = record {
    answer = KeeperFailed;
    failed = 1;
    count = inr (refl, count);
    step = Fails (inl refl) (sym m.fails) refl;
    made = refl;
  }
  held_not keeper.NoMemory count = record {
    answer = OutOfMemory;
    failed = 0;
    count = inl (refl, count);
    step = WantsMemory (m.rests (whole_state gone kept)) (sym m.wants) refl;
    made = refl;
  }

  -- the same, of what was held then
  pub held_failed : (e : KeeperError) (h : HubError) (gone' : List BaseVersion) (mid : KeptState) → h ≡ error_of_keeper e → gone' ≡ gone → mid ≡ kept → CountsError faults faults' e
      → Told command (Err h) (whole_state gone kept) (whole_state gone' mid) faults faults'
  held_failed e h gone' mid is held same count =
      let state : whole_state gone kept ≡ whole_state gone' mid = λ i. whole_state (sym held i) (sym same i) in
      subst (λ (r : HubError). Told command (Err r) (whole_state gone kept) (whole_state gone' mid) faults faults') (sym is)
      (subst (λ (s : HubState). Told command (Err (error_of_keeper e)) (whole_state gone kept) s faults faults') state (held_not e count))

-- what a hub's call says of what its keeper keeps
pub keeper_makes : (asks : BaseVersion → Outcome → Type 0) (given : Result Published HubError) (hub hub' : HeldHub) (kept kept' : KeptState) → KeeperFits (λ k. k ≡ kept') hub'
    → ((after : KeptState) → IsStanding hub' after → (before : KeptState) × IsStanding hub before × (after ≡ kept' → before ≡ kept) × MakesNext asks given before after)
    → MakesNext asks given kept kept'
keeper_makes asks given hub hub' kept kept' fits told =
    let (before, stood, same, makes) = told kept' (fits kept' refl) in
    subst (λ (k : KeptState). MakesNext asks given k kept') (same refl) makes

-- what became of the state, from what the calls say that hold the oldest version and have the hub make something
pub called_came : {command : Command} {asks : BaseVersion → Outcome → Type 0} {gone gone' : List BaseVersion} {kept mid kept' : KeptState} {before held now : ℕ} {given : Result Published HubError} {hub hub' : HeldHub}
    → IsMaking command asks → IsWhole gone kept → KeeperFits (λ k. k ≡ kept') hub'
    → ((after : KeptState) → IsStanding hub' after → (from : KeptState) × IsStanding hub from × (after ≡ kept' → from ≡ mid) × MakesNext asks given from after)
    → mid ≡ kept → gone' ≡ with_oldest (oldest_kept kept.versions) gone → held ≡ before → CountsFault held now given → Came command given (whole_state gone kept) gone' kept' before now
called_came {command} {asks} {gone} {gone'} {kept} {mid} {kept'} {before} {held} {now} {given} {hub} {hub'} m whole fits told same holds quiet count =
    held_came command asks m gone kept whole before now given gone' mid kept' same holds (keeper_makes asks given hub hub' mid kept' fits told)
    (subst (λ (n : ℕ). CountsFault n now given) quiet count)
