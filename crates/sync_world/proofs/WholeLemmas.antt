-- What is held of a hub while its keeper lets versions go.
use Rattle.std.proofs.Common.{◌≡◌, ℕ, ℤ, ◌+◌, ◌<◌, ◌≤◌, inl, inr, Bool, true, false, cond, List, [], ◌∷◌, ◌++◌, drop}
use Rattle.std.proofs.Common.{length, length-append, length-drop, take, None, refl, sym, ap, subst, ◌∙◌, arith}
use Rattle.std.proofs.lemmas.Bool.Decides.{nat_tests}
use Rattle.std.proofs.lemmas.List.{length-take, take-append-drop, take-append-le, take-take}
use Rattle.std.proofs.Math.Seq.{take-append-add, take-length}
use Rattle.std.specs.List.{AllByRecursion}
use Rattle.std.specs.Prelude.{nat_lt}
use Rattle.hub_core.specs.Errors.{error_of_keeper}
use Rattle.hub_core.specs.Standing.{HeldHub, IsStanding, KeeperFits}
use Rattle.hub_core.specs.declared.hub_error.HubError.{HubError}
use Rattle.hub_spec.specs.requests.Requests.{wanted_by}
use Rattle.hub_spec.proofs.Growing.{step_grows}
use Rattle.hub_spec.proofs.Versions.{some_version}
use Rattle.hub_spec.specs.rules.Growth.{Grew}
use Rattle.hub_spec.specs.rules.Runs.{Fails, Replied, Steps, Take, WantsMemory}
use Rattle.hub_spec.specs.rules.States.{HoldsRows, IsHub}
use Rattle.hub_spec.specs.rules.Wanted.{is_write}
use Rattle.keeper_memory.specs.Kept.{KeptState, kept_by, oldest_kept}
use Rattle.keeper_memory.specs.Parts.{IsPartOf}
use Rattle.rest_provider.proofs.StepLemmas.{read_of}
use Rattle.rest_provider.specs.Steps.{CountsFailed, TakesRequest, error_reply}
use Rattle.roster_base.specs.Faults.{CountsError}
use Rattle.roster_base.specs.declared.keeper.KeeperError.{KeeperError}
use Rattle.roster_base.specs.declared.keeper.KeeperError.TheVariants.{Failed, NoMemory}
use Rattle.status_info.specs.declared.reply.Reply.{Reply}
use Rattle.status_info.specs.declared.request.Request.{Request}
use Rattle.version_core.proofs.VersionLemmas.{oldest-versions_from}
use Rattle.version_core.specs.HubStates.{HubState, IsHubState, KeepGrants, StandsFor, oldest_number}
use Rattle.version_core.specs.Version.{empty_version, versions_from}
use Rattle.version_core.specs.declared.change.BaseVersion.{BaseVersion}
use Rattle.version_core.specs.declared.hub_tables.HubTables.{HubTables}
use Rattle.sync_world.proofs.ListLemmas.{same_front}
use Rattle.sync_world.proofs.StepLemmas.{read_stays, step_adds}
use Rattle.sync_world.specs.Worlds.{IsWhole, all_of, whole_state, with_oldest}

-- the first of the kept versions has the oldest number
pub oldest_is : (state : HubState) → IsHubState state → (kept : KeptState) → IsPartOf kept state → (oldest_kept kept.versions).number ≡ oldest_number state
oldest_is state is kept part = sym (read_of state is kept part (record { keep = kept.keep; versions = kept.versions; room = None }) refl).oldest

-- ---- the beginning: all is kept

module _ (tables : HubTables) (state : HubState) (is : IsHubState state) (keeps : KeepGrants state.published) (stands : StandsFor tables state) (first : tables.base.number ≡ 0) where
  all_kept : state.published ≡ versions_from tables.base tables.changes
  all_kept = ap (λ n. drop n state.published) (sym first ∙ stands.oldest) ∙ stands.kept

  same_state : all_of (kept_by tables) ≡ state
  same_state = λ i. record { keep = stands.keep i; published = sym all_kept i; marks = stands.marks i }

  part_of_all : IsPartOf (kept_by tables) state
  part_of_all = record { keep = stands.keep; versions = sym stands.kept; marks = stands.marks }

  all_hub : AllByRecursion HoldsRows (versions_from tables.base tables.changes) → IsHub state
  all_hub rows = record { state = is; grants = keeps; rows = subst (AllByRecursion HoldsRows) (sym all_kept) rows }

  begins : AllByRecursion HoldsRows (versions_from tables.base tables.changes) → IsWhole [] (kept_by tables)
  begins rows =
      let oldest : (oldest_kept (versions_from tables.base tables.changes)).number ≡ 0 = ap (λ (v : BaseVersion). v.number) (oldest-versions_from empty_version tables.base tables.changes) ∙ first in
      let none : take (oldest_kept (versions_from tables.base tables.changes)).number [] ++ versions_from tables.base tables.changes ≡ versions_from tables.base tables.changes = ap (λ n. take n [] ++ versions_from tables.base tables.changes) oldest in
      let same : whole_state [] (kept_by tables) ≡ state = (λ i. record { keep = tables.keep; published = none i; marks = tables.marks }) ∙ same_state in
      record {
        hub = subst IsHub (sym same) (all_hub rows);
        part = subst (IsPartOf (kept_by tables)) (sym same) part_of_all;
        reach = omega (arith, oldest);
        front = refl;
      }

-- what tables stand for is whole where they have version 0
pub all_is_whole : (tables : HubTables) (kept : KeptState) → ((state : HubState) × IsHubState state × KeepGrants state.published × StandsFor tables state) → kept ≡ kept_by tables → (oldest_kept kept.versions).number ≡ 0
    → AllByRecursion HoldsRows (versions_from tables.base tables.changes) → IsWhole [] kept
all_is_whole tables kept (state, is, keeps, stands) same none rows =
    let first : tables.base.number ≡ 0 = ap (λ (v : BaseVersion). v.number) (sym (oldest-versions_from empty_version tables.base tables.changes)) ∙ ap (λ (k : KeptState). (oldest_kept k.versions).number) (sym same) ∙ none in
    subst (IsWhole []) (sym same) (begins tables state is keeps stands first rows)

pub whole_of_all : (kept : KeptState) → (oldest_kept kept.versions).number ≡ 0 → whole_state [] kept ≡ all_of kept
whole_of_all kept none = λ i. record { keep = kept.keep; published = take (none i) [] ++ kept.versions; marks = kept.marks }

-- ---- the oldest version is held too

first_behind : (front versions : List BaseVersion) → 0 < length versions → take (length front + 1) (front ++ versions) ≡ front ++ oldest_kept versions ∷ []
first_behind front [] some = absurd (omega arith)
first_behind front (v ∷ vs) some = take-append-add front (v ∷ vs) 1

module _ (gone : List BaseVersion) (kept : KeptState) (whole : IsWhole gone kept) where
  abbrev oldest : BaseVersion
  oldest = oldest_kept kept.versions

  some_kept : 0 < length kept.versions
  some_kept =
      let state = whole_state gone kept in
      let some = some_version state whole.hub.state in
      let long = ap length whole.part.versions ∙ length-drop (oldest_number state) state.published in
      omega (arith, some, long)

  abbrev held : Bool → List BaseVersion
  held b = cond b gone (gone ++ oldest ∷ [])

  same_before : (b : Bool) → take oldest.number (held b) ≡ take oldest.number gone
  same_before true = refl
  same_before false = take-append-le oldest.number gone (oldest ∷ []) whole.reach

  reaches : (b : Bool) → nat_lt oldest.number (length gone) ≡ b → oldest.number < length (held b)
  reaches true e = grind (arith, nat_tests)
  reaches false e = let reach = whole.reach in let long = length-append gone (oldest ∷ []) in omega (arith, reach, long)

  front_held : (b : Bool) → nat_lt oldest.number (length gone) ≡ b → take (length (held b)) (whole_state gone kept).published ≡ held b
  front_held true e = whole.front
  front_held false e =
      let above : length gone ≤ oldest.number = grind (arith, nat_tests) in
      let reach = whole.reach in
      let number : oldest.number ≡ length gone = omega (arith, above, reach) in
      ap (λ n. take n (whole_state gone kept).published) (length-append gone (oldest ∷ []))
      ∙ ap (λ front. take (length gone + 1) (front ++ kept.versions)) (ap (λ n. take n gone) number ∙ take-length gone)
      ∙ first_behind gone kept.versions some_kept

  pub same_with_oldest : whole_state (with_oldest (oldest_kept kept.versions) gone) kept ≡ whole_state gone kept
  same_with_oldest = λ i. record { keep = kept.keep; published = same_before (nat_lt oldest.number (length gone)) i ++ kept.versions; marks = kept.marks }

  pub reaches_oldest : (oldest_kept kept.versions).number < length (with_oldest (oldest_kept kept.versions) gone)
  reaches_oldest = reaches (nat_lt oldest.number (length gone)) refl

  pub whole_with_oldest : IsWhole (with_oldest (oldest_kept kept.versions) gone) kept
  whole_with_oldest =
      let reach = reaches_oldest in
      record {
        hub = subst IsHub (sym same_with_oldest) whole.hub;
        part = subst (IsPartOf kept) (sym same_with_oldest) whole.part;
        reach = omega (arith, reach);
        front = ap (λ (s : HubState). take (length (with_oldest oldest gone)) s.published) same_with_oldest ∙ front_held (nat_lt oldest.number (length gone)) refl;
      }

-- ---- a step

-- where no version is let go that isn't held, the state that a step leads to is whole
module _ (gone : List BaseVersion) (kept kept' : KeptState) (whole : IsWhole gone kept) (next : HubState) (is : IsHub next) (part : IsPartOf kept' next) (grew : Grew (whole_state gone kept) next) (within : oldest_number next ≤ length gone) where
  one_front : take (length gone) next.published ≡ gone
  one_front =
      let published = (whole_state gone kept).published in
      let short = sym (ap length whole.front) ∙ length-take (length gone) published in
      same_front empty_version (length gone) published next.published (omega (arith, short)) grew.longer grew.same ∙ whole.front

  let_go : take (oldest_number next) gone ≡ take (oldest_number next) next.published
  let_go = ap (take (oldest_number next)) (sym one_front) ∙ take-take (oldest_number next) (length gone) next.published within

  first_number : (oldest_kept kept'.versions).number ≡ oldest_number next
  first_number = oldest_is next is.state kept' part

  all_published : take (oldest_kept kept'.versions).number gone ++ kept'.versions ≡ next.published
  all_published =
      ap (λ n. take n gone ++ kept'.versions) first_number
      ∙ ap (λ front. front ++ kept'.versions) let_go
      ∙ ap (λ versions. take (oldest_number next) next.published ++ versions) part.versions
      ∙ take-append-drop (oldest_number next) next.published

  pub is_next : whole_state gone kept' ≡ next
  is_next = λ i. record { keep = part.keep i; published = all_published i; marks = part.marks i }

  pub whole_next : IsWhole gone kept'
  whole_next =
      let number = first_number in
      record {
        hub = subst IsHub (sym is_next) is;
        part = subst (IsPartOf kept') (sym is_next) part;
        reach = omega (arith, number, within);
        front = ap (λ (s : HubState). take (length gone) s.published) is_next ∙ one_front;
      }

-- the state is whole again, and a step led to it
pub record Led (request : Request) (at : ℤ) (reply : Reply) (before : HubState) (gone : List BaseVersion) (kept : KeptState) (failed : ℕ) : Type 0 where
  pub whole : IsWhole gone kept
  pub step : Steps (Take (wanted_by request) at) before (Replied reply) (whole_state gone kept) failed

module _ (request : Request) (at : ℤ) (reply : Reply) (gone : List BaseVersion) (kept kept' : KeptState) (failed : ℕ) (whole : IsWhole gone kept) (takes : TakesRequest request at reply kept kept' failed) where
  led : (next : HubState) → IsHub next → IsPartOf kept' next → Steps (Take (wanted_by request) at) (whole_state gone kept) (Replied reply) next failed → oldest_number next ≤ length gone
      → Led request at reply (whole_state gone kept) gone kept' failed
  led next is part step within =
      let grew = (step_grows (Take (wanted_by request) at) (whole_state gone kept) (Replied reply) next failed step).grew in
      record {
        whole = whole_next gone kept kept' whole next is part grew within;
        step = subst (λ (s : HubState). Steps (Take (wanted_by request) at) (whole_state gone kept) (Replied reply) s failed) (sym (is_next gone kept kept' whole next is part grew within)) step;
      }

  -- a read lets no version go
  pub read_led : is_write request.verb ≡ false → Led request at reply (whole_state gone kept) gone kept' failed
  read_led read =
      let state = whole_state gone kept in
      let (next, _, holds, part, step) = takes state (record { state = whole.hub.state; grants = whole.hub.grants }) whole.part in
      let is = holds whole.hub in
      let same = ap oldest_number (read_stays (wanted_by request) at state next reply failed read step) in
      let number = oldest_is state whole.hub.state kept whole.part in
      let reach = whole.reach in
      led next is part step (omega (arith, same, number, reach))

  write_led : (oldest_kept kept.versions).number < length gone → Led request at reply (whole_state gone kept) gone kept' failed
  write_led reach =
      let state = whole_state gone kept in
      let (next, _, holds, part, step) = takes state (record { state = whole.hub.state; grants = whole.hub.grants }) whole.part in
      let is = holds whole.hub in
      let few = step_adds (wanted_by request) at state next reply failed step in
      let keep = (step_grows (Take (wanted_by request) at) state (Replied reply) next failed step).grew.keep in
      let number = oldest_is state whole.hub.state kept whole.part in
      led next is part step (omega (arith, few, keep, number, reach))

-- a write lets one go at most, which is held before
module _ (request : Request) (at : ℤ) (reply : Reply) (gone : List BaseVersion) (kept kept' : KeptState) (failed : ℕ) (whole : IsWhole gone kept) where
  with_oldest_led : TakesRequest request at reply kept kept' failed → Led request at reply (whole_state gone kept) (with_oldest (oldest_kept kept.versions) gone) kept' failed
  with_oldest_led takes =
      let held = with_oldest (oldest_kept kept.versions) gone in
      let led = write_led request at reply held kept kept' failed (whole_with_oldest gone kept whole) takes (reaches_oldest gone kept whole) in
      record {
        whole = led.whole;
        step = subst (λ (s : HubState). Steps (Take (wanted_by request) at) s (Replied reply) (whole_state held kept') failed) (same_with_oldest gone kept whole) led.step;
      }

  pub held_led : (gone' : List BaseVersion) (same : KeptState) → same ≡ kept → gone' ≡ with_oldest (oldest_kept kept.versions) gone → TakesRequest request at reply same kept' failed → Led request at reply (whole_state gone kept) gone' kept' failed
  held_led gone' same is held takes =
      subst (λ (g : List BaseVersion). Led request at reply (whole_state gone kept) g kept' failed) (sym held) (with_oldest_led (subst (λ (k : KeptState). TakesRequest request at reply k kept' failed) is takes))

-- what a hub's answer says of what its keeper keeps
pub keeper_takes : (request : Request) (at : ℤ) (reply : Reply) (failed : ℕ) (hub hub' : HeldHub) (kept kept' : KeptState) → KeeperFits (λ k. k ≡ kept') hub'
    → ((after : KeptState) → IsStanding hub' after → (before : KeptState) × IsStanding hub before × (after ≡ kept' → before ≡ kept) × TakesRequest request at reply before after failed)
    → TakesRequest request at reply kept kept' failed
keeper_takes request at reply failed hub hub' kept kept' fits led =
    let (before, stood, told, takes) = led kept' (fits kept' refl) in
    subst (λ (k : KeptState). TakesRequest request at reply k kept' failed) (told refl) takes

-- the keeper's failure, and want of memory, are steps that leave the state
pub error_led : (request : Request) (at : ℤ) (e : KeeperError) (h : HubError) (reply : Reply) (before now : ℕ) (state : HubState) → h ≡ error_of_keeper e → reply ≡ error_reply (wanted_by request) h → CountsError before now e
    → (failed : ℕ) × CountsFailed before now failed × Steps (Take (wanted_by request) at) state (Replied reply) state failed
error_led request at Failed h reply before now state error is counts =
    (1, inr (refl, counts), Fails (inl refl) (ap Replied (is ∙ ap (error_reply (wanted_by request)) error)) refl)
error_led request at NoMemory h reply before now state error is counts =
    (0, inl (refl, counts), WantsMemory (inl refl) (ap Replied (is ∙ ap (error_reply (wanted_by request)) error)) refl)
