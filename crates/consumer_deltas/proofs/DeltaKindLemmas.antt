-- What one kind makes of a copy and a hub that agree.
use Rattle.std.proofs.Common.{◌≡◌, ◌⊎◌, ⊎_elim, inl, inr, ◌*◌, ◌<◌, ◌≤◌, ℕ, List, [], length, Option, Some, None}
use Rattle.std.proofs.Common.{Ok, Err, refl, sym, subst, ap, ◌∙◌, arith, max}
use Rattle.std.specs.Prelude.{IfSome, Result, option_map, unwrap_or}
use Rattle.std.proofs.Math.Nat.{mul-le-mul_left}
use Rattle.std.proofs.lemmas.Option.{none-some, same_Some}
use Rattle.keeper_memory.specs.copy.Changes.{begun, copy_after}
use Rattle.keeper_memory.specs.copy.Copies.{Copy, Stage}
use Rattle.keeper_memory.specs.copy.Lists.{kind_count}
use Rattle.keeper_memory.specs.copy.States.{stage_of, state_of}
use Rattle.keeper_memory.specs.declared.copy.change.CopyChange.TheVariants.{Drop}
use Rattle.keeper_memory.specs.declared.copy.state.StageState.{StageState}
use Rattle.exchange_link.proofs.FitLemmas.{copy_on, held_alone}
use Rattle.exchange_link.specs.Agreement.{CopyFits}
use Rattle.exchange_link.specs.Bounds.{pages}
use Rattle.exchange_link.specs.Exchanges.{LinkState}
use Rattle.exchange_link.specs.Places.{kinds_of, next_kind, pin_of}
use Rattle.exchange_link.specs.declared.answer.SyncAnswer.{SyncAnswer}
use Rattle.exchange_link.specs.declared.answer.SyncAnswer.TheVariants as answer
use Rattle.hub_spec.specs.rules.Checks.{version_at}
use Rattle.hub_spec.specs.rules.Growth.{Grew}
use Rattle.hub_spec.specs.rules.States.{IsHub}
use Rattle.hub_spec.specs.views.Deltas.{delta as what_differs}
use Rattle.roster_base.specs.declared.keeper.KeeperError.{KeeperError}
use Rattle.roster_base.specs.declared.keeper.KeeperError.TheVariants as fault
use Rattle.roster_types.specs.Records.{Record}
use Rattle.roster_values.specs.declared.kind.Kind.{Kind}
use Rattle.version_core.specs.HubStates.{HubState}
use Rattle.consumer_sync.proofs.StageLemmas.{pin-stage_after}
use Rattle.consumer_sync.specs.Filling.{HasToken}
use Rattle.consumer_sync.specs.Judging.{kind_done}
use Rattle.consumer_sync.specs.Staging.{Adds, IsBroken, Taking, broken_answer, open_copy, taken}
use Rattle.consumer_sync.specs.Staging.Adds.{Opened, Stays as StaysAdded, Takes}
use Rattle.consumer_deltas.proofs.DeltaAgreeLemmas.{kind_fits}
use Rattle.consumer_deltas.specs.DeltaAnswers.{DeltaTold, HasBase}
use Rattle.consumer_deltas.specs.DeltaFilling.{IsPinGone, KindTold, LetsGo, StagesKind, StaysBased, first_place}
use Rattle.consumer_deltas.specs.DeltaFilling.{no_page, pin_in}
use Rattle.consumer_deltas.specs.DeltaFilling.LetsGo.{Fails as FailsToGo, Goes, Stays, Wants as WantsToGo}
use Rattle.consumer_deltas.specs.DeltaJudging.{Sofar}
use Rattle.consumer_deltas.specs.DeltaMerging.{Merges, StagesList, rest_of}
use Rattle.consumer_deltas.specs.DeltaMerging.Merges.{Fails, Merged}
use Rattle.consumer_deltas.specs.DeltaMerging.StagesList.{Staged, TooMany}
use Rattle.consumer_deltas.specs.DeltaStaging.{Stages, part_of}
use Rattle.consumer_deltas.specs.DeltaStaging.Stages.{Opens, Part, Stays as StaysAll, Whole}
use Rattle.consumer_deltas.specs.DeltaTelling.{GonePin, IsAtPin, IsPinFrom, NamesPin, PagesTold, Tells}
use Rattle.consumer_deltas.specs.declared.answer.DeltaAnswer.{DeltaAnswer}
use Rattle.consumer_deltas.specs.declared.answer.DeltaAnswer.TheVariants.{BaseGone, Ended}
use Rattle.consumer_deltas.specs.declared.gathering.Delta.{Delta}
use Rattle.consumer_deltas.specs.declared.gathering.Delta.TheVariants as delta
use Rattle.consumer_deltas.specs.declared.judging.Place.{Place}

-- ---- the pin of the stage that is left

abbrev pub IsPinnedAt : ℕ → Option Stage → Type 0
IsPinnedAt v o = IfSome o (λ s. s.pin ≡ v)

pinned_by : (o : Option Stage) (h : HubState) (v : ℕ) → IsPinFrom (pin_of (option_map state_of o)) h v → IsPinnedAt v o
pinned_by None h v from = tt
pinned_by (Some s) h v from = sym from

pub pinned_from : (c : Copy) (stage : Option StageState) (h : HubState) (v : ℕ) → stage_of c ≡ stage → IsPinFrom (pin_of stage) h v → IsPinnedAt v c.stage
pinned_from c stage h v e from = pinned_by c.stage h v (subst (λ s. IsPinFrom (pin_of s) h v) (sym e) from)

pin_opened : (o : Option Stage) (v : ℕ) (token : List ℕ) → IsPinnedAt v o → (unwrap_or o (begun v token)).pin ≡ v
pin_opened None v token is = refl
pin_opened (Some s) v token is = is

module _ (v : ℕ) (token : List ℕ) (before after : Copy) (is : IsPinnedAt v before.stage) where
  pin_stays : after ≡ before → IsPinnedAt v after.stage
  pin_stays e = subst (λ (d : Copy). IsPinnedAt v d.stage) (sym e) is

  pin_opens : after ≡ open_copy v token before → IsPinnedAt v after.stage
  pin_opens e = subst (λ (d : Copy). IsPinnedAt v d.stage) (sym e) (pin_opened before.stage v token is)

  pin_taken : (k : Taking) → k.pin ≡ v → after ≡ taken k token before → IsPinnedAt v after.stage
  pin_taken k ep e = subst (λ (d : Copy). IsPinnedAt v d.stage) (sym e)
      (pin-stage_after (unwrap_or before.stage (begun k.pin token)) k.rows k.total k.done ∙ ap (λ n. (unwrap_or before.stage (begun n token)).pin) ep ∙ pin_opened before.stage v token is)

  adds_pin : (k : Taking) (r : Option SyncAnswer) → k.pin ≡ v → Adds k token r before after → IsPinnedAt v after.stage
  adds_pin k r ep (StaysAdded b e) = pin_stays e
  adds_pin k r ep (Opened b e) = pin_opens (e ∙ ap (λ n. open_copy n token before) ep)
  adds_pin k r ep (Takes b e) = pin_taken k ep e

  stages_pin : (k : Taking) (r : Option SyncAnswer) → k.pin ≡ v → Stages k token r before after → IsPinnedAt v after.stage
  stages_pin k r ep (Whole b e) = pin_taken k ep e
  stages_pin k r ep (Part rows front b e) = pin_taken (part_of k rows) ep e
  stages_pin k r ep (Opens b e) = pin_opens (e ∙ ap (λ n. open_copy n token before) ep)
  stages_pin k r ep (StaysAll b e) = pin_stays e

  list_pin : (kind : Kind) (stage : Option StageState) (rows : List Record) (r : Option SyncAnswer) → StagesList kind stage v token rows r before after → IsPinnedAt v after.stage
  list_pin kind stage rows r (Staged few s) = stages_pin (rest_of stage v rows) r refl s
  list_pin kind stage rows r (TooMany many is' e) = pin_stays e

  merges_pin : (kind : Kind) (entries : Sofar) (stage : Option StageState) (r : Option SyncAnswer) → Merges kind entries stage v token r before after → IsPinnedAt v after.stage
  merges_pin kind entries stage r (Merged s) = list_pin kind stage _ r s
  merges_pin kind entries stage r (Fails b e) = pin_stays e

kind_pin : (d : Delta) (kind : Kind) (stage : Option StageState) (token : List ℕ) (r : Option SyncAnswer) (before after : Copy) → IsPinnedAt (pin_in d) before.stage → StagesKind d kind stage token r before after → IsPinnedAt (pin_in d) after.stage
kind_pin (delta.Closed pin) kind stage token r before after is s = adds_pin pin token before after is (no_page pin) r refl s
kind_pin (delta.Whole pin entries) kind stage token r before after is s = merges_pin pin token before after is kind entries stage r s

-- ---- where the pages ended

-- keeper and memory have no cause of the hub, and name no pin
abbrev IsBeside : DeltaAnswer → Type 0
IsBeside (Ended answer.KeeperFault) = Unit {0}
IsBeside (Ended answer.NoMemory) = Unit {0}
IsBeside a = ⊥

beside_told : (token : List ℕ) (before after : LinkState) (a : DeltaAnswer) → IsBeside a → DeltaTold token before after a
beside_told token before after (Ended answer.KeeperFault) is = tt
beside_told token before after (Ended answer.NoMemory) is = tt
beside_told token before after a is = absurd is

beside_gone : (pin : Option ℕ) (h : HubState) (a : DeltaAnswer) → IsBeside a → GonePin pin h a
beside_gone pin h (Ended answer.KeeperFault) is = tt
beside_gone pin h (Ended answer.NoMemory) is = tt
beside_gone pin h a is = absurd is

beside_names : (a : DeltaAnswer) (v : ℕ) → IsBeside a → NamesPin a v
beside_names (Ended answer.KeeperFault) v is = tt
beside_names (Ended answer.NoMemory) v is = tt
beside_names a v is = absurd is

-- the answer that was given, or that of keeper or memory
goes_with : (given result : DeltaAnswer) (before after : Copy) → LetsGo given result before after → (result ≡ given) ⊎ IsBeside result
goes_with given result before after (Stays not is e) = inl is
goes_with given result before after (Goes gone is e) = inl is
goes_with given result before after (FailsToGo gone is x) = inr (subst IsBeside (sym is) tt)
goes_with given result before after (WantsToGo gone is e) = inr (subst IsBeside (sym is) tt)

gone_stays : (stage : Option StageState) (c : Copy) (a : DeltaAnswer) → IsPinGone a → StaysBased stage c a
gone_stays stage c (Ended (answer.PinGone pin oldest)) gone = tt
gone_stays stage c a gone = absurd gone

same_stays : (stage : Option StageState) (c : Copy) (a : DeltaAnswer) → stage_of c ≡ stage → StaysBased stage c a
same_stays stage c (BaseGone held oldest) e = e
same_stays stage c a e = tt

-- only with its pin does the stage go
goes_stays : (stage : Option StageState) (given result : DeltaAnswer) (before after : Copy) → stage_of before ≡ stage → LetsGo given result before after → StaysBased stage after result
goes_stays stage given result before after at (Stays not is e) = same_stays stage after result (ap stage_of e ∙ at)
goes_stays stage given result before after at (Goes gone is e) = subst (StaysBased stage after) (sym is) (gone_stays stage after given gone)
goes_stays stage given result before after at (FailsToGo gone is x) = subst (StaysBased stage after) (sym is) tt
goes_stays stage given result before after at (WantsToGo gone is e) = subst (StaysBased stage after) (sym is) tt

-- the copy is as before, or without its stage
goes_copy : (given result : DeltaAnswer) (before after : Copy) → LetsGo given result before after → (after ≡ before) ⊎ (after ≡ copy_after Drop before)
goes_copy given result before after (Stays not is e) = inl e
goes_copy given result before after (Goes gone is e) = inr e
goes_copy given result before after (FailsToGo gone is x) = x
goes_copy given result before after (WantsToGo gone is e) = inl e

-- what is held stays, whether the stage goes or not
pub goes_held : (given result : DeltaAnswer) (before after : Copy) → LetsGo given result before after → before.held ≡ after.held
goes_held given result before after go = ⊎_elim (λ (same : after ≡ before). ap (λ (c : Copy). c.held) (sym same)) (λ (dropped : after ≡ copy_after Drop before). ap (λ (c : Copy). c.held) (sym dropped)) (goes_copy given result before after go)

-- the keeper gave up before anything was asked for
broken_is_beside : (e : KeeperError) → IsBeside (Ended (broken_answer e))
broken_is_beside fault.Failed = tt
broken_is_beside fault.NoMemory = tt

pub broken_told : (token : List ℕ) (limit tries base n : ℕ) (stage new : Option StageState) (told : LinkState) (c : Copy) → stage_of c ≡ stage → CopyFits c told.hub → n ≤ tries → (e : KeeperError) (a : SyncAnswer) (r : DeltaAnswer) → a ≡ broken_answer e → r ≡ Ended a
    → KindTold token limit tries base n stage new (Some r) told told c
broken_told token limit tries base n stage new told c at fits few e a r is gives =
    let beside : IsBeside r = subst IsBeside (sym (gives ∙ ap Ended is)) (broken_is_beside e) in
    record {
      fits = fits;
      cause = beside_told token told told r beside;
      gone = beside_gone (pin_of stage) told.hub r beside;
      stays = same_stays stage c r at;
      bound = inl few;
    }

module _ (token : List ℕ) (limit tries base n : ℕ) (stage : Option StageState) (told t : LinkState) (before : Copy) (e : stage_of before ≡ stage) (fits : CopyFits before t.hub) where
  abbrev place : Place
  place = first_place stage base limit

  -- the pages ended with an answer
  pub stopped_told : (new : Option StageState) (given result : DeltaAnswer) (after : Copy) → PagesTold told t token place tries n (let r : Result Delta DeltaAnswer = Err given in r) → LetsGo given result before after
      → KindTold token limit tries base n stage new (Some result) told t after
  stopped_told new given result after p go =
      let answered = goes_with given result before after go in
      let left = goes_copy given result before after go in
      record {
        fits = ⊎_elim (λ (same : after ≡ before). subst (λ d. CopyFits d t.hub) (sym same) fits)
            (λ (dropped : after ≡ copy_after Drop before). subst (λ d. CopyFits d t.hub) (sym dropped) (record { stage = tt; held = held_alone before.held before.stage t.hub fits.held })) left;
        cause = ⊎_elim (λ (is : result ≡ given). subst (λ a. DeltaTold token told t a) (sym is) p.cause) (λ is. beside_told token told t result is) answered;
        gone = ⊎_elim (λ (is : result ≡ given). subst (λ a. GonePin (pin_of stage) told.hub a) (sym is) p.gone) (λ is. beside_gone (pin_of stage) told.hub result is) answered;
        stays = goes_stays stage given result before after e go;
        bound = ⊎_elim (λ (few : n ≤ tries). inl few) (λ b. inr (
          b.0,
          b.1,
          b.2,
          ⊎_elim (λ (is : result ≡ given). subst (λ a. NamesPin a b.0) (sym is) b.3) (λ is. beside_names result b.0 is) answered,
          ⊎_elim (λ (same : after ≡ before). subst (λ (d : Copy). IsPinnedAt b.0 d.stage) (sym same) (pinned_from before stage told.hub b.0 e b.1))
              (λ (dropped : after ≡ copy_after Drop before). subst (λ (d : Copy). IsPinnedAt b.0 d.stage) (sym dropped) tt) left,
          b.4,
        )) p.bound;
      }

-- ---- where the kind is whole

at_pin : (d : Delta) (v : ℕ) → (let r : Result Delta DeltaAnswer = Ok d in IsAtPin r v) → v ≡ pin_in d
at_pin (delta.Closed pin) v e = e
at_pin (delta.Whole pin entries) v e = e

told_from : (a h : HubState) (token : List ℕ) (here : Place) (d : Delta) → Tells a h token here d → IsPinFrom here.pin a (pin_in d)
told_from a h token here (delta.Closed pin) x = x.1
told_from a h token here (delta.Whole pin entries) x = x.1

pin_paged : (stage : Option StageState) (h : HubState) (v : ℕ) (token : List ℕ) → IsPinFrom (pin_of stage) h v → pin_of (Some (kind_done stage v token)) ≡ Some v
pin_paged None h v token from = refl
pin_paged (Some s) h v token from = ap Some (sym from)

broken_beside : (s : SyncAnswer) → IsBroken (Some s) → IsBeside (Ended s)
broken_beside s b = ⊎_elim (λ (e : Some s ≡ Some answer.KeeperFault). subst (λ a. IsBeside (Ended a)) (sym (same_Some _ _ e)) tt) (λ (e : Some s ≡ Some answer.NoMemory). subst (λ a. IsBeside (Ended a)) (sym (same_Some _ _ e)) tt) b

one_num : (n t p : ℕ) → n ≤ t → n ≤ t * max 1 p
one_num n t p few = let le : 1 ≤ max 1 p = omega arith in let x : t * 1 ≤ t * max 1 p = mul-le-mul_left t le in let y : t ≤ t * max 1 p = grind (arith, x) in omega (arith, few, y)

more_num : (n t p : ℕ) → n ≤ t * p → n ≤ t * max 1 p
more_num n t p few = let le : p ≤ max 1 p = omega arith in let x : t * p ≤ t * max 1 p = mul-le-mul_left t le in omega (arith, few, x)

module _ (token : List ℕ) (limit tries base n : ℕ) (stage : Option StageState) (told t : LinkState) (before after : Copy) (d : Delta) (e : stage_of before ≡ stage) (et : HasToken token stage) (lt : kinds_of stage < kind_count)
    (hub : IsHub t.hub) (y : CopyFits before told.hub) (grew : Grew told.hub t.hub) (has : HasBase base token before) (p : PagesTold told t token (first_place stage base limit) tries n (let r : Result Delta DeltaAnswer = Ok d in r)) where
  abbrev kind : Kind
  kind = next_kind stage

  x : CopyFits before t.hub
  x = copy_on before told.hub t.hub grew y

  from : IsPinFrom (pin_of stage) told.hub (pin_in d)
  from = told_from told.hub t.hub token (first_place stage base limit) d p.whole

  staged : (r : Option SyncAnswer) → StagesKind d kind stage token r before after → CopyFits after t.hub × ((r ≡ None) ⊎ IsBroken r)
  staged r s = kind_fits before after stage told.hub t.hub hub token base limit e et lt x has d r y p.whole s

  -- and staged
  pub staged_told : (new : Option StageState) → new ≡ Some (kind_done stage (pin_in d) token) → StagesKind d kind stage token None before after → KindTold token limit tries base n stage new None told t after
  staged_told new is s = record {
    fits = (staged None s).0;
    cause = tt;
    gone = tt;
    stays = tt;
    bound = (
      pin_in d,
      ap pin_of is ∙ pin_paged stage told.hub (pin_in d) token from,
      from,
      ⊎_elim (λ (few : n ≤ tries). one_num n tries (pages limit (length (what_differs (version_at t.hub base) (version_at t.hub (pin_in d)) token kind))) few)
          (λ b. more_num n tries (pages limit (length (what_differs (version_at t.hub base) (version_at t.hub (pin_in d)) token kind)))
          (subst (λ v. n ≤ tries * pages limit (length (what_differs (version_at t.hub base) (version_at t.hub v) token kind))) (at_pin d b.0 b.3) b.4)) p.bound,
    );
  }

  -- or keeper or memory gave up
  pub unstaged_told : (new : Option StageState) (s : SyncAnswer) → StagesKind d kind stage token (Some s) before after → KindTold token limit tries base n stage new (Some (Ended s)) told t after
  unstaged_told new s done =
      let beside : IsBeside (Ended s) = ⊎_elim (λ (none : Some s ≡ None). absurd (none-some _ (sym none))) (λ b. broken_beside s b) (staged (Some s) done).1 in
      record {
        fits = (staged (Some s) done).0;
        cause = beside_told token told t (Ended s) beside;
        gone = beside_gone (pin_of stage) told.hub (Ended s) beside;
        stays = tt;
        bound = ⊎_elim (λ (few : n ≤ tries). inl few) (λ b. inr (
          b.0,
          b.1,
          b.2,
          beside_names (Ended s) b.0 beside,
          subst (λ v. IsPinnedAt v after.stage) (sym (at_pin d b.0 b.3)) (kind_pin d kind stage token (Some s) before after (pinned_from before stage told.hub (pin_in d) e from) done),
          b.4,
        )) p.bound;
      }
