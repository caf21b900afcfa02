-- When an incremental synchronisation has to be complete.
use Rattle.std.proofs.Common.{◌≡◌, ◌⊎◌, ⊎_elim, ◌<◌, ◌≤◌, ℕ, Bool, true, false, cond, List, [], ◌∷◌, length, Option}
use Rattle.std.proofs.Common.{Some, sym, subst, ap, ◌∙◌, arith, find, bytes_eq}
use Rattle.std.proofs.lemmas.Bool.{cases_lt}
use Rattle.std.proofs.lemmas.Option.{none-some, same_Some}
use Rattle.std.specs.List.{AllByRecursion}
use Rattle.consumer_sync.proofs.DoneLemmas.{known_not}
use Rattle.keeper_memory.specs.copy.Copies.{Copy}
use Rattle.exchange_link.specs.Completeness.{StandsAt, first_pin}
use Rattle.exchange_link.specs.Exchanges.{LinkState}
use Rattle.exchange_link.specs.declared.answer.SyncAnswer.{SyncAnswer}
use Rattle.exchange_link.specs.declared.answer.SyncAnswer.TheVariants as answer
use Rattle.hub_spec.proofs.Cutting.{known_at}
use Rattle.hub_spec.proofs.Versions.{beyond, last_at, number_at, version_is}
use Rattle.hub_spec.specs.rules.Checks.{version_at}
use Rattle.hub_spec.specs.rules.Growth.{Grew}
use Rattle.hub_spec.specs.rules.States.{IsHub}
use Rattle.hub_spec.specs.rules.Verdicts.{newest_in}
use Rattle.keeper_memory.specs.declared.copy.state.StageState.{StageState}
use Rattle.roster_base.specs.Faults.{Rose}
use Rattle.roster_values.specs.declared.kind.Kind.{Kind}
use Rattle.version_core.specs.Grants.{grant_of}
use Rattle.version_core.specs.HubStates.{HubState, newest_number, oldest_number}
use Rattle.version_core.specs.Version.{empty_version}
use Rattle.version_core.specs.declared.change.BaseVersion.{BaseVersion}
use Rattle.version_core.specs.declared.grant_row.GrantRow.{GrantRow}
use Rattle.consumer_deltas.proofs.DeltaStopLemmas.{halts_end}
use Rattle.consumer_deltas.specs.DeltaAnswers.{DeltaTold}
use Rattle.consumer_deltas.specs.DeltaCalls.{IsDeltaDone}
use Rattle.consumer_deltas.specs.DeltaCauses.{DeltaCause}
use Rattle.consumer_deltas.specs.DeltaCauses.DeltaCause.{Broke as BrokeBeside, Halted, OutOfRuns, Swapped, Unbased}
use Rattle.consumer_deltas.specs.DeltaCauses.DeltaCause.{Wants as WantsAlone}
use Rattle.consumer_deltas.specs.DeltaFilling.{GoneBehind, Halts}
use Rattle.consumer_deltas.specs.DeltaFilling.Halts.{Broke, Merging, Stopped, Wants as WantsBeside}
use Rattle.consumer_deltas.specs.DeltaGathering.{ending_of}
use Rattle.consumer_deltas.specs.DeltaGathering.Stops.{Given, NoReply, NoneCame, Wants}
use Rattle.consumer_deltas.specs.DeltaJudging.{Sofar, count_in, delta_judged}
use Rattle.consumer_deltas.specs.DeltaMerging.{Unmerged}
use Rattle.consumer_deltas.specs.DeltaMerging.Unmerged.{Broke as Broken, TooMany as OverLimit, Wants as Wanting}
use Rattle.consumer_deltas.specs.declared.answer.DeltaAnswer.{DeltaAnswer}
use Rattle.consumer_deltas.specs.declared.answer.DeltaAnswer.TheVariants.{BaseGone, Ended, NoBase}
use Rattle.consumer_deltas.specs.declared.judging.DeltaAct.{DeltaAct}
use Rattle.consumer_deltas.specs.declared.judging.DeltaAct.TheVariants as act
use Rattle.consumer_deltas.specs.declared.judging.Place.{Place}

-- ---- answers that a reply doesn't give

-- what the cause of an answer gives where no reply gave it: the tries that were missed, or the keeper's fault
abbrev pub Needs : Type 0 → Type 0 → DeltaAnswer → Type 0
Needs missed broke (Ended (answer.Interrupted kind offset)) = missed
Needs missed broke (Ended answer.KeeperFault) = broke
Needs missed broke a = Unit {0}

given_needs : (missed broke : Type 0) (x : DeltaAct) (here : Place) (n : ℕ) → Needs missed broke (ending_of x here n)
given_needs missed broke (act.PinGone pin oldest) here n = tt
given_needs missed broke (act.BaseGone oldest) here n = tt
given_needs missed broke act.UnknownToken here n = tt
given_needs missed broke (act.TooLarge total) here n = tt
given_needs missed broke act.HubFault here n = tt
given_needs missed broke act.HubNoMemory here n = tt
given_needs missed broke x here n = tt

unmerged_needs : (missed broke : Type 0) (copies : Copy → Type 0) (kind : Kind) (entries : Sofar) (s : SyncAnswer) → Unmerged broke copies kind entries s → Needs missed broke (Ended s)
unmerged_needs missed broke copies kind entries s (Broken b e) = subst (λ s. Needs missed broke (Ended s)) (sym e) b
unmerged_needs missed broke copies kind entries s (Wanting e) = subst (λ s. Needs missed broke (Ended s)) (sym e) tt
unmerged_needs missed broke copies kind entries s (OverLimit n many is e) = subst (λ s. Needs missed broke (Ended s)) (sym e) tt

module _ (kept : List ℕ) (run count : ℕ) (missed broke : Type 0) (copies : Copy → Type 0) (place : Place) (a : DeltaAnswer) where
  halts_needs : Halts kept run count missed broke copies place a → Needs missed broke a
  halts_needs (Stopped held shown (Given g)) = subst (Needs missed broke) (sym g.given) (given_needs missed broke (delta_judged g.here g.sofar g.reply) g.here (count_in g.sofar))
  halts_needs (Stopped held shown (NoneCame offset all_missed unlike is)) = subst (Needs missed broke) (sym is) all_missed
  halts_needs (Stopped held shown (NoReply offset unlike is)) = subst (Needs missed broke) (sym is) tt
  halts_needs (Stopped held shown (Wants is)) = subst (Needs missed broke) (sym is) tt
  halts_needs (Merging entries are shown s unmerged is) = subst (Needs missed broke) (sym is) (unmerged_needs missed broke copies place.kind entries s unmerged)
  halts_needs (Broke rose is) = subst (Needs missed broke) (sym is) rose
  halts_needs (WantsBeside is) = subst (Needs missed broke) (sym is) tt

  cause_needs : DeltaCause kept run count missed broke copies place a → Needs missed broke a
  cause_needs (Unbased none is) = subst (Needs missed broke) (sym is) tt
  cause_needs (OutOfRuns none is) = subst (Needs missed broke) (sym is) tt
  cause_needs (Swapped version is) = subst (Needs missed broke) (sym is) tt
  cause_needs (BrokeBeside rose is) = subst (Needs missed broke) (sym is) rose
  cause_needs (WantsAlone is) = subst (Needs missed broke) (sym is) tt
  cause_needs (Halted halts) = halts_needs halts

  -- a keeper's fault comes only where its count rose
  pub cause_fails : DeltaCause kept run count missed broke copies place a → a ≡ Ended answer.KeeperFault → broke
  cause_fails cause is = subst (Needs missed broke) is (cause_needs cause)

-- ---- grants

found_has : (P : GrantRow → Type 0) (test : GrantRow → Bool) (rows : List GrantRow) (row : GrantRow) → AllByRecursion P rows → find test rows ≡ Some row → P row
found_has P test [] row all e = cc
found_has P test (r ∷ rows) row all e =
    elim (test r) as (λ b. cond b (Some r) (find test rows) ≡ Some row → P row) [
      | true ↦ λ is. let same : r ≡ row = cc in subst P same all.0
      | false ↦ λ later. found_has P test rows row all.1 later
    ] e

-- a state in between, and a later one in which the token's grant isn't younger than a version that was published then
module _ (mid u : HubState) (hub : IsHub u) (grew : Grew mid u) (token : List ℕ) (base : ℕ) (low : base < length mid.published) (at : StandsAt base token u) where
  abbrev by : GrantRow
  by = at.by

  -- in each version from the base on the grant was this one
  known_in : (v : ℕ) → by.grant.since ≤ v → v < length mid.published → grant_of token (version_at mid v).grants ≡ Some by
  known_in v since lt = ap (λ (version : BaseVersion). grant_of token version.grants) (sym (grew.same v lt)) ∙ known_at u hub token by at.known v since (omega (arith, lt, grew.longer))

  newest_is : newest_in mid ≡ version_at mid (newest_number mid)
  newest_is = last_at empty_version mid.published (omega (arith, low))

  pub was_known : grant_of token (newest_in mid).grants ≡ Some by
  was_known = ap (λ (version : BaseVersion). grant_of token version.grants) newest_is ∙ known_in (newest_number mid) (omega (arith, at.since, low)) (omega (arith, low))

  keeps : oldest_number mid ≤ oldest_number u
  keeps = omega (arith, grew.keep, grew.longer)

  -- so no version is gone that stands later
  pub not_gone : (pin : ℕ) (other : GrantRow) → oldest_number u ≤ pin → by.grant.since ≤ pin → grant_of token (newest_in mid).grants ≡ Some other → (pin < oldest_number mid) ⊎ (pin < other.grant.since) → ⊥
  not_gone pin other oldest since known why =
      let same : other ≡ by = same_Some _ _ (sym known ∙ was_known) in
      ⊎_elim (λ (h : pin < oldest_number mid). omega (arith, h, oldest, keeps))
      (λ (h : pin < other.grant.since). let h2 : pin < by.grant.since = subst (λ (r : GrantRow). pin < r.grant.since) same h in omega (arith, h2, since)) why

  -- a grant in a version is not younger than the version
  since_low : (v : ℕ) (other : GrantRow) → v < length mid.published → grant_of token (version_at mid v).grants ≡ Some other → other.grant.since ≤ v
  since_low v other lt known =
      let within : v ≤ newest_number u = omega (arith, lt, grew.longer) in
      let is = version_is u hub.state v within in
      let found : grant_of token (version_at u v).grants ≡ Some other = ap (λ (version : BaseVersion). grant_of token version.grants) (grew.same v lt) ∙ known in
      let le = found_has (λ r. r.grant.since ≤ (version_at u v).number) (λ r. bytes_eq r.grant.token token) (version_at u v).grants other is.grants.since found in
      omega (arith, le, number_at u hub.state v within)

  pub base_kept : (v : ℕ) (other : GrantRow) → grant_of token (version_at mid v).grants ≡ Some other → (base < oldest_number mid) ⊎ (base < other.grant.since) → ⊥
  base_kept v other known why = ⊎_elim (λ (h : base < oldest_number mid). omega (arith, h, at.oldest, keeps)) young why
    where
      published : (v < length mid.published) → base < other.grant.since → ⊥
      published lt h = ⊎_elim
          (λ (below : v < by.grant.since). let le = since_low v other lt known in omega (arith, h, le, below, at.since))
          (λ (since : by.grant.since ≤ v). let same : other ≡ by = same_Some _ _ (sym known ∙ known_in v since lt) in let h2 : base < by.grant.since = subst (λ (r : GrantRow). base < r.grant.since) same h in omega (arith, h2, at.since))
          (cases_lt v by.grant.since)

      young : base < other.grant.since → ⊥
      young h = ⊎_elim (λ (lt : v < length mid.published). published lt h)
          (λ (above : length mid.published ≤ v). absurd (none-some _ (sym (ap (λ (version : BaseVersion). grant_of token version.grants) (beyond v mid.published above)) ∙ known)))
          (cases_lt v (length mid.published))

module _ (kept : List ℕ) (run count : ℕ) (missed broke : Type 0) (copies : Copy → Type 0) (place : Place)
    (token : List ℕ) (first : Option StageState) (before after : LinkState) (hub : IsHub after.hub)
    (no_miss : missed → ⊥) (no_break : broke → ⊥) (quiet : Rose before.hub_faults after.hub_faults → ⊥)
    (low : place.base < length before.hub.published)
    (at : StandsAt (first_pin first before.hub) token after.hub) (on : StandsAt place.base token after.hub) where
  -- where nothing fails and both versions stand, the call is complete, or wants memory
  pub done_of : (a : DeltaAnswer) → Halts kept run count missed broke copies place a → DeltaTold token before after a → GoneBehind first before.hub a → IsDeltaDone a
  done_of (Ended (answer.Complete v)) halts told gone = tt
  done_of (Ended answer.NoMemory) halts told gone = tt
  done_of (Ended answer.HubNoMemory) halts told gone = tt
  done_of (Ended (answer.Interrupted kind offset)) halts told gone = no_miss (halts_needs kept run count missed broke copies place (Ended (answer.Interrupted kind offset)) halts)
  done_of (Ended answer.KeeperFault) halts told gone = no_break (halts_needs kept run count missed broke copies place (Ended answer.KeeperFault) halts)
  done_of (Ended (answer.PinGone pin oldest)) halts told gone =
      let same : at.by ≡ on.by = same_Some _ _ (sym at.known ∙ on.known) in
      let since : on.by.grant.since ≤ pin = (let s = subst (λ (r : GrantRow). r.grant.since ≤ first_pin first before.hub) same at.since in omega (arith, s, gone)) in
      not_gone told.0 after.hub hub told.2 token place.base (omega (arith, low, told.1.longer)) on pin told.3 (omega (arith, at.oldest, gone)) since told.4 told.5
  done_of (Ended answer.UnknownToken) halts told gone =
      known_not _ on.by (was_known told.0 after.hub hub told.2 token place.base (omega (arith, low, told.1.longer)) on) told.3
  done_of (Ended (answer.TooLarge kind total)) halts told gone = told
  done_of (Ended (answer.BadReply kind offset)) halts told gone = told
  done_of (Ended answer.HubFault) halts told gone = quiet told
  done_of (Ended answer.LastRun) halts told gone = halts_end kept run count missed broke copies place (Ended answer.LastRun) halts
  done_of NoBase halts told gone = halts_end kept run count missed broke copies place NoBase halts
  done_of (BaseGone held oldest) halts told gone =
      let same : held ≡ place.base = halts_end kept run count missed broke copies place (BaseGone held oldest) halts in
      base_kept told.0 after.hub hub told.2 token place.base (omega (arith, low, told.1.longer)) on told.3 told.4 told.5 (subst (λ n. (n < oldest_number told.0) ⊎ (n < told.4.grant.since)) same told.6)
