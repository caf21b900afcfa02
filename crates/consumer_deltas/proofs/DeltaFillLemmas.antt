-- What the kinds make of a copy, over any link.
use Rattle.std.proofs.Common.{◌≡◌, ◌⊎◌, ⊎_elim, inl, inr, arith, min, ℕ, ◌+◌, ◌-◌, ◌^◌, List, Option, Some, None, refl}
use Rattle.std.proofs.Common.{sym, subst, ap, ◌∙◌}
use Rattle.std.proofs.lemmas.Option.{none-some, same_Some}
use Rattle.std.specs.Prelude.{IfSome}
use Rattle.keeper_memory.specs.copy.Changes.{copy_after}
use Rattle.keeper_memory.specs.copy.Copies.{Copy, Stage, held_list}
use Rattle.keeper_memory.specs.declared.copy.change.CopyChange.TheVariants.{Drop}
use Rattle.http_wire.specs.declared.reply_reading.WireReply.{WireReply}
use Rattle.roster_base.specs.Faults.{CountsError, Rose}
use Rattle.roster_base.specs.declared.keeper.KeeperError.{KeeperError}
use Rattle.roster_base.specs.declared.keeper.KeeperError.TheVariants as fault
use Rattle.exchange_link.specs.Synchronised.{StageOn}
use Rattle.exchange_link.specs.declared.answer.SyncAnswer.{SyncAnswer}
use Rattle.exchange_link.specs.declared.answer.SyncAnswer.TheVariants as answer
use Rattle.consumer_sync.proofs.FillLemmas.{fills_end, fills_open, fills_taken, grows_refl, grows_trans}
use Rattle.consumer_sync.specs.Faulted.{SaysGone}
use Rattle.consumer_sync.specs.Filling.{Ends, Fills, StageEnds}
use Rattle.consumer_sync.specs.Staging.{Adds, IsBroken, IsNotGone, Taking, broken_answer}
use Rattle.consumer_sync.specs.Staging.Adds.{Opened, Stays as StaysAdded, Takes}
use Rattle.consumer_deltas.specs.DeltaCalls.{IsDeltaAside}
use Rattle.consumer_deltas.specs.DeltaCauses.{RepliesIf}
use Rattle.consumer_deltas.specs.DeltaFilling.{CanStage, DeltaEnds, Halts, IsPinGone, LetsGo, StagesKind, StandsOn}
use Rattle.consumer_deltas.specs.DeltaFilling.{Unstaged, no_page}
use Rattle.consumer_deltas.specs.DeltaFilling.Halts.{Broke, Merging, Wants}
use Rattle.consumer_deltas.specs.DeltaFilling.LetsGo.{Fails as FailsToGo, Goes, Stays, Wants as WantsToGo}
use Rattle.consumer_deltas.specs.DeltaMerging.{Merges, StagesList, Unmerged, rest_of}
use Rattle.consumer_deltas.specs.DeltaMerging.Merges.{Fails, Merged}
use Rattle.consumer_deltas.specs.DeltaMerging.StagesList.{Staged, TooMany}
use Rattle.consumer_deltas.specs.DeltaMerging.Unmerged.{Broke as Broken, TooMany as OverLimit, Wants as Wanting}
use Rattle.consumer_deltas.specs.DeltaGathering.{IsGathered}
use Rattle.consumer_deltas.specs.DeltaJudging.{Sofar}
use Rattle.consumer_deltas.specs.DeltaStaging.{Stages, part_of}
use Rattle.consumer_deltas.specs.DeltaStaging.Stages.{Opens, Part, Stays as StaysAll, Whole}
use Rattle.consumer_deltas.specs.declared.answer.DeltaAnswer.{DeltaAnswer}
use Rattle.consumer_deltas.specs.declared.answer.DeltaAnswer.TheVariants.{BaseGone, Ended, NoBase}
use Rattle.consumer_deltas.specs.declared.gathering.Delta.{Delta}
use Rattle.consumer_deltas.specs.declared.gathering.Delta.TheVariants as delta
use Rattle.consumer_deltas.specs.declared.judging.Place.{Place}
use Rattle.consumer_deltas.proofs.DeltaMergeLemmas.{merges_held, same_list}
use Rattle.consumer_deltas.proofs.DeltaStopLemmas.{IsDeltaEnd}
use Rattle.keeper_memory.specs.declared.copy.state.StageState.{StageState}
use Rattle.roster_types.specs.Records.{Record}
use Rattle.roster_values.specs.declared.kind.Kind.{Kind}

-- ---- what is staged of a kind

-- the stage goes on, whatever became of the rows
stages_fills : (k : Taking) (token : List ℕ) (result : Option SyncAnswer) (first before after : Copy) → Fills token first before → Stages k token result before after → Fills token first after
stages_fills k token result first before after f (Whole r e) = subst (λ d. Fills token first d) (sym e) (fills_taken token k first before f)
stages_fills k token result first before after f (Part rows front b e) = subst (λ d. Fills token first d) (sym e) (fills_taken token (part_of k rows) first before f)
stages_fills k token result first before after f (Opens b e) = subst (λ d. Fills token first d) (sym e) (fills_open token k.pin first before f)
stages_fills k token result first before after f (StaysAll b e) = subst (λ d. Fills token first d) (sym e) f

list_fills : (kind : Kind) (stage : Option StageState) (pin : ℕ) (token : List ℕ) (rows : List Record) (result : Option SyncAnswer) (first before after : Copy) → Fills token first before → StagesList kind stage pin token rows result before after → Fills token first after
list_fills kind stage pin token rows result first before after f (Staged few s) = stages_fills (rest_of stage pin rows) token result first before after f s
list_fills kind stage pin token rows result first before after f (TooMany many is e) = subst (λ d. Fills token first d) (sym e) f

merges_fills : (kind : Kind) (entries : Sofar) (stage : Option StageState) (pin : ℕ) (token : List ℕ) (result : Option SyncAnswer) (first before after : Copy) → Fills token first before → Merges kind entries stage pin token result before after → Fills token first after
merges_fills kind entries stage pin token result first before after f (Merged s) = list_fills kind stage pin token _ result first before after f s
merges_fills kind entries stage pin token result first before after f (Fails b e) = subst (λ d. Fills token first d) (sym e) f

adds_fills : (k : Taking) (token : List ℕ) (result : Option SyncAnswer) (first before after : Copy) → Fills token first before → Adds k token result before after → Fills token first after
adds_fills k token result first before after f (StaysAdded b e) = subst (λ d. Fills token first d) (sym e) f
adds_fills k token result first before after f (Opened b e) = subst (λ d. Fills token first d) (sym e) (fills_open token k.pin first before f)
adds_fills k token result first before after f (Takes b e) = subst (λ d. Fills token first d) (sym e) (fills_taken token k first before f)

on_refl : (token : List ℕ) (o : Option Stage) → StageOn token o o
on_refl token None = tt
on_refl token (Some s) = grows_refl s

pub fills_refl : (token : List ℕ) (c : Copy) → Fills token c c
fills_refl token c = record { run = refl; held = refl; entries = refl; last_number = refl; stage = on_refl token c.stage }

pub kind_fills : (d : Delta) (kind : Kind) (stage : Option StageState) (token : List ℕ) (result : Option SyncAnswer) (before after : Copy) → StagesKind d kind stage token result before after → Fills token before after
kind_fills (delta.Closed pin) kind stage token result before after s = adds_fills (no_page pin) token result before before after (fills_refl token before) s
kind_fills (delta.Whole pin entries) kind stage token result before after s = merges_fills kind entries stage pin token result before before after (fills_refl token before) s

-- the answers with which a kind isn't staged
abbrev pub IsMergeEnd : SyncAnswer → Type 0
IsMergeEnd answer.KeeperFault = Unit {0}
IsMergeEnd answer.NoMemory = Unit {0}
IsMergeEnd (answer.TooLarge kind total) = Unit {0}
IsMergeEnd a = ⊥

unmerged_end : (broke : Type 0) (copies : Copy → Type 0) (kind : Kind) (entries : Sofar) (a : SyncAnswer) → Unmerged broke copies kind entries a → IsMergeEnd a
unmerged_end broke copies kind entries a (Broken b e) = subst IsMergeEnd (sym e) tt
unmerged_end broke copies kind entries a (Wanting e) = subst IsMergeEnd (sym e) tt
unmerged_end broke copies kind entries a (OverLimit n many is e) = subst IsMergeEnd (sym e) tt

pub unstaged_end : (broke : Type 0) (copies : Copy → Type 0) (kind : Kind) (d : Delta) (a : SyncAnswer) → Unstaged broke copies kind d a → IsMergeEnd a
unstaged_end broke copies kind (delta.Closed pin) a u = ⊎_elim (λ x. subst IsMergeEnd (sym x.1) tt) (λ (e : a ≡ answer.NoMemory). subst IsMergeEnd (sym e) tt) u
unstaged_end broke copies kind (delta.Whole pin entries) a u = unmerged_end broke copies kind entries a u

merge_known : (a : SyncAnswer) → IsMergeEnd a → IsNotGone (Some a)
merge_known (answer.PinGone pin oldest) m = absurd m
merge_known a m = tt

pub merge_ends : (token : List ℕ) (base : ℕ) (a : SyncAnswer) (before after : Copy) → IsMergeEnd a → Fills token before after → DeltaEnds token base (Some (Ended a)) before after
merge_ends token base a before after m f = fills_end token (Some a) before after (merge_known a m) f

pub merge_halts : (kept : List ℕ) (run count : ℕ) (missed broke : Type 0) (copies : Copy → Type 0) (place : Place) (d : Delta) (a : SyncAnswer) → CanStage place.kind d → ((c : Copy) → copies c → StandsOn (held_list c place.kind) d) → Unstaged broke copies place.kind d a → Halts kept run count missed broke copies place (Ended a)
merge_halts kept run count missed broke copies place (delta.Closed pin) a can stands u = ⊎_elim (λ x. Broke x.0 (ap Ended x.1)) (λ (e : a ≡ answer.NoMemory). Wants (ap Ended e)) u
merge_halts kept run count missed broke copies place (delta.Whole pin entries) a can stands u = Merging entries can.1 stands a u refl

-- ---- a stage whose pin is gone

stays_end : (token : List ℕ) (base : ℕ) (a : DeltaAnswer) (c : Copy) → IsDeltaEnd base a → (IsPinGone a → ⊥) → DeltaEnds token base (Some a) c c
stays_end token base (Ended (answer.PinGone pin oldest)) c end not = absurd (not tt)
stays_end token base (Ended a) c end not = fills_end token (Some a) c c tt (fills_refl token c)
stays_end token base NoBase c end not = absurd end
stays_end token base (BaseGone held oldest) c end not = (end, fills_refl token c)

goes_end : (token : List ℕ) (base : ℕ) (a : DeltaAnswer) (c : Copy) → IsPinGone a → DeltaEnds token base (Some a) c (copy_after Drop c)
goes_end token base (Ended (answer.PinGone pin oldest)) c is = record { run = refl; held = refl; entries = refl; last_number = refl; stage = refl }
goes_end token base a c is = absurd is

fails_end : (token : List ℕ) (before after : Copy) → (after ≡ before) ⊎ (after ≡ copy_after Drop before) → Ends token (Some answer.KeeperFault) before after
fails_end token before after x = ⊎_elim
    (λ (e : after ≡ before). subst (λ d. Ends token (Some answer.KeeperFault) before d) (sym e) (fills_end token (Some answer.KeeperFault) before before tt (fills_refl token before)))
    (λ (e : after ≡ copy_after Drop before). subst (λ d. Ends token (Some answer.KeeperFault) before d) (sym e) (record { run = refl; held = refl; entries = refl; last_number = refl; stage = inr refl })) x

pub go_ends : (token : List ℕ) (base : ℕ) (given result : DeltaAnswer) (before after : Copy) → IsDeltaEnd base given → LetsGo given result before after → DeltaEnds token base (Some result) before after
go_ends token base given result before after end (Stays not is e) = subst (λ r. DeltaEnds token base (Some r) before after) (sym is) (subst (λ d. DeltaEnds token base (Some given) before d) (sym e) (stays_end token base given before end not))
go_ends token base given result before after end (Goes gone is e) = subst (λ r. DeltaEnds token base (Some r) before after) (sym is) (subst (λ d. DeltaEnds token base (Some given) before d) (sym e) (goes_end token base given before gone))
go_ends token base given result before after end (FailsToGo gone is x) = subst (λ r. DeltaEnds token base (Some r) before after) (sym is) (fails_end token before after x)
go_ends token base given result before after end (WantsToGo gone is e) = subst (λ r. DeltaEnds token base (Some r) before after) (sym is)
    (subst (λ d. Ends token (Some answer.NoMemory) before d) (sym e) (fills_end token (Some answer.NoMemory) before before tt (fills_refl token before)))

-- it goes on, or the hub's reply says that its pin isn't kept
pub go_stage : (token kept : List ℕ) (given result : DeltaAnswer) (before after : Copy) → (IsPinGone given → SaysGone kept) → LetsGo given result before after → StageOn token before.stage after.stage ⊎ SaysGone kept
go_stage token kept given result before after says (Stays not is e) = inl (subst (λ (d : Copy). StageOn token before.stage d.stage) (sym e) (on_refl token before.stage))
go_stage token kept given result before after says (Goes gone is e) = inr (says gone)
go_stage token kept given result before after says (FailsToGo gone is x) = inr (says gone)
go_stage token kept given result before after says (WantsToGo gone is e) = inl (subst (λ (d : Copy). StageOn token before.stage d.stage) (sym e) (on_refl token before.stage))

-- ---- one kind behind the others

on_trans : (token : List ℕ) (a b c : Option Stage) → StageOn token a b → StageOn token b c → StageOn token a c
on_trans token None None c x y = y
on_trans token None (Some s) None x y = absurd y
on_trans token None (Some s) (Some t) x y = y.token ∙ x
on_trans token (Some f) None c x y = absurd x
on_trans token (Some f) (Some s) None x y = absurd y
on_trans token (Some f) (Some s) (Some t) x y = grows_trans f s t x y

pub fills_trans : (token : List ℕ) (a b c : Copy) → Fills token a b → Fills token b c → Fills token a c
fills_trans token a b c x y = record {
  run = y.run ∙ x.run;
  held = y.held ∙ x.held;
  entries = y.entries ∙ x.entries;
  last_number = y.last_number ∙ x.last_number;
  stage = on_trans token a.stage b.stage c.stage x.stage y.stage;
}

stage_ends_on : (token : List ℕ) (e : SyncAnswer) (a b c : Option Stage) → StageOn token a b → StageEnds token (Some e) b c → StageEnds token (Some e) a c
stage_ends_on token (answer.PinGone pin oldest) a b c x y = y
stage_ends_on token answer.KeeperFault a b c x y = ⊎_elim (λ (on : StageOn token b c). inl (on_trans token a b c x on)) (λ (none : c ≡ None). inr none) y
stage_ends_on token e a b c x y = on_trans token a b c x y

pub ends_behind : (token : List ℕ) (base : ℕ) (r : Option DeltaAnswer) (a b c : Copy) → Fills token a b → DeltaEnds token base r b c → DeltaEnds token base r a c
ends_behind token base None a b c x y = fills_trans token a b c x y
ends_behind token base (Some (Ended e)) a b c x y = record {
  run = y.run ∙ x.run;
  held = y.held ∙ x.held;
  entries = y.entries ∙ x.entries;
  last_number = y.last_number ∙ x.last_number;
  stage = stage_ends_on token e a.stage b.stage c.stage x.stage y.stage;
}
ends_behind token base (Some (BaseGone held oldest)) a b c x y = (y.0, fills_trans token a b c x y.1)
ends_behind token base (Some NoBase) a b c x y = absurd y

pub stage_behind : (token kept : List ℕ) (a b c : Copy) → Fills token a b → StageOn token b.stage c.stage ⊎ SaysGone kept → StageOn token a.stage c.stage ⊎ SaysGone kept
stage_behind token kept a b c x y = ⊎_elim (λ (on : StageOn token b.stage c.stage). inl (on_trans token a.stage b.stage c.stage x.stage on)) (λ (gone : SaysGone kept). inr gone) y

pub fills_from : (token : List ℕ) (base : ℕ) (r : Option DeltaAnswer) (a b : Copy) → r ≡ None → DeltaEnds token base r a b → Fills token a b
fills_from token base r a b e x = subst (λ r. DeltaEnds token base r a b) e x

-- ---- the answers that come of what was gathered

pub closed_ends : (broke : Type 0) (copies : Copy → Type 0) (kind : Kind) (pin : ℕ) (r : Option SyncAnswer) → (r ≡ None) ⊎ IsBroken r → (r ≡ Some answer.KeeperFault → broke) → IfSome r (Unstaged broke copies kind (delta.Closed pin))
closed_ends broke copies kind pin None b f = tt
closed_ends broke copies kind pin (Some a) b f = ⊎_elim (λ (e : Some a ≡ None). absurd (none-some _ (sym e)))
    (λ b. ⊎_elim (λ (e : Some a ≡ Some answer.KeeperFault). inl (f e, same_Some _ _ e)) (λ (e : Some a ≡ Some answer.NoMemory). inr (same_Some _ _ e)) b) b

pub can_stage : (place : Place) (held : List Record) (d : Delta) → IsGathered place held d → CanStage place.kind d
can_stage place held (delta.Closed pin) x = x.0.low
can_stage place held (delta.Whole pin entries) x = (x.0.low, x.1)

-- what was gathered was judged by what is held
pub gathered_on : (place : Place) (held rows : List Record) (d : Delta) → IsGathered place held d → held ≡ rows → StandsOn rows d
gathered_on place held rows (delta.Closed pin) x e = tt
gathered_on place held rows (delta.Whole pin entries) x e = x.2 ∙ e

-- and staging leaves what is held
pub stands_behind : (d : Delta) (kind : Kind) (stage : Option StageState) (token : List ℕ) (result : Option SyncAnswer) (before after : Copy) → StandsOn (held_list before kind) d → StagesKind d kind stage token result before after → StandsOn (held_list after kind) d
stands_behind (delta.Closed pin) kind stage token result before after on s = tt
stands_behind (delta.Whole pin entries) kind stage token result before after on s = on ∙ same_list kind before after (merges_held kind entries stage pin token result before after s)

-- ---- the keeper gave up before

pub broken_ends : (token : List ℕ) (base : ℕ) (e : KeeperError) (a : SyncAnswer) (r : DeltaAnswer) (c : Copy) → a ≡ broken_answer e → r ≡ Ended a → DeltaEnds token base (Some r) c c
broken_ends token base fault.Failed a r c is gives = subst (λ r. DeltaEnds token base (Some r) c c) (sym (gives ∙ ap Ended is)) (merge_ends token base answer.KeeperFault c c tt (fills_refl token c))
broken_ends token base fault.NoMemory a r c is gives = subst (λ r. DeltaEnds token base (Some r) c c) (sym (gives ∙ ap Ended is)) (merge_ends token base answer.NoMemory c c tt (fills_refl token c))

pub broken_halts : (kept : List ℕ) (run count before now : ℕ) (missed : Type 0) (copies : Copy → Type 0) (place : Place) (e : KeeperError) (a : SyncAnswer) (r : DeltaAnswer) → CountsError before now e → a ≡ broken_answer e → r ≡ Ended a
    → Halts kept run count missed (Rose before now) copies place r
broken_halts kept run count before now missed copies place fault.Failed a r counts is gives =
    let rose : now ≡ min (before + 1) (2 ^ 64 - 1) = counts in
    Broke (omega (arith, rose)) (gives ∙ ap Ended is)
broken_halts kept run count before now missed copies place fault.NoMemory a r counts is gives = Wants (gives ∙ ap Ended is)

pub broken_replies : (place : Place) (w : WireReply) (e : KeeperError) (a : SyncAnswer) (r : DeltaAnswer) → a ≡ broken_answer e → r ≡ Ended a → RepliesIf place w r
broken_replies place w fault.Failed a r is gives = inl (subst IsDeltaAside (sym (gives ∙ ap Ended is)) tt)
broken_replies place w fault.NoMemory a r is gives = inl (subst IsDeltaAside (sym (gives ∙ ap Ended is)) tt)
