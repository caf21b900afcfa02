use Rattle.std.proofs.Common.{◌≡◌, ◌∙◌, Err, Option, Result, ap, false, inl, refl, subst, sym}
use Rattle.std.specs.Prelude.{IfOk}
use Rattle.keeper_memory.specs.Kept.{KeptState, newest_kept}
use Rattle.version_changes.specs.declared.sets.publish_fault.PublishFault.{PublishFault}
use Rattle.version_changes.specs.grants.Asked.{AnswersBy}
use Rattle.version_changes.specs.sets.Applying.{Answers, Applies, Outcome}
use Rattle.version_changes.specs.sets.Steps.{IsSound, led_to}
use Rattle.hub_core.proofs.StepLemmas.{did, publishes, set_answers, set_can, sound_after, works_keeps}
use Rattle.hub_core.specs.Hub.{kept_in}
use Rattle.hub_core.specs.Standing.{HeldHub, IsStanding}
use Rattle.hub_core.specs.Steps.{MakesNext}
use Rattle.hub_core.specs.Works.{Did}
use Rattle.hub_core.specs.declared.hub_error.HubError.TheVariants as error
use Rattle.roster_base.specs.declared.refusal.Refusal.{Refusal}
use Rattle.version_core.specs.declared.change.BaseVersion.{BaseVersion}
use Rattle.version_core.specs.declared.change.Change.{Change}
use Rattle.hub_core.proofs.hub.Hub.publish.Given.{Over}
use Rattle.hub_core.proofs.hub.Hub.publish.Goals.{After-adopt-answer}
use Rattle.hub_core.proofs.hub.Hub.publish.Goals as goal

pub adopt-answer-requires-clause-can : goal.adopt-answer-requires-clause-can
adopt-answer-requires-clause-can g c =
    let hub = c.self.inside in
    let due = c.set_change_over-due in
    rw (← c.self.view_is) (set_can (kept_in hub.table hub.marks.marks) c.self.invariant.kept c.args.set c.args.at
    due.result due.ensures.change due.ensures.next)

pub note_sound-requires : goal.note_sound-requires
note_sound-requires g c = λ ok.
    let between = c.ready.new.self.kept in
    let due = c.set_change_over-due in
    let after = c.adopt-answer.new.self.kept in
    let adopted = c.adopt-answer.ensures.told after (inl refl) in
    let sound = subst
    (λ (h : HeldHub). IfOk due.result (λ change. IsSound (led_to (newest_kept h.kept.versions) change)))
    c.self.view_is due.ensures.sound in
    sound_after due.result c.adopt-answer.result between after sound adopted.1 (sym c.is_ok.ensures.value ∙ ok)

-- what is due was handed over
module _ (g : Over) (c : After-adopt-answer g) where
  abbrev asks : BaseVersion → Outcome → Type 0
  asks version = Applies version c.args.set c.args.at

  abbrev due : Result (Option Change) (Refusal PublishFault)
  due = c.set_change_over-due.result

  abbrev between : HeldHub
  between = c.ready.new.self

  answers : AnswersBy (asks (newest_kept between.kept.versions)) (newest_kept between.kept.versions) due
  answers = set_answers (newest_kept between.kept.versions) c.args.set c.args.at due
      (subst (λ (h : HeldHub). Answers (newest_kept h.kept.versions) c.args.set c.args.at due) c.self.view_is
      c.set_change_over-due.ensures.change)

  makes : (kept : KeptState) → IsStanding c.adopt-answer.new.self kept
      → MakesNext asks c.adopt-answer.result between.kept kept
  makes kept standing = publishes asks between.kept kept due c.adopt-answer.result answers
      (c.adopt-answer.ensures.told kept standing).1

  did_next : between.commit_open ≡ false → Did (MakesNext asks) (Err error.Keeper) c.adopt-answer.result between
      c.adopt-answer.new.self (g.H.HubKeeper.fault_count c.ready.new.keeper)
      (g.H.HubKeeper.fault_count c.adopt-answer.new.keeper)
  did_next closed = did asks between c.adopt-answer.new.self (g.H.HubKeeper.fault_count c.ready.new.keeper)
      (g.H.HubKeeper.fault_count c.adopt-answer.new.keeper) closed c.adopt-answer.result
      (λ kept standing. (between.kept, inl refl, makes kept standing)) c.adopt-answer.ensures.works
      c.adopt-answer.ensures.cause

pub returns-clause-told : goal.returns-clause-told
returns-clause-told g c = λ after standing.
    let here = (goal.at.returns-clause-told g c).After-adopt-answer in
    let between = c.ready.new.self.kept in
    let stands = rw c.note_sound.ensures at standing in
    let adopted = c.adopt-answer.ensures.told after stands in
    let before = c.in_ok-ready.ensures.told between (inl refl) in
    (between, before.0, (λ so. before.1 (adopted.0 so)), makes g here after stands)

pub returns-clause-did : goal.returns-clause-did
returns-clause-did g c = λ closed.
    let here = (goal.at.returns-clause-did g c).After-adopt-answer in
    let idle = c.in_ok-ready.ensures.idle closed in
    let done = did_next g here (ap (λ (h : HeldHub). h.commit_open) idle.1 ∙ closed) in
    rw (c.note_sound.ensures, sym idle.1, sym (ap g.H.HubKeeper.fault_count idle.2)) done

pub returns-clause-reloads : goal.returns-clause-reloads
returns-clause-reloads g c =
    let here = (goal.at.returns-clause-reloads g c).After-adopt-answer in
    let between = c.ready.new.self in
    let ready = c.in_ok-ready.ensures in
    let done = did_next g here ready.settled in
    let stood = (ready.told between.kept (inl refl)).0 in
    inl (
      between,
      record { stood = stood; settled = ready.settled; last = ready.last; keeps = ready.keeps },
      rw (c.note_sound.ensures, sym ready.cause) done,
    )

pub returns-clause-keeps : goal.returns-clause-keeps
returns-clause-keeps g c =
    ap (λ (h : HeldHub). h.keeps) c.note_sound.ensures
    ∙ works_keeps c.adopt-answer.result c.ready.new.self c.adopt-answer.new.self c.adopt-answer.ensures.works
    ∙ c.in_ok-ready.ensures.keeps

pub returns-clause-leads : goal.returns-clause-leads
returns-clause-leads g c = g.met.H.HubKeeper.leads_on _ _ _ c.ready.ensures.leads c.adopt-answer.ensures.leads
