use Rattle.std.proofs.Common.{◌≡◌, ◌∙◌, Err, Option, Result, ap, false, inl, refl, subst, sym}
use Rattle.version_changes.specs.declared.sets.publish_fault.PublishFault.{PublishFault}
use Rattle.version_changes.specs.grants.Asked.{AnswersBy}
use Rattle.version_changes.specs.grants.Granting.{GrantsMake}
use Rattle.version_changes.specs.sets.Applying.{Outcome}
use Rattle.keeper_memory.specs.Kept.{KeptState, newest_kept}
use Rattle.hub_core.proofs.StepLemmas.{did, grants_can, publishes, works_keeps}
use Rattle.hub_core.specs.Hub.{kept_in}
use Rattle.hub_core.specs.Standing.{HeldHub, IsStanding}
use Rattle.hub_core.specs.Steps.{MakesNext}
use Rattle.hub_core.specs.Works.{Did}
use Rattle.hub_core.specs.declared.hub_error.HubError.TheVariants as error
use Rattle.roster_base.specs.declared.refusal.Refusal.{Refusal}
use Rattle.version_core.specs.declared.change.BaseVersion.{BaseVersion}
use Rattle.version_core.specs.declared.change.Change.{Change}
use Rattle.hub_core.proofs.hub.Hub.set_grants.Given.{Over}
use Rattle.hub_core.proofs.hub.Hub.set_grants.Goals.{After-adopt}
use Rattle.hub_core.proofs.hub.Hub.set_grants.Goals as goal

pub adopt-requires-clause-can : goal.adopt-requires-clause-can
adopt-requires-clause-can g c =
    let hub = c.self.inside in
    let due = c.grants_change-due in
    rw (← c.self.view_is) (grants_can (kept_in hub.table hub.marks.marks) c.self.invariant.kept c.args.list.now
    c.args.at due.result due.ensures.change due.ensures.next)

-- what is due was handed over
module _ (g : Over) (c : After-adopt g) where
  abbrev asks : BaseVersion → Outcome → Type 0
  asks version = GrantsMake version c.args.list.now c.args.at

  abbrev due : Result (Option Change) (Refusal PublishFault)
  due = c.grants_change-due.result

  abbrev between : HeldHub
  between = c.ready.new.self

  answers : AnswersBy (asks (newest_kept between.kept.versions)) (newest_kept between.kept.versions) due
  answers = subst
      (λ (h : HeldHub). AnswersBy (asks (newest_kept h.kept.versions)) (newest_kept h.kept.versions) due)
      c.self.view_is c.grants_change-due.ensures.change

  makes : (kept : KeptState) → IsStanding c.adopt.new.self kept → MakesNext asks c.adopt.result between.kept kept
  makes kept standing =
      publishes asks between.kept kept due c.adopt.result answers (c.adopt.ensures.told kept standing).1

  did_next : between.commit_open ≡ false → Did (MakesNext asks) (Err error.Keeper) c.adopt.result between
      c.adopt.new.self (g.H.HubKeeper.fault_count c.ready.new.keeper) (g.H.HubKeeper.fault_count c.adopt.new.keeper)
  did_next closed = did asks between c.adopt.new.self (g.H.HubKeeper.fault_count c.ready.new.keeper)
      (g.H.HubKeeper.fault_count c.adopt.new.keeper) closed c.adopt.result
      (λ kept standing. (between.kept, inl refl, makes kept standing)) c.adopt.ensures.works c.adopt.ensures.cause

pub returns-clause-told : goal.returns-clause-told
returns-clause-told g c = λ after standing.
    let here = (goal.at.returns-clause-told g c).After-adopt in
    let between = c.ready.new.self.kept in
    let adopted = c.adopt.ensures.told after standing in
    let before = c.in_ok-ready.ensures.told between (inl refl) in
    (between, before.0, (λ stands. before.1 (adopted.0 stands)), makes g here after standing)

pub returns-clause-did : goal.returns-clause-did
returns-clause-did g c = λ closed.
    let here = (goal.at.returns-clause-did g c).After-adopt in
    let idle = c.in_ok-ready.ensures.idle closed in
    let done = did_next g here (ap (λ (h : HeldHub). h.commit_open) idle.1 ∙ closed) in
    rw (sym idle.1, sym (ap g.H.HubKeeper.fault_count idle.2)) done

pub returns-clause-reloads : goal.returns-clause-reloads
returns-clause-reloads g c =
    let here = (goal.at.returns-clause-reloads g c).After-adopt in
    let between = c.ready.new.self in
    let ready = c.in_ok-ready.ensures in
    let done = did_next g here ready.settled in
    let stood = (ready.told between.kept (inl refl)).0 in
    inl (
      between,
      record { stood = stood; settled = ready.settled; last = ready.last; keeps = ready.keeps },
      rw (sym ready.cause) done,
    )

pub returns-clause-keeps : goal.returns-clause-keeps
returns-clause-keeps g c =
    works_keeps c.adopt.result c.ready.new.self c.adopt.new.self c.adopt.ensures.works ∙ c.in_ok-ready.ensures.keeps

pub returns-clause-leads : goal.returns-clause-leads
returns-clause-leads g c = g.met.H.HubKeeper.leads_on _ _ _ c.ready.ensures.leads c.adopt.ensures.leads
