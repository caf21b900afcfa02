use Rattle.std.proofs.Common.{◌∙◌, ap, inl, refl, subst}
use Rattle.std.specs.Option.{ForSome}
use Rattle.std.specs.Prelude.{IfOk}
use Rattle.hub_cascade.proofs.Leading.{can_lead, ready_error}
use Rattle.hub_cascade.specs.Cascading.{Cascades}
use Rattle.hub_cascade.specs.Steps.{LeadsWith}
use Rattle.hub_core.proofs.StepLemmas.{publishes, works_keeps}
use Rattle.version_changes.specs.grants.Asked.{AnswersBy}
use Rattle.version_core.specs.Version.{empty_version, last_or}
use Rattle.hub_cascade.proofs.cascading.publish_held.Goals as goal

pub adopt-requires-clause-can : goal.adopt-requires-clause-can
adopt-requires-clause-can g c =
    let due = c.held_change-due.result in
    can_lead c.ready.new.self.kept c.table.ensures.kept due
    (subst (λ v. IfOk due (λ change. ForSome change (LeadsWith v))) (ap (last_or empty_version) c.table.ensures.versions) c.held_change-due.ensures.next)

pub returns-in-Ok-clause-told : goal.returns-in-Ok-clause-told
returns-in-Ok-clause-told g c = λ after standing.
    let between = c.ready.new.self.kept in
    let due = c.held_change-due.result in
    let at = c.args.at in
    let before = c.in-Ok.ensures.told between (inl refl) in
    let adopted = c.adopt.ensures.told after standing in (
      between,
      before.0,
      (λ stands. before.1 (adopted.0 stands)),
      (λ feed held lists.
          let answers = subst (λ v. AnswersBy (Cascades v feed held at) v due) (ap (last_or empty_version) c.table.ensures.versions) (c.held_change-due.ensures.change feed held lists) in
          publishes (λ version. Cascades version feed held at) between after due c.adopt.result answers adopted.1),
    )

pub returns-in-Ok-clause-keeps : goal.returns-in-Ok-clause-keeps
returns-in-Ok-clause-keeps g c = works_keeps c.adopt.result c.ready.new.self c.adopt.new.self c.adopt.ensures.works ∙ c.in-Ok.ensures.keeps

pub returns-in-Ok-clause-leads : goal.returns-in-Ok-clause-leads
returns-in-Ok-clause-leads g c = g.met.H.HubKeeper.leads_on _ _ _ c.ready.ensures.leads c.adopt.ensures.leads

pub returns-in-Err-clause-told : goal.returns-in-Err-clause-told
returns-in-Err-clause-told g c = λ after standing.
    let before = c.in-Err.ensures.told after standing in
    (after, before.0, before.1, λ feed held lists. ready_error (λ version. Cascades version feed held c.args.at) c.in-Err.error after c.in-Err.ensures.refused)
