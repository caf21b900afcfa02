-- What a cascade answers, by what is due and what is made of it.
use Rattle.std.proofs.Common.{◌≡◌, ℕ, ℤ, ◌⊎◌, inl, inr, List, Option, None, Some, Result, Ok, Err, refl, sym, ap, subst}
use Rattle.std.proofs.Common.{◌∙◌}
use Rattle.std.specs.List.{AllByRecursion}
use Rattle.std.specs.Option.{ForSome}
use Rattle.std.specs.Prelude.{IfOk, unwrap_or}
use Rattle.hub_cascade.proofs.Serving.{served_next, served_same}
use Rattle.hub_cascade.specs.Answers.{answer_of}
use Rattle.hub_cascade.specs.Cascading.{Cascades, active_rows, current_rows}
use Rattle.hub_cascade.specs.Held.{AreHeld, CascadesHeld, held_rows}
use Rattle.hub_cascade.specs.Steps.{LeadsWith}
use Rattle.hub_core.proofs.StepLemmas.{may_follow, newest_is}
use Rattle.hub_core.specs.Steps.{MakesNext, RefusesNothing}
use Rattle.hub_core.specs.declared.hub_error.HubError.{HubError}
use Rattle.hub_core.specs.declared.hub_error.HubError.TheVariants as hub_error
use Rattle.hub_core.specs.declared.published.Published.{Published}
use Rattle.hub_core.specs.declared.published.Published.TheVariants as published
use Rattle.keeper_memory.proofs.KeptLemmas.{newest_after}
use Rattle.keeper_memory.specs.Commits.{CanLead}
use Rattle.keeper_memory.specs.Kept.{IsKept, KeptState, newest_kept}
use Rattle.keeper_memory.specs.copy.Copies.{Copy}
use Rattle.roster_base.specs.declared.refusal.Refusal.{Refusal}
use Rattle.roster_types.specs.Records.{Record}
use Rattle.version_changes.proofs.Following.{same_grants}
use Rattle.version_changes.specs.declared.sets.publish_fault.PublishFault.{PublishFault}
use Rattle.version_changes.specs.sets.Applying.{Outcome}
use Rattle.version_core.specs.Grants.{HasGrant}
use Rattle.version_core.specs.Version.{after}
use Rattle.version_core.specs.declared.change.BaseVersion.{BaseVersion}
use Rattle.version_core.specs.declared.change.Change.{Change}
use Rattle.version_core.specs.declared.grant_row.GrantRow.{GrantRow}

-- what is due may be added, with the grants as they were
pub can_lead : (kept : KeptState) → IsKept kept → (due : Result (Option Change) (Refusal PublishFault)) → IfOk due (λ change. ForSome change (LeadsWith (newest_kept kept.versions))) → IfOk due (λ change. ForSome change (CanLead kept.versions))
can_lead kept is (Ok None) next = λ change some. cc
can_lead kept is (Ok (Some change)) next = λ other some.
    let same : change ≡ other = cc in
    let newest = newest_kept kept.versions in
    let leads = next change refl in
    let version = newest_is kept.keep kept.versions is.versions in
    let grants = subst (λ (g : List GrantRow). AllByRecursion (λ row. (row.grant.since ≡ change.version) ⊎ HasGrant newest.grants row) g) (sym (ap (λ (o : Option (List GrantRow)). unwrap_or o newest.grants) leads.grants)) (same_grants newest version change.version) in
    subst (CanLead kept.versions) same (record {
      follows = may_follow kept.keep kept.versions is.versions (after newest change) (record { number = leads.on.next; version = leads.on.version; grants = grants });
      changes = leads.on.changes;
    })
can_lead kept is (Err e) next = tt

-- nothing is made where the hub wasn't ready
pub ready_error : (asks : BaseVersion → Outcome → Type 0) (e : HubError) (state : KeptState) → RefusesNothing {T = Unit {0}} (Err e) → MakesNext asks (Err e) state state
ready_error asks hub_error.Keeper state none = inl refl
ready_error asks hub_error.NoMemory state none = refl
ready_error asks (hub_error.Refused fault) state none = absurd none

-- what is made of rows that copies hold
pub makes_held : (copies : Copy → Type 0) (feed : List ℕ) (at : ℤ) (held : List Record) → AreHeld copies held → (result : Result Published HubError) (before after : KeptState)
    → MakesNext (λ version. Cascades version feed held at) result before after → MakesNext (CascadesHeld copies feed at) result before after
makes_held copies feed at held are (Ok (published.New version)) before after makes = (makes.0, record { asked = (held, are, makes.1.asked); added = makes.1.added }, makes.2)
makes_held copies feed at held are (Ok (published.Same version)) before after makes = ((held, are, makes.0), makes.1, makes.2)
makes_held copies feed at held are (Err hub_error.Keeper) before after (inl same) = inl same
makes_held copies feed at held are (Err hub_error.Keeper) before after (inr made) = inr (made.0, record { asked = (held, are, made.1.asked); added = made.1.added })
makes_held copies feed at held are (Err hub_error.NoMemory) before after makes = makes
makes_held copies feed at held are (Err (hub_error.Refused fault)) before after makes = ((held, are, makes.0), makes.1)

-- what is served of a version that was added, or of one that stays
module _ (copies : Copy → Type 0) (feed : List ℕ) (at : ℤ) (before after : KeptState) where
  serves : (published : Published) → MakesNext (CascadesHeld copies feed at) (Ok published) before after → (copy : Copy) → copies copy → current_rows feed (newest_kept after.versions).rows ≡ active_rows (held_rows copy)
  serves (published.New version) makes copy stands =
      let held = makes.1.asked in
      let newest : newest_kept after.versions ≡ makes.0 = ap (λ (k : KeptState). newest_kept k.versions) makes.1.added ∙ newest_after before.keep before.versions makes.0 in
      ap (λ (v : BaseVersion). current_rows feed v.rows) newest
      ∙ served_next (newest_kept before.versions) makes.0 feed held.0 at held.1.order held.2
      ∙ ap active_rows (held.1.held copy stands)
  serves (published.Same version) makes copy stands =
      let held = makes.0 in
      ap (λ (k : KeptState). current_rows feed (newest_kept k.versions).rows) makes.1
      ∙ served_same (newest_kept before.versions) feed held.0 at held.1.order held.2
      ∙ ap active_rows (held.1.held copy stands)

  pub served : (made : Result Published HubError) → MakesNext (CascadesHeld copies feed at) made before after
      → IfOk (answer_of made) (λ _. (copy : Copy) → copies copy → current_rows feed (newest_kept after.versions).rows ≡ active_rows (held_rows copy))
  served (Ok published) makes = serves published makes
  served (Err e) makes = tt
