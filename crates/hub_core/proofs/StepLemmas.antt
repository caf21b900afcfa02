-- What is due and what is published.
use Rattle.std.proofs.Common.{◌≡◌, ℕ, ℤ, ◌≤◌, ◌⊎◌, false, true, List, [], ◌∷◌, Option, None, Some, Result, Ok, Err}
use Rattle.std.proofs.Common.{bytes_eq, arith, inl, inr, refl, sym, ap, subst}
use Rattle.std.specs.List.{AllByRecursion}
use Rattle.std.specs.Prelude.{IfOk, is_ok}
use Rattle.std.specs.Option.{ForSome}
use Rattle.version_changes.proofs.Finding.{all_each, found_meets}
use Rattle.version_changes.proofs.Following.{KeepGrants-push, below, same_grants}
use Rattle.version_changes.proofs.Granted.{grants_go_on}
use Rattle.version_changes.specs.grants.Asked.{AnswersBy}
use Rattle.version_changes.specs.grants.Granting.{GrantsMake}
use Rattle.version_changes.specs.grants.Next.{IsNext}
use Rattle.grant_scopes.specs.declared.entry.GrantEntry.{GrantEntry}
use Rattle.version_core.specs.Grants.{HasGrant}
use Rattle.version_core.specs.Version.{IsVersion, after, empty_version}
use Rattle.version_core.specs.declared.change.BaseVersion.{BaseVersion}
use Rattle.version_core.specs.declared.change.Change.{Change}
use Rattle.version_core.specs.declared.grant_row.GrantRow.{GrantRow}
use Rattle.roster_base.specs.declared.refusal.Refusal.{Refusal}
use Rattle.roster_base.specs.declared.refusal.Refusal.TheVariants as refusal
use Rattle.version_changes.specs.sets.Applying.{Answers, Applies, LeadsOn, Leads, Outcome}
use Rattle.version_changes.specs.declared.sets.publish_fault.PublishFault.{PublishFault}
use Rattle.version_core.proofs.TableLemmas.{last_meets, last_number, versions_are}
use Rattle.keeper_memory.proofs.KeptLemmas.{newest_after}
use Rattle.keeper_memory.specs.Commits.{CanCommit, CanFollow, CanLead}
use Rattle.keeper_memory.specs.Kept.{AreHubVersions, IsKept, KeptState, newest_kept, oldest_kept}
use Rattle.keeper_memory.specs.declared.hub_commit.HubCommit.{HubCommit}
use Rattle.roster_types.specs.Sets.{SetRecord}
use Rattle.version_changes.specs.sets.Steps.{IsSound, led_to}
use Rattle.hub_core.specs.Made.{Adopts, after_change}
use Rattle.hub_core.specs.Standing.{HeldHub, IsStanding}
use Rattle.hub_core.specs.Steps.{CountsFault, Installs, MakesNext}
use Rattle.hub_core.specs.Works.{Did, Handed, IsMade, IsUnmade, Works}
use Rattle.hub_core.proofs.HubLemmas.{settled}
use Rattle.hub_core.specs.declared.hub_error.HubError.{HubError}
use Rattle.hub_core.specs.declared.hub_error.HubError.TheVariants as error
use Rattle.hub_core.specs.declared.published.Published.{Published}
use Rattle.hub_core.specs.declared.published.Published.TheVariants as published

abbrev pub commit_of : Change → HubCommit
commit_of change = record { change = Some change; mark = None }

pub adopts_error : (change : Change) (e : HubError) (before after : KeptState) → Installs {T = Unit {0}} (commit_of change) (Err e) before after → Adopts (Ok (Some change)) (Err e) before after
adopts_error change error.Keeper before after made = made
adopts_error change error.NoMemory before after made = made
adopts_error change (error.Refused fault) before after made = made

-- the newest of a hub's versions is one
pub newest_is : (keep : ℕ) (versions : List BaseVersion) → AreHubVersions keep versions → IsVersion (newest_kept versions)
newest_is keep [] kept = absurd (let some = kept.kept.some in omega arith)
newest_is keep (version ∷ versions) kept = last_meets IsVersion version versions (versions_are version.number (version ∷ versions) kept.kept.run)

-- a version whose grants are new with it, or were there already, may follow
pub may_follow : (keep : ℕ) (versions : List BaseVersion) → AreHubVersions keep versions → (next : BaseVersion) → IsNext (newest_kept versions) next → CanFollow versions next
may_follow keep versions kept next is = record {
  number = is.number;
  version = is.version;
  since = all_each (λ row. (row.grant.since ≡ next.number) ⊎ HasGrant (newest_kept versions).grants row) (λ row. 1 ≤ row.grant.since) next.grants late is.grants;
  grants = KeepGrants-push versions kept.grants next is (below (oldest_kept versions).number versions next.number kept.kept.run (let number = is.number in let last = last_number empty_version (oldest_kept versions).number versions kept.kept.run kept.kept.some in omega arith));
}
  where
    late : (row : GrantRow) → (row.grant.since ≡ next.number) ⊎ HasGrant (newest_kept versions).grants row → 1 ≤ row.grant.since
    late row (inl new) = let number = is.number in omega arith
    late row (inr old) = found_meets (λ r. 1 ≤ r.grant.since) (λ r. bytes_eq r.caller row.caller) (newest_kept versions).grants row kept.since old

-- what is due leads to what may follow, where each change that is asked for does
can : (asks : Outcome → Type 0) (versions : List BaseVersion) → ((change : Change) → LeadsOn (newest_kept versions) change → asks (Leads (after (newest_kept versions) change)) → IsNext (newest_kept versions) (after (newest_kept versions) change)) → (keep : ℕ) → AreHubVersions keep versions
    → (due : Result (Option Change) (Refusal PublishFault)) → AnswersBy asks (newest_kept versions) due → IfOk due (λ change. ForSome change (LeadsOn (newest_kept versions))) → IfOk due (λ change. ForSome change (CanLead versions))
can asks versions goes_on keep kept (Ok None) answers next = λ change some. cc
can asks versions goes_on keep kept (Ok (Some change)) answers next = λ other some.
    let same : change ≡ other = cc in
    let on = next change refl in
    subst (CanLead versions) same (record { follows = may_follow keep versions kept (after (newest_kept versions) change) (goes_on change on answers); changes = on.changes })
can asks versions goes_on keep kept (Err e) answers next = tt

-- a set is answered by what is made of it
pub set_answers : (version : BaseVersion) (set : SetRecord) (at : ℤ) (due : Result (Option Change) (Refusal PublishFault)) → Answers version set at due → AnswersBy (Applies version set at) version due
set_answers version set at (Ok None) answers = answers
set_answers version set at (Ok (Some change)) answers = answers
set_answers version set at (Err (refusal.Fault fault)) answers = answers
set_answers version set at (Err refusal.NoMemory) answers = answers

-- what a set makes may follow, with the grants as they were
pub set_can : (kept : KeptState) → IsKept kept
    → (set : SetRecord) (at : ℤ) (due : Result (Option Change) (Refusal PublishFault))
    → Answers (newest_kept kept.versions) set at due
    → IfOk due (λ change. ForSome change (LeadsOn (newest_kept kept.versions)))
    → IfOk due (λ change. ForSome change (CanLead kept.versions))
set_can kept is set at due answers next =
    let newest = newest_kept kept.versions in
    can (Applies newest set at) kept.versions goes_on kept.keep is.versions due (set_answers newest set at due answers) next
  where
    goes_on : (change : Change) → LeadsOn (newest_kept kept.versions) change → Applies (newest_kept kept.versions) set at (Leads (after (newest_kept kept.versions) change)) → IsNext (newest_kept kept.versions) (after (newest_kept kept.versions) change)
    goes_on change on applies = record {
      number = on.next;
      version = on.version;
      grants = subst (AllByRecursion (λ row. (row.grant.since ≡ change.version) ⊎ HasGrant (newest_kept kept.versions).grants row)) (sym (ap (λ (v : BaseVersion). v.grants) applies.2.2)) (same_grants (newest_kept kept.versions) (newest_is kept.keep kept.versions is.versions) change.version);
    }

-- what a list of grants makes may follow
pub grants_can : (kept : KeptState) → IsKept kept
    → (list : List GrantEntry) (at : ℤ) (due : Result (Option Change) (Refusal PublishFault))
    → AnswersBy (GrantsMake (newest_kept kept.versions) list at) (newest_kept kept.versions) due
    → IfOk due (λ change. ForSome change (LeadsOn (newest_kept kept.versions)))
    → IfOk due (λ change. ForSome change (CanLead kept.versions))
grants_can kept is list at due answers next =
    can (GrantsMake (newest_kept kept.versions) list at) kept.versions (λ change on makes. grants_go_on (newest_kept kept.versions) (newest_is kept.keep kept.versions is.versions) list at (after (newest_kept kept.versions) change) on.version makes) kept.keep is.versions due answers next

-- what is made of what an outcome asks for is what is published
module _ (asks : BaseVersion → Outcome → Type 0) (before after : KeptState) where
  pub publishes : (due : Result (Option Change) (Refusal PublishFault)) (result : Result Published HubError) → AnswersBy (asks (newest_kept before.versions)) (newest_kept before.versions) due → Adopts due result before after → MakesNext asks result before after
  publishes (Err (refusal.Fault fault)) result answers adopts = subst (λ r. MakesNext asks r before after) (sym adopts.1) (answers, adopts.0)
  publishes (Err refusal.NoMemory) result answers adopts = subst (λ r. MakesNext asks r before after) (sym adopts.1) adopts.0
  publishes (Ok None) result answers adopts = subst (λ r. MakesNext asks r before after) (sym adopts.1) (answers, adopts.0, refl)
  publishes (Ok (Some change)) (Ok (published.New version)) answers adopts = (after_change before change, record { asked = answers; added = adopts.0 }, adopts.1)
  publishes (Ok (Some change)) (Ok (published.Same version)) answers adopts = absurd adopts
  publishes (Ok (Some change)) (Err error.Keeper) answers (inl same) = inl same
  publishes (Ok (Some change)) (Err error.Keeper) answers (inr added) = inr (after_change before change, record { asked = answers; added = added })
  publishes (Ok (Some change)) (Err error.NoMemory) answers adopts = adopts
  publishes (Ok (Some change)) (Err (error.Refused fault)) answers adopts = absurd adopts

-- what is adopted of a sound change is sound
pub sound_after : (due : Result (Option Change) (Refusal PublishFault)) (result : Result Published HubError)
    (before after : KeptState) → IfOk due (λ change. IsSound (led_to (newest_kept before.versions) change))
    → Adopts due result before after → is_ok result ≡ true → IsSound (newest_kept after.versions)
sound_after (Err (refusal.Fault fault)) result before after sound adopts ok = cc (adopts.1, ok)
sound_after (Err refusal.NoMemory) result before after sound adopts ok = cc (adopts.1, ok)
sound_after (Ok None) result before after sound adopts ok = subst (λ (k : KeptState). IsSound (newest_kept k.versions)) (sym adopts.0) sound
sound_after (Ok (Some change)) (Ok (published.New version)) before after sound adopts ok =
    subst (λ (k : KeptState). IsSound (newest_kept k.versions)) (sym adopts.0) (subst IsSound (sym (newest_after before.keep before.versions (after_change before change))) sound)
sound_after (Ok (Some change)) (Ok (published.Same version)) before after sound adopts ok = absurd adopts
sound_after (Ok (Some change)) (Err e) before after sound adopts ok = cc ok

-- what a call did of a hub that has no commit left open
module _ (asks : BaseVersion → Outcome → Type 0) (before after : HeldHub) (count count' : ℕ) (closed : before.commit_open ≡ false) where
  asked : (result : Result Published HubError) → ((kept : KeptState) → IsStanding after kept → (stood : KeptState) × IsStanding before stood × MakesNext asks result stood kept) → MakesNext asks result before.kept after.kept
  asked result told = let (stood, standing, makes) = told after.kept (inl refl) in subst (λ (k : KeptState). MakesNext asks result k after.kept) (settled before closed stood standing) makes

  pub did : (result : Result Published HubError) → ((kept : KeptState) → IsStanding after kept → (stood : KeptState) × IsStanding before stood × MakesNext asks result stood kept)
      → Works result before after → CountsFault count count' result → Did (MakesNext asks) (Err error.Keeper) result before after count count'
  did (Ok x) told works counts = inl (record { made = works; stays = counts; asked = asked (Ok x) told })
  did (Err error.Keeper) told works counts = inr (record { left = works; rose = counts; told = refl })
  did (Err error.NoMemory) told works counts = inl (record { made = inl works; stays = counts; asked = asked (Err error.NoMemory) told })
  did (Err (error.Refused fault)) told works counts = inl (record { made = inl works; stays = counts; asked = asked (Err (error.Refused fault)) told })

-- a hub that stays as it is has made nothing
pub unmade : (hub : HeldHub) → hub.commit_open ≡ false → IsUnmade hub hub
unmade hub settled = record { kept = refl; settled = settled; keeps = refl; last = inl refl }

-- a commit that was to be handed over is what a call made, if anything
pub handed_works : {T : Type 0} (commit : HubCommit) (result : Result T HubError) (before after : HeldHub) → CanCommit before.kept commit → Handed commit result before after → Works result before after
handed_works commit (Ok x) before after can is = inr (record { commit = commit; can = can; is = is })
handed_works commit (Err error.Keeper) before after can is = record { commit = commit; can = can; is = is }
handed_works commit (Err error.NoMemory) before after can is = is
handed_works commit (Err (error.Refused fault)) before after can is = absurd is

-- whatever the answer would have been of
pub works_error : (S T : Type 0) (e : HubError) (before after : HeldHub) → Works {T = S} (Err e) before after → Works {T = T} (Err e) before after
works_error S T error.Keeper before after works = works
works_error S T error.NoMemory before after works = works
works_error S T (error.Refused fault) before after works = works

-- a change alone is a commit
pub can_change : (kept : KeptState) (change : Change) → CanLead kept.versions change → CanCommit kept (commit_of change)
can_change kept change lead = record {
  some = inl refl;
  change = λ other some. let same : change ≡ other = cc in subst (CanLead kept.versions) same lead;
  mark = λ mark some. absurd (cc);
}

-- ---- what is read off what a call did

made_keeps : (before after : HeldHub) → IsUnmade before after ⊎ IsMade before after → after.keeps ≡ before.keeps
made_keeps before after (inl unmade) = unmade.keeps
made_keeps before after (inr made) = ap (λ (h : HeldHub). h.keeps) made.is

-- whether commits are kept stays
pub works_keeps : {T : Type 0} (result : Result T HubError) (before after : HeldHub) → Works result before after → after.keeps ≡ before.keeps
works_keeps (Ok x) before after works = made_keeps before after works
works_keeps (Err error.Keeper) before after works = ap (λ (h : HeldHub). h.keeps) works.is
works_keeps (Err error.NoMemory) before after works = works.keeps
works_keeps (Err (error.Refused fault)) before after works = works.keeps

pub made_settled : (before after : HeldHub) → IsUnmade before after ⊎ IsMade before after → after.commit_open ≡ false
made_settled before after (inl unmade) = unmade.settled
made_settled before after (inr made) = ap (λ (h : HeldHub). h.commit_open) made.is

module _ {A : Type 0} (asks : A → KeptState → KeptState → Type 0) where
  pub did_keeps : (failed answer : A) (before after : HeldHub) (count count' : ℕ) → Did asks failed answer before after count count' → after.keeps ≡ before.keeps
  did_keeps failed answer before after count count' (inl done) = made_keeps before after done.made
  did_keeps failed answer before after count count' (inr fault) = ap (λ (h : HeldHub). h.keeps) fault.left.is
