use Rattle.std.proofs.Common.{◌≡◌, ◌+◌, ◌==◌, length, false, List, [], ◌∷◌, None, sym, ap, subst, ◌∙◌}
use Rattle.version_changes.proofs.Answering.{leads, leads_on, refused_at_last, refused_for_owner, refused_for_rows}
use Rattle.version_changes.proofs.Answering.{unchanged}
use Rattle.reference_rules.specs.Faults.{faults_of}
use Rattle.version_changes.proofs.SoundLemmas.{none_from_empty, sound_from_none}
use Rattle.version_core.specs.Changes.{change_key, rows_of}
use Rattle.version_core.specs.Order.{overlaid}
use Rattle.version_changes.specs.sets.Applying.{Applies, Leads, LeadsOn, Refuses, Unchanged}
use Rattle.version_changes.specs.declared.sets.publish_fault.PublishFault.TheVariants.{LastVersion}
use Rattle.version_core.specs.Version.{IsVersion, after, last_version, newest_of}
use Rattle.version_core.specs.declared.change.BaseVersion.{BaseVersion}
use Rattle.version_core.specs.declared.change.Change.{Change}
use Rattle.version_core.specs.declared.row_change.RowChange.{RowChange}
use Rattle.version_changes.proofs.sets.publish.set_change_over.Goals.{Else-newest-eq-LAST_VERSION}
use Rattle.version_changes.proofs.sets.publish.set_change_over.Goals as goal

some_from_test : {X : Type 0} (xs : List X) → (length xs == 0) ≡ false → xs ≡ [] → ⊥
some_from_test [] e none = cc
some_from_test (x ∷ xs) e none = cc

is_version : {version newest : BaseVersion} → version ≡ newest → IsVersion newest → IsVersion version
is_version same is = subst IsVersion (sym same) is

pub returns-in-Some-clause-change : goal.returns-in-Some-clause-change
returns-in-Some-clause-change c =
    let newest = c.newest_rows-view.ensures.newest in
    let is = is_version newest c.newest_rows-view.ensures.version in
    subst (λ v. Applies v c.args.set c.args.at (Refuses c.in-Some.fault)) newest
    (refused_for_owner c.args.set c.args.at c.newest_rows-view.result is c.in_ok-rows.rows c.in_ok-rows.ensures
    c.in-Some.fault (sym c.in_ok-owned.ensures ∙ c.in-Some.is))

pub invariant_of-draft : goal.invariant_of-draft
invariant_of-draft c =
    record { few = (is_version c.newest_rows-view.ensures.newest c.newest_rows-view.ensures.version).few }

pub returns-in-Some-2-clause-change : goal.returns-in-Some-2-clause-change
returns-in-Some-2-clause-change c =
    let newest = c.newest_rows-view.ensures.newest in
    let is = is_version newest c.newest_rows-view.ensures.version in
    let own = sym c.in_ok-owned.ensures ∙ c.in_default.is in
    subst (λ v. Applies v c.args.set c.args.at (Refuses c.in-Some-2.fault)) newest
    (refused_for_rows c.args.set c.args.at c.newest_rows-view.result is c.in_ok-rows.rows c.in_ok-rows.ensures
    own c.in-Some-2.fault (sym c.in_ok-fault.ensures ∙ c.in-Some-2.is))

pub returns-then-is_empty-clause-change : goal.returns-then-is_empty-clause-change
returns-then-is_empty-clause-change c =
    let newest = c.newest_rows-view.ensures.newest in
    let is = is_version newest c.newest_rows-view.ensures.version in
    let own = sym c.in_ok-owned.ensures ∙ c.in_default.is in
    let good = sym c.in_ok-fault.ensures ∙ c.in_default-2.is in
    let none = none_from_empty c.in_ok-rows.rows (ap (λ xs. length xs == 0) (sym c.as_slice.ensures.changes)
    ∙ sym c.is_empty.ensures ∙ c.if-is_empty.true) in
    subst (λ v. Applies v c.args.set c.args.at Unchanged) newest
    (unchanged c.args.set c.args.at c.newest_rows-view.result is c.in_ok-rows.rows c.in_ok-rows.ensures
    own good none)

pub returns-then-newest-eq-LAST_VERSION-clause-change : goal.returns-then-newest-eq-LAST_VERSION-clause-change
returns-then-newest-eq-LAST_VERSION-clause-change c =
    let newest = c.newest_rows-view.ensures.newest in
    let is = is_version newest c.newest_rows-view.ensures.version in
    let own = sym c.in_ok-owned.ensures ∙ c.in_default.is in
    let good = sym c.in_ok-fault.ensures ∙ c.in_default-2.is in
    let some = some_from_test c.in_ok-rows.rows (ap (λ xs. length xs == 0) (sym c.as_slice.ensures.changes)
    ∙ sym c.is_empty.ensures ∙ c.if-is_empty.false) in
    let last = ap (λ v. v.number) newest ∙ sym c.newest.ensures ∙ c.if-newest-eq-LAST_VERSION.true in
    subst (λ v. Applies v c.args.set c.args.at (Refuses LastVersion)) newest
    (refused_at_last c.args.set c.args.at c.newest_rows-view.result is c.in_ok-rows.rows c.in_ok-rows.ensures
    own good some last)

-- the set's rows lead on
module _ (c : Else-newest-eq-LAST_VERSION) where
  abbrev version : BaseVersion
  version = c.newest_rows-view.result

  abbrev rows : List RowChange
  rows = c.in_ok-rows.rows

  newest : version ≡ newest_of c.args.table.now
  newest = c.newest_rows-view.ensures.newest

  is : IsVersion version
  is = is_version newest c.newest_rows-view.ensures.version

  some : rows ≡ [] → ⊥
  some = some_from_test rows (ap (λ xs. length xs == 0) (sym c.as_slice.ensures.changes)
      ∙ sym c.is_empty.ensures ∙ c.if-is_empty.false)

  more : version.number ≡ last_version → ⊥
  more last = c.if-newest-eq-LAST_VERSION.false (c.newest.ensures ∙ ap (λ v. v.number) (sym newest) ∙ last)

pub returns-clause-change : goal.returns-clause-change
returns-clause-change c =
    let here = (goal.at.returns-clause-change c).Else-newest-eq-LAST_VERSION in
    let own = sym c.in_ok-owned.ensures ∙ c.in_default.is in
    let good = sym c.in_ok-fault.ensures ∙ c.in_default-2.is in
    let next = ap (λ n. n + 1) (c.newest-2.ensures ∙ ap (λ v. v.number) (sym (newest here))) in
    let made : Change =
    record { version = c.newest-2.result + 1; moment = c.args.at; rows = rows here; grants = None } in
    subst (λ v. Applies v c.args.set c.args.at (Leads (after v made))) (newest here)
    (leads c.args.set c.args.at (version here) (is here) (rows here) c.in_ok-rows.ensures own good
    (some here) (more here) (c.newest-2.result + 1) next)

pub returns-clause-next : goal.returns-clause-next
returns-clause-next c =
    let here = (goal.at.returns-clause-next c).Else-newest-eq-LAST_VERSION in
    let own = sym c.in_ok-owned.ensures ∙ c.in_default.is in
    let good = sym c.in_ok-fault.ensures ∙ c.in_default-2.is in
    let next = ap (λ n. n + 1) (c.newest-2.ensures ∙ ap (λ v. v.number) (sym (newest here))) in
    let made : Change =
    record { version = c.newest-2.result + 1; moment = c.args.at; rows = rows here; grants = None } in
    let on = leads_on c.args.set c.args.at (version here) (is here) (rows here) c.in_ok-rows.ensures own good
    (some here) (more here) (c.newest-2.result + 1) next c.as_slice.ensures.sorted in
    λ change same_change.
    let same : made ≡ change = cc in
    subst (LeadsOn (newest_of c.args.table.now)) same (subst (λ v. LeadsOn v made) (newest here) on)

pub refusal_of-requires : goal.refusal_of-requires
refusal_of-requires c = λ is. subst (λ v. faults_of (rows_of v.rows) ≡ []) (sym c.newest_rows-view.ensures.newest) (c.requires is)

pub returns-then-is_empty-clause-sound : goal.returns-then-is_empty-clause-sound
returns-then-is_empty-clause-sound c =
    let good = sym c.in_ok-fault.ensures ∙ c.in_default-2.is in
    let none = none_from_empty c.in_ok-rows.rows (ap (λ xs. length xs == 0) (sym c.as_slice.ensures.changes) ∙ sym c.is_empty.ensures ∙ c.if-is_empty.true) in
    subst (λ v. faults_of (rows_of v.rows) ≡ []) c.newest_rows-view.ensures.newest (
    subst (λ changes. faults_of (rows_of (overlaid change_key c.newest_rows-view.result.rows changes)) ≡ []) none (sound_from_none (rows_of (overlaid change_key c.newest_rows-view.result.rows c.in_ok-rows.rows)) good))

pub returns-clause-sound : goal.returns-clause-sound
returns-clause-sound c =
    let good = sym c.in_ok-fault.ensures ∙ c.in_default-2.is in
    subst (λ v. faults_of (rows_of (overlaid change_key v.rows c.in_ok-rows.rows)) ≡ []) c.newest_rows-view.ensures.newest (sound_from_none (rows_of (overlaid change_key c.newest_rows-view.result.rows c.in_ok-rows.rows)) good)
