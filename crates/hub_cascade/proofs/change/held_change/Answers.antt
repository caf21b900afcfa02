use Rattle.std.proofs.Common.{◌≡◌, ◌+◌, ◌==◌, length, false, true, List, [], ◌∷◌, None, arith, refl, suc, sym, ap}
use Rattle.std.proofs.Common.{subst, ◌∙◌}
use Rattle.std.proofs.lemmas.Bool.Decides.{nat_tests}
use Rattle.hub_cascade.proofs.Outcomes.{leads, leads_with, refused_at_last, refused_for_owner, refused_for_rows}
use Rattle.hub_cascade.proofs.Outcomes.{unchanged}
use Rattle.hub_cascade.specs.Cascading.{Cascades}
use Rattle.hub_cascade.specs.Steps.{LeadsWith}
use Rattle.version_changes.specs.sets.Applying.{Leads, Refuses, Unchanged}
use Rattle.version_changes.specs.declared.sets.publish_fault.PublishFault.TheVariants.{LastVersion}
use Rattle.version_core.specs.Version.{IsVersion, after, last_version, newest_of}
use Rattle.version_core.specs.declared.change.BaseVersion.{BaseVersion}
use Rattle.version_core.specs.declared.change.Change.{Change}
use Rattle.version_core.specs.declared.row_change.RowChange.{RowChange}
use Rattle.hub_cascade.proofs.change.held_change.Goals.{After-newest_rows-view, Else-newest-eq-LAST_VERSION}
use Rattle.hub_cascade.proofs.change.held_change.Goals as goal

none_from_test : {X : Type 0} (xs : List X) → (length xs == 0) ≡ true → xs ≡ []
none_from_test [] e = refl
none_from_test (x ∷ xs) e = let no : (suc (length xs) == 0) ≡ false = grind (arith, nat_tests) in cc

some_from_test : {X : Type 0} (xs : List X) → (length xs == 0) ≡ false → xs ≡ [] → ⊥
some_from_test [] e none = cc
some_from_test (x ∷ xs) e none = cc

-- the newest version, over which the change is made
module _ (c : After-newest_rows-view) where
  abbrev version : BaseVersion
  version = c.newest_rows-view.result

  newest : version ≡ newest_of c.args.table.now
  newest = c.newest_rows-view.ensures.newest

  is : IsVersion version
  is = subst IsVersion (sym newest) c.newest_rows-view.ensures.version

pub invariant_of-draft : goal.invariant_of-draft
invariant_of-draft c = record { few = (is (goal.at.invariant_of-draft c).After-newest_rows-view).few }

pub returns-in-Some-clause-change : goal.returns-in-Some-clause-change
returns-in-Some-clause-change c = λ feed held lists.
    let here = (goal.at.returns-in-Some-clause-change c).After-newest_rows-view in
    subst (λ v. Cascades v feed held c.args.at (Refuses c.in-Some.fault)) (newest here)
    (refused_for_owner c.args.set c.args.at (version here) (is here) c.in_ok-rows.rows c.in_ok-rows.ensures feed held
    lists c.in-Some.fault (sym c.in_ok-owned.ensures ∙ c.in-Some.is))

pub returns-in-Some-too_many-clause-change : goal.returns-in-Some-too_many-clause-change
returns-in-Some-too_many-clause-change c = λ feed held lists.
    let here = (goal.at.returns-in-Some-too_many-clause-change c).After-newest_rows-view in
    let own = sym c.in_ok-owned.ensures ∙ c.in_default.is in
    subst (λ v. Cascades v feed held c.args.at (Refuses c.in-Some-too_many.fault)) (newest here)
    (refused_for_rows c.args.set c.args.at (version here) (is here) c.in_ok-rows.rows c.in_ok-rows.ensures feed held
    lists own c.in-Some-too_many.fault (sym c.too_many.ensures ∙ c.in-Some-too_many.is))

pub returns-then-is_empty-clause-change : goal.returns-then-is_empty-clause-change
returns-then-is_empty-clause-change c = λ feed held lists.
    let here = (goal.at.returns-then-is_empty-clause-change c).After-newest_rows-view in
    let own = sym c.in_ok-owned.ensures ∙ c.in_default.is in
    let good = sym c.too_many.ensures ∙ c.in_default-too_many.is in
    let none = none_from_test c.in_ok-rows.rows (ap (λ xs. length xs == 0) (sym c.as_slice.ensures.changes)
    ∙ sym c.is_empty.ensures ∙ c.if-is_empty.true) in
    subst (λ v. Cascades v feed held c.args.at Unchanged) (newest here)
    (unchanged c.args.set c.args.at (version here) (is here) c.in_ok-rows.rows c.in_ok-rows.ensures feed held lists
    own good none)

pub returns-then-newest-eq-LAST_VERSION-clause-change : goal.returns-then-newest-eq-LAST_VERSION-clause-change
returns-then-newest-eq-LAST_VERSION-clause-change c = λ feed held lists.
    let here = (goal.at.returns-then-newest-eq-LAST_VERSION-clause-change c).After-newest_rows-view in
    let own = sym c.in_ok-owned.ensures ∙ c.in_default.is in
    let good = sym c.too_many.ensures ∙ c.in_default-too_many.is in
    let some = some_from_test c.in_ok-rows.rows (ap (λ xs. length xs == 0) (sym c.as_slice.ensures.changes)
    ∙ sym c.is_empty.ensures ∙ c.if-is_empty.false) in
    let last = ap (λ v. v.number) (newest here) ∙ sym c.newest.ensures ∙ c.if-newest-eq-LAST_VERSION.true in
    subst (λ v. Cascades v feed held c.args.at (Refuses LastVersion)) (newest here)
    (refused_at_last c.args.set c.args.at (version here) (is here) c.in_ok-rows.rows c.in_ok-rows.ensures feed held
    lists own good some last)

-- the set's rows lead on
module _ (c : Else-newest-eq-LAST_VERSION) where
  abbrev rows : List RowChange
  rows = c.in_ok-rows.rows

  some : rows ≡ [] → ⊥
  some = some_from_test rows (ap (λ xs. length xs == 0) (sym c.as_slice.ensures.changes)
      ∙ sym c.is_empty.ensures ∙ c.if-is_empty.false)

  more : c.newest_rows-view.result.number ≡ last_version → ⊥
  more last =
      let newest = c.newest_rows-view.ensures.newest in
      c.if-newest-eq-LAST_VERSION.false (c.newest.ensures ∙ ap (λ v. v.number) (sym newest) ∙ last)

pub returns-clause-change : goal.returns-clause-change
returns-clause-change c = λ feed held lists.
    let here = (goal.at.returns-clause-change c).After-newest_rows-view in
    let lead = (goal.at.returns-clause-change c).Else-newest-eq-LAST_VERSION in
    let own = sym c.in_ok-owned.ensures ∙ c.in_default.is in
    let good = sym c.too_many.ensures ∙ c.in_default-too_many.is in
    let next = ap (λ n. n + 1) (c.newest-2.ensures ∙ ap (λ v. v.number) (sym (newest here))) in
    let made : Change =
    record { version = c.newest-2.result + 1; moment = c.args.at; rows = rows lead; grants = None } in
    subst (λ v. Cascades v feed held c.args.at (Leads (after v made))) (newest here)
    (leads c.args.set c.args.at (version here) (is here) (rows lead) c.in_ok-rows.ensures feed held lists own good
    (some lead) (more lead) (c.newest-2.result + 1) next)

pub returns-clause-next : goal.returns-clause-next
returns-clause-next c =
    let here = (goal.at.returns-clause-next c).After-newest_rows-view in
    let lead = (goal.at.returns-clause-next c).Else-newest-eq-LAST_VERSION in
    let good = sym c.too_many.ensures ∙ c.in_default-too_many.is in
    let next = ap (λ n. n + 1) (c.newest-2.ensures ∙ ap (λ v. v.number) (sym (newest here))) in
    let made : Change =
    record { version = c.newest-2.result + 1; moment = c.args.at; rows = rows lead; grants = None } in
    let on = leads_with c.args.set c.args.at (version here) (is here) (rows lead) c.in_ok-rows.ensures good (more lead)
    (c.newest-2.result + 1) next c.as_slice.ensures.sorted in
    λ change same_change.
    let same : made ≡ change = cc in
    subst (LeadsWith (newest_of c.args.table.now)) same (subst (λ v. LeadsWith v made) (newest here) on)
