-- A state with one version more is one that a hub can have.
use Rattle.std.proofs.Common.{◌≡◌, List, [], ◌∷◌, ◌++◌, length, length-append, slice_get, Some, subst, ◌∙◌, arith}
use Rattle.std.specs.List.{AllByRecursion}
use Rattle.version_changes.proofs.Following.{KeepGrants-push, below}
use Rattle.version_changes.specs.grants.Next.{IsNext}
use Rattle.hub_spec.proofs.Versions.{newest_has, some_version}
use Rattle.hub_spec.specs.rules.States.{HoldsRows, IsGranted, IsHub}
use Rattle.hub_spec.specs.rules.Verdicts.{newest_in}
use Rattle.version_core.proofs.TableLemmas.{AreVersionsFrom-push}
use Rattle.version_core.proofs.VersionLemmas.{AllByRecursion-push}
use Rattle.version_core.specs.HubStates.{HubState, newest_number}
use Rattle.version_core.specs.Marks.{AreMarks}
use Rattle.version_core.specs.Version.{empty_version}
use Rattle.version_core.specs.declared.change.BaseVersion.{BaseVersion}
use Rattle.version_core.specs.declared.mark.MarkRow.{MarkRow}

first_of : (versions : List BaseVersion) (next : BaseVersion) → slice_get versions 0 ≡ Some empty_version → slice_get (versions ++ next ∷ []) 0 ≡ Some empty_version
first_of [] next first = cc
first_of (v ∷ vs) next first = first

-- ---- whatever its versions hold

module _ (state : HubState) (granted : IsGranted state) (next : BaseVersion) (is : IsNext (newest_in state) next) where
  next_number : next.number ≡ length state.published
  next_number = let number = is.number in omega (arith, newest_has state granted.state, some_version state granted.state)

  -- one version more, and marks of it
  pub next_granted : (marks : List MarkRow) → AreMarks (length state.published) marks → IsGranted (record state { published = state.published ++ next ∷ []; marks = marks })
  next_granted marks are = record {
    state = record {
      first = first_of state.published next granted.state.first;
      run = AreVersionsFrom-push 0 state.published next granted.state.run (next_number ∙ omega arith) is.version;
      marks = subst (λ n. AreMarks n marks) (let e = length-append state.published (next ∷ []) in omega arith) are;
    };
    grants = KeepGrants-push state.published granted.grants next is (below 0 state.published next.number granted.state.run (omega (arith, next_number)));
  }

-- another list of marks
pub marked_granted : (state : HubState) → IsGranted state → (marks : List MarkRow) → AreMarks (newest_number state) marks → IsGranted (record state { marks = marks })
marked_granted state granted marks are = record { state = record { first = granted.state.first; run = granted.state.run; marks = are }; grants = granted.grants }

-- ---- where they hold rows

pub granted_of : (state : HubState) → IsHub state → IsGranted state
granted_of state hub = record { state = hub.state; grants = hub.grants }

pub hub_of : (state : HubState) → IsGranted state → AllByRecursion HoldsRows state.published → IsHub state
hub_of state granted rows = record { state = granted.state; grants = granted.grants; rows = rows }

pub next_is_hub : (state : HubState) → IsHub state → (next : BaseVersion) → IsNext (newest_in state) next → HoldsRows next → (marks : List MarkRow) → AreMarks (length state.published) marks
    → IsHub (record state { published = state.published ++ next ∷ []; marks = marks })
next_is_hub state hub next is holds marks are =
    hub_of (record state { published = state.published ++ next ∷ []; marks = marks }) (next_granted state (granted_of state hub) next is marks are) (AllByRecursion-push HoldsRows state.published next hub.rows holds)
