-- What a verdict leaves behind.
use Rattle.std.specs.Prelude.{ℕ, ◌-◌, ◌==◌, List, [], ◌∷◌, ◌++◌, Option, Some, None, if◌then◌else◌, length}
use Rattle.hub_spec.specs.rules.Verdicts.{Leads, Refused, Repeat, Same, Verdict}
use Rattle.version_core.specs.Marks.{with_mark}
use Rattle.version_core.specs.HubStates.{HubState}
use Rattle.version_core.specs.Outcomes.{deleted_outcome, mark_taken_outcome, stored_outcome}
use Rattle.version_core.specs.declared.change.BaseVersion.{BaseVersion}
use Rattle.version_core.specs.declared.mark.MarkRow.{MarkRow}
use Rattle.version_core.specs.declared.mark.Write.{Write}

-- the outcome of a write that is done: the row is deleted, or it is stored
abbrev pub done_of : Write → ℕ
done_of write = if write.delete then deleted_outcome else stored_outcome

-- what is to be kept of a verdict: nothing where the mark keeps it already, or is another write's
abbrev pub outcome_of : Write → Verdict → Option ℕ
outcome_of write (Leads version) = Some (done_of write)
outcome_of write Same = Some (done_of write)
outcome_of write (Repeat kept) = None
outcome_of write (Refused number) = if number == mark_taken_outcome then None else Some number

-- the published versions after a verdict
abbrev pub published_after : List BaseVersion → Verdict → List BaseVersion
published_after published (Leads version) = published ++ version ∷ []
published_after published Same = published
published_after published (Repeat kept) = published
published_after published (Refused number) = published

-- the mark that keeps an outcome, where the write has a mark
abbrev pub kept_mark : List ℕ → Option ℕ → Write → ℕ → Option ℕ → Option MarkRow
kept_mark caller None write newest outcome = None
kept_mark caller (Some number) write newest None = None
kept_mark caller (Some number) write newest (Some outcome) =
    Some (record { caller = caller; number = number; write = write; kept = record { outcome = outcome; version = newest } })

-- the marks with one more, where there is one
abbrev pub with_kept : Option MarkRow → List MarkRow → List MarkRow
with_kept None marks = marks
with_kept (Some mark) marks = with_mark mark marks

-- the newest number after a verdict
abbrev pub newest_after : HubState → Verdict → ℕ
newest_after state verdict = length (published_after state.published verdict) - 1

-- the state after a verdict
unfoldable pub state_after : HubState → List ℕ → Option ℕ → Write → Verdict → HubState
state_after state caller mark write verdict = record state {
  published = published_after state.published verdict;
  marks = with_kept (kept_mark caller mark write (newest_after state verdict) (outcome_of write verdict)) state.marks;
}
