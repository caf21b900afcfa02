-- What follows where nobody else marks writes for a caller.
use Rattle.std.specs.Prelude.{◌≡◌, ◌⊎◌, ℕ, true, List, [], ◌∷◌, Some, None, IsSomeAnd, is_none}
use Rattle.std.specs.List.{AllByRecursion}
use Rattle.keeper_memory.specs.copy.Copies.{first_unsettled}
use Rattle.keeper_memory.specs.declared.copy.entry.OutEntry.{OutEntry}
use Rattle.status_info.specs.declared.request.Request.{Request}
use Rattle.version_core.specs.HubStates.{HubState}
use Rattle.version_core.specs.Marks.{mark_at}
use Rattle.version_core.specs.declared.mark.MarkRow.{MarkRow}
use Rattle.hub_spec.specs.marks.Marked.{marked_by}

-- a request under this mark was sent
abbrev pub IsSentMark : ℕ → List Request → Type 0
IsSentMark number [] = ⊥
IsSentMark number (request ∷ sent) = IsSomeAnd (marked_by request) (λ marked. marked.number ≡ number) ⊎ IsSentMark number sent

-- each mark that is held for the caller was sent
abbrev pub OnlySent : List ℕ → HubState → List Request → Type 0
OnlySent caller state sent = (number : ℕ) (mark : MarkRow) → mark_at (caller, number) state.marks ≡ Some mark → IsSentMark number sent

-- no mark is held for an entry that isn't settled, save the first of them
abbrev pub NoMarkBehind : HubState → List ℕ → List OutEntry → Type 0
NoMarkBehind state caller entries =
    AllByRecursion (λ entry. is_none entry.settled ≡ true → (first_unsettled entries ≡ Some entry) ⊎ (mark_at (caller, entry.number) state.marks ≡ None)) entries
