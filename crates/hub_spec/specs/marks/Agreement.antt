-- How the entries of a consumer agree with the marks that its hub keeps.
use Rattle.std.specs.Prelude.{◌≡◌, ◌⊎◌, ◌<◌, ◌≤◌, ℕ, List, [], ◌∷◌, length, Option, Some, IfSome, is_some, true}
use Rattle.std.specs.List.{AllByRecursion}
use Rattle.keeper_memory.specs.declared.copy.entry.OutEntry.{OutEntry}
use Rattle.keeper_memory.specs.declared.copy.entry.Settled.{Settled}
use Rattle.hub_spec.specs.rules.Checks.{version_at}
use Rattle.status_info.specs.declared.request.Request.{Request}
use Rattle.version_core.specs.Grants.{grant_of}
use Rattle.version_core.specs.HubStates.{HubState}
use Rattle.version_core.specs.Marks.{mark_at}
use Rattle.version_core.specs.declared.grant_row.GrantRow.{GrantRow}
use Rattle.version_core.specs.declared.mark.MarkRow.{MarkRow}
use Rattle.hub_spec.specs.marks.Answering.{kept_status}
use Rattle.hub_spec.specs.marks.Marked.{Marked, mark_of, marked_by}

-- each published version that knows the token gives it to this caller
abbrev pub GivesOnly : HubState → Option (List ℕ) → List ℕ → Type 0
GivesOnly state token caller = IfSome token (λ word. (number : ℕ) (by : GrantRow) → number < length state.published
    → grant_of word (version_at state number).grants ≡ Some by → by.caller ≡ caller)

-- the token of a marked request is given to this caller alone
abbrev pub GivesIfMarked : HubState → List ℕ → Request → Type 0
GivesIfMarked state caller request = IfSome (marked_by request) (λ _. GivesOnly state request.token caller)

-- a caller to whom the tokens of the marked requests are given, and to nobody else
abbrev pub IsCaller : List ℕ → HubState → List Request → Type 0
IsCaller caller state sent = AllByRecursion (GivesIfMarked state caller) sent

-- a settled entry has the status and the version that are kept under its mark, which holds its write
pub record IsShown (state : HubState) (caller : List ℕ) (entry : OutEntry) (settled : Settled) : Type 0 where
  pub mark : MarkRow
  pub held : mark_at (caller, entry.number) state.marks ≡ Some mark
  pub write : mark.write ≡ entry.write
  pub status : settled.status ≡ kept_status mark.kept.outcome
  pub version : settled.version ≡ mark.kept.version

-- each settled entry says what is kept under its mark
abbrev pub AllShown : HubState → List ℕ → List OutEntry → Type 0
AllShown state caller entries = AllByRecursion (λ entry. IfSome entry.settled (IsShown state caller entry)) entries

-- the mark is that of an entry which is settled, or is the first that isn't: all entries in front of it are settled
abbrev pub IsOfEntry : Marked → List OutEntry → Type 0
IsOfEntry marked [] = ⊥
IsOfEntry marked (entry ∷ entries) = (mark_of entry ≡ marked) ⊎ ((is_some entry.settled ≡ true) × IsOfEntry marked entries)

-- a marked request that was sent carries the write of such an entry, under a token that is the caller's
pub record IsCarried (state : HubState) (caller : List ℕ) (entries : List OutEntry) (last : ℕ) (under : Option (List ℕ)) (marked : Marked) : Type 0 where
  pub entry : IsOfEntry marked entries
  pub number : marked.number ≤ last
  pub token : GivesOnly state under caller

-- a marked request carries the write of such an entry
abbrev pub CarriesMark : HubState → List ℕ → List OutEntry → ℕ → Request → Type 0
CarriesMark state caller entries last request =
    IfSome (marked_by request) (IsCarried state caller entries last request.token)

-- each marked request that was sent carries the write of such an entry
abbrev pub AllCarried : HubState → List ℕ → List OutEntry → ℕ → List Request → Type 0
AllCarried state caller entries last sent = AllByRecursion (CarriesMark state caller entries last) sent

-- the agreement for one caller: what settled entries show, and what marked requests carried
pub record MarksAgreeFor (caller : List ℕ) (entries : List OutEntry) (last : ℕ) (state : HubState) (sent : List Request) : Type 0 where
  pub shown : AllShown state caller entries
  pub carried : AllCarried state caller entries last sent

-- the agreement of the entries, up to the last number, with a hub's state and with what was sent to it
abbrev pub MarksAgree : List OutEntry → ℕ → HubState → List Request → Type 0
MarksAgree entries last state sent = (caller : List ℕ) → IsCaller caller state sent → MarksAgreeFor caller entries last state sent
