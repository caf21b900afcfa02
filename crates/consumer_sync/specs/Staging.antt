-- What a reply makes of a copy.
use Rattle.std.specs.Prelude.{◌≡◌, ◌≢◌, ◌⊎◌, ℕ, ◌≤◌, Bool, true, List, [], Option, Some, None, Result, Ok, Err}
use Rattle.std.specs.Prelude.{unwrap_or, ⊤}
use Rattle.std.specs.List.{All}
use Rattle.keeper_memory.specs.copy.Changes.{begun, copy_after, stage_after}
use Rattle.keeper_memory.specs.copy.Copies.{Copy}
use Rattle.keeper_memory.specs.declared.copy.change.CopyChange.TheVariants.{Page, Drop}
use Rattle.keeper_memory.specs.declared.copy.state.StageState.{StageState}
use Rattle.exchange_link.specs.declared.answer.SyncAnswer.{SyncAnswer}
use Rattle.exchange_link.specs.declared.answer.SyncAnswer.TheVariants as answer
use Rattle.roster_base.specs.Faults.{Rose}
use Rattle.roster_base.specs.declared.keeper.KeeperError.{KeeperError}
use Rattle.roster_base.specs.declared.keeper.KeeperError.TheVariants as fault
use Rattle.roster_types.specs.Records.{Record}
use Rattle.roster_values.specs.declared.kind.Kind.{Kind}
use Rattle.consumer_sync.specs.Judging.{opened, paged}
use Rattle.consumer_sync.specs.declared.judging.Act.{Act}
use Rattle.consumer_sync.specs.declared.judging.Act.TheVariants as act

-- a count never falls, and a failure comes only where it rose
pub record Fails {T : Type 0} (before now : ℕ) (result : Result T KeeperError) : Type 0 where
  pub later : before ≤ now
  pub failed : result ≡ Err fault.Failed → Rose before now

-- a page to be staged
pub record Taking : Type 0 where
  pub pin : ℕ
  pub rows : List Record
  pub total : ℕ
  pub done : Bool

-- the stage after a page
abbrev pub after_page : Option StageState → Taking → List ℕ → StageState
after_page stage k token = paged (opened stage k.pin token) k.rows k.total k.done

-- the page that a reply gives; a kind that isn't opened gives the empty one
abbrev pub taking : Act → Option Taking
taking (act.Take pin rows total done) = Some (record { pin = pin; rows = rows; total = total; done = done })
taking (act.Close pin) = Some (record { pin = pin; rows = []; total = 0; done = true })
taking a = None

-- the rows that an act carries are of this kind
abbrev pub AreOf : Kind → Act → Type 0
AreOf kind (act.Take pin rows total done) = All (λ row. row.kind ≡ kind) rows
AreOf kind a = ⊤

-- the act lets the stage go
abbrev pub IsGone : Act → Type 0
IsGone (act.PinGone pin oldest) = Unit {0}
IsGone a = ⊥

-- the copy with a stage, a new one where none stands
abbrev pub open_copy : ℕ → List ℕ → Copy → Copy
open_copy pin token c = record c { stage = Some (unwrap_or c.stage (begun pin token)) }

-- opening a stage: as open_copy, or after an error as before
abbrev pub Opens : ℕ → List ℕ → Result StageState KeeperError → Copy → Copy → Type 0
Opens pin token (Ok s) before after = after ≡ open_copy pin token before
Opens pin token (Err e) before after = (after ≡ before) ⊎ ((before.stage ≡ None) × (after ≡ open_copy pin token before))

-- the copy with the rows of a page
abbrev pub page_copy : Kind → List Record → ℕ → Bool → Copy → Copy
page_copy kind rows total done c = copy_after (Page kind rows total done) c

-- putting a page behind the stage; after an error it stands there or not
abbrev pub Puts : Kind → List Record → ℕ → Bool → Result StageState KeeperError → Copy → Copy → Type 0
Puts kind rows total done (Ok s) before after = after ≡ page_copy kind rows total done before
Puts kind rows total done (Err e) before after = (after ≡ before) ⊎ (after ≡ page_copy kind rows total done before)

-- the copy with the page
abbrev pub taken : Taking → List ℕ → Copy → Copy
taken k token c = record c { stage = Some (stage_after (unwrap_or c.stage (begun k.pin token)) k.rows k.total k.done) }

-- the keeper or memory gave up
abbrev pub IsBroken : Option SyncAnswer → Type 0
IsBroken r = (r ≡ Some answer.KeeperFault) ⊎ (r ≡ Some answer.NoMemory)

-- the answer of a call whose keeper couldn't do its work
abbrev pub broken_answer : KeeperError → SyncAnswer
broken_answer fault.Failed = answer.KeeperFault
broken_answer fault.NoMemory = answer.NoMemory

-- staging a page: it is staged where the call goes on; where keeper or memory gave up, as before, with the stage
-- opened, or with the page
pub data Adds (k : Taking) (token : List ℕ) (result : Option SyncAnswer) (before after : Copy) : Type 0 where
  Stays : IsBroken result → after ≡ before → Adds k token result before after
  Opened : IsBroken result → after ≡ open_copy k.pin token before → Adds k token result before after
  Takes : ((result ≡ None) ⊎ IsBroken result) → after ≡ taken k token before → Adds k token result before after

-- any answer but that of a pin that is gone
abbrev pub IsNotGone : Option SyncAnswer → Type 0
IsNotGone (Some (answer.PinGone pin oldest)) = ⊥
IsNotGone r = Unit {0}

-- the answers under which a stage may be gone
abbrev pub MayEnd : Option SyncAnswer → Type 0
MayEnd (Some (answer.PinGone pin oldest)) = Unit {0}
MayEnd (Some answer.KeeperFault) = Unit {0}
MayEnd r = ⊥

-- what the copy is after a reply, by what the reply means
pub data Performs (a : Act) (token : List ℕ) (result : Option SyncAnswer) (before after : Copy) : Type 0 where
  Kept : (result ≢ None) → IsNotGone result → after ≡ before → Performs a token result before after
  Grown : (k : Taking) → taking a ≡ Some k → Adds k token result before after → Performs a token result before after
  Cleared : IsGone a → MayEnd result → after ≡ copy_after Drop before → Performs a token result before after

-- the answer that an act gives, at this kind and offset
abbrev pub answer_of : Act → Kind → ℕ → Option SyncAnswer
answer_of (act.Take pin rows total done) kind offset = None
answer_of (act.Close pin) kind offset = None
answer_of (act.PinGone pin oldest) kind offset = Some (answer.PinGone pin oldest)
answer_of act.UnknownToken kind offset = Some answer.UnknownToken
answer_of (act.TooLarge total) kind offset = Some (answer.TooLarge kind total)
answer_of act.BadReply kind offset = Some (answer.BadReply kind offset)
answer_of act.HubFault kind offset = Some answer.HubFault
answer_of act.HubNoMemory kind offset = Some answer.HubNoMemory
