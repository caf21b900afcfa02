-- What a synchronisation leaves.
use Rattle.std.specs.Prelude.{◌≡◌, ◌⊎◌, ℕ, ◌+◌, ◌<◌, ◌≤◌, ◌++◌, true, List, [], ◌∷◌, length, get_or, Option, Some, None}
use Rattle.std.specs.Prelude.{bytes_eq, if◌then◌else◌}
use Rattle.keeper_memory.specs.copy.Changes.{held_of}
use Rattle.keeper_memory.specs.copy.Copies.{Copy, Held, Stage}
use Rattle.keeper_memory.specs.copy.Lists.{kind_count}
use Rattle.keeper_memory.specs.declared.copy.state.StageState.{StageState}
use Rattle.hub_spec.specs.rules.Checks.{version_at}
use Rattle.hub_spec.specs.views.Cuts.{cut}
use Rattle.roster_types.specs.Records.{Record}
use Rattle.version_core.specs.HubStates.{HubState, newest_number}
use Rattle.exchange_link.specs.declared.answer.SyncAnswer.{SyncAnswer}
use Rattle.exchange_link.specs.declared.answer.SyncAnswer.TheVariants as answer
use Rattle.exchange_link.specs.Agreement.{IsFrontOf, StageAgrees}
use Rattle.exchange_link.specs.Exchanges.{LinkState}
use Rattle.exchange_link.specs.Sayings.{knows}

-- ---- the stage

-- the stage under this token; one under another counts as none
abbrev pub own_stage : List ℕ → Option Stage → Option Stage
own_stage token None = None
own_stage token (Some s) = if bytes_eq s.token token then Some s else None

-- the same of where a stage stands
abbrev pub own_state : List ℕ → Option StageState → Option StageState
own_state token None = None
own_state token (Some s) = if bytes_eq s.token token then Some s else None

-- by kind, the rows that a stage has
abbrev pub staged_list : Stage → ℕ → List Record
staged_list s place = get_or (s.done ++ s.present ∷ []) place []

-- a stage keeps its pin and its token, and its lists only grow
pub record Grows (old new : Stage) : Type 0 where
  pub pin : new.pin ≡ old.pin
  pub token : new.token ≡ old.token
  pub lists : (place : ℕ) → IsFrontOf (staged_list old place) (staged_list new place)

-- a stage goes on; where none stood, one under this token may have begun
abbrev pub StageOn : List ℕ → Option Stage → Option Stage → Type 0
StageOn token None None = Unit {0}
StageOn token None (Some s) = s.token ≡ token
StageOn token (Some old) (Some new) = Grows old new
StageOn token (Some old) None = ⊥

-- the answers with which a stage may end
abbrev pub MayFinish : SyncAnswer → Type 0
MayFinish answer.KeeperFault = Unit {0}
MayFinish (answer.Complete v) = Unit {0}
MayFinish a = ⊥

-- the answers after which a stage under another token may stand as it was
abbrev pub MayStay : SyncAnswer → Type 0
MayStay answer.KeeperFault = Unit {0}
MayStay answer.NoMemory = Unit {0}
MayStay a = ⊥

-- a stage under this token keeps its pin and only grows, and ends where its pin is gone; one under another is let go
abbrev pub StageLaw : List ℕ → SyncAnswer → Option Stage → Option Stage → Type 0
StageLaw token answer.LastRun old new = new ≡ old
StageLaw token (answer.PinGone pin oldest) old new = new ≡ None
StageLaw token a old new = StageOn token (own_stage token old) new ⊎ ((MayFinish a × (new ≡ None)) ⊎ (MayStay a × (new ≡ old)))

-- ---- what is held

-- a whole stage was swapped in
pub record IsSwapped (v : ℕ) (s : Stage) (c : Copy) : Type 0 where
  pub held : c.held ≡ Some (held_of s)
  pub pin : s.pin ≡ v
  pub all : length s.done ≡ kind_count
  pub stage : c.stage ≡ None

-- only `Complete`, and `KeeperFault` at the swap, change what is held
abbrev pub HeldLaw : SyncAnswer → Copy → Copy → Type 0
HeldLaw (answer.Complete v) before after = (s : Stage) × IsSwapped v s after
HeldLaw answer.KeeperFault before after = (after.held ≡ before.held) ⊎ ((s : Stage) × IsSwapped s.pin s after)
HeldLaw a before after = after.held ≡ before.held

-- ---- over any link

-- what a synchronisation leaves of a copy, by its answer
pub record Leaves (token : List ℕ) (a : SyncAnswer) (before after : Copy) : Type 0 where
  pub run : (after.run ≡ before.run) ⊎ (after.run ≡ before.run + 1)
  pub entries : after.entries ≡ before.entries
  pub last_number : after.last_number ≡ before.last_number
  pub held : HeldLaw a before after
  pub stage : StageLaw token a before.stage after.stage

-- ---- over one that tells

-- what the token sees of a version, under that token
abbrev pub held_at : ℕ → List ℕ → HubState → Held
held_at v token h = record { version = v; token = Some token; lists = cut (version_at h v) token }

-- the pin of the stage that stood under this token, or else not older than the newest version then
abbrev pub IsPinOf : Option Stage → HubState → ℕ → Type 0
IsPinOf None h v = newest_number h ≤ v
IsPinOf (Some s) h v = v ≡ s.pin

-- the copy is exactly what the token sees of the pinned version
pub record CompleteAt (v : ℕ) (token : List ℕ) (before : Copy) (told : LinkState) (after : Copy) (tells : LinkState) : Type 0 where
  pub held : after.held ≡ Some (held_at v token tells.hub)
  pub stage : after.stage ≡ None
  pub standing : v < length tells.hub.published
  pub known : knows (version_at tells.hub v) token ≡ true
  pub pin : IsPinOf (own_stage token before.stage) told.hub v

-- what is held is as before, or exactly what the token sees of the pinned version
abbrev pub HeldTold : List ℕ → SyncAnswer → Copy → LinkState → Copy → LinkState → Type 0
HeldTold token (answer.Complete v) before told after tells = CompleteAt v token before told after tells
HeldTold token answer.KeeperFault before told after tells = (after.held ≡ before.held) ⊎ ((v : ℕ) × CompleteAt v token before told after tells)
HeldTold token a before told after tells = after.held ≡ before.held

-- all that is promised of a call over a link that tells, where copy and link agreed
pub record Synchronised (token : List ℕ) (a : SyncAnswer) (before : Copy) (told : LinkState) (after : Copy) (tells : LinkState) : Type 0 where
  pub leaves : Leaves token a before after
  pub agree : StageAgrees after tells
  pub held : HeldTold token a before told after tells
