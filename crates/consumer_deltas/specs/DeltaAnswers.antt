-- The answers of an incremental synchronisation.
use Rattle.std.specs.Prelude.{◌≡◌, ◌⊎◌, ◌<◌, ℕ, List, Some, IsSomeAnd}
use Rattle.consumer_deltas.specs.declared.answer.DeltaAnswer.{DeltaAnswer}
use Rattle.consumer_deltas.specs.declared.answer.DeltaAnswer.TheVariants.{Ended, NoBase, BaseGone}
use Rattle.exchange_link.specs.Causes.{ToldCause}
use Rattle.exchange_link.specs.Exchanges.{LinkState}
use Rattle.exchange_link.specs.Synchronised.{Leaves}
use Rattle.exchange_link.specs.declared.answer.SyncAnswer.TheVariants as answer
use Rattle.hub_spec.specs.rules.Checks.{version_at}
use Rattle.hub_spec.specs.rules.Growth.{Grew}
use Rattle.keeper_memory.specs.copy.Copies.{Copy, held_token}
use Rattle.version_core.specs.Grants.{grant_of}
use Rattle.version_core.specs.HubStates.{HubState, oldest_number}
use Rattle.version_core.specs.declared.grant_row.GrantRow.{GrantRow}

-- this version is held, under this token
abbrev pub HasBase : ℕ → List ℕ → Copy → Type 0
HasBase base token c = IsSomeAnd c.held (λ held. (held.version ≡ base) × (held.token ≡ Some token))

-- nothing is held under this token
abbrev pub LacksBase : List ℕ → Copy → Type 0
LacksBase token c = held_token c ≡ Some token → ⊥

-- what a call leaves of a copy: without a base it changes nothing, and where the held version is gone all stays but the
-- run and the stage, which goes on
abbrev pub DeltaLeaves : List ℕ → DeltaAnswer → Copy → Copy → Type 0
DeltaLeaves token (Ended a) before after = Leaves token a before after
DeltaLeaves token NoBase before after = after ≡ before
DeltaLeaves token (BaseGone held oldest) before after = HasBase held token before × Leaves token answer.HubFault before after

-- a call ends without a base exactly where none is held under its token
pub record BaseLaw (token : List ℕ) (a : DeltaAnswer) (before : Copy) : Type 0 where
  pub only : a ≡ NoBase → LacksBase token before
  pub exact : LacksBase token before → (a ≡ NoBase) ⊎ ((a ≡ Ended answer.KeeperFault) ⊎ (a ≡ Ended answer.NoMemory))

-- what a link that tells adds: the state at which the hub said that it keeps the base no longer, or that the grant, as
-- it stands in the version that was read, is younger
abbrev pub DeltaTold : List ℕ → LinkState → LinkState → DeltaAnswer → Type 0
DeltaTold token before after (Ended a) = ToldCause token before after a
DeltaTold token before after NoBase = Unit {0}
DeltaTold token before after (BaseGone held oldest) = (mid : HubState) × Grew before.hub mid × Grew mid after.hub
    × (version : ℕ) × (by : GrantRow) × (grant_of token (version_at mid version).grants ≡ Some by) × ((held < oldest_number mid) ⊎ (held < by.grant.since))
