-- What brings a copy up to date: an incremental synchronisation, and a whole one where that has no base.
use Rattle.std.specs.Prelude.{◌≡◌, ◌⊎◌, ℕ, ◌+◌, ◌++◌, List, [], ◌∷◌, ⊤}
use Rattle.std.specs.List.{flat_map}
use Rattle.consumer_deltas.specs.DeltaAnswers.{HasBase, LacksBase}
use Rattle.consumer_deltas.specs.DeltaRequests.{IsDeltaUnder}
use Rattle.exchange_link.specs.Agreement.{StageAgrees}
use Rattle.exchange_link.specs.Completeness.{StandsAt, first_pin}
use Rattle.exchange_link.specs.Exchanges.{LinkState}
use Rattle.exchange_link.specs.Synchronised.{HeldLaw, HeldTold, own_state}
use Rattle.exchange_link.specs.declared.answer.SyncAnswer.{SyncAnswer}
use Rattle.keeper_memory.specs.copy.Copies.{Copy}
use Rattle.keeper_memory.specs.copy.States.{stage_of}
use Rattle.roster_types.specs.Records.{Record}
use Rattle.roster_values.specs.Kinds.{all_kinds}
use Rattle.status_info.specs.declared.request.Echo.{Echo}
use Rattle.status_info.specs.declared.request.Request.{Request}
use Rattle.version_core.specs.declared.change.BaseVersion.{BaseVersion}
use Rattle.hub_spec.specs.views.Cuts.{list_in}

-- ---- over any link

-- what is left of a copy, where its synchronisation answers so: the run number is as before or at most two more
pub record CatchesUp (a : SyncAnswer) (before after : Copy) : Type 0 where
  pub run : (after.run ≡ before.run) ⊎ ((after.run ≡ before.run + 1) ⊎ (after.run ≡ before.run + 2))
  pub entries : after.entries ≡ before.entries
  pub last_number : after.last_number ≡ before.last_number
  pub held : HeldLaw a before after

-- ---- over one that tells

-- the same, and what a link that tells adds
pub record CatchesUpTold (token : List ℕ) (a : SyncAnswer) (before : Copy) (told : LinkState) (after : Copy) (tells : LinkState) : Type 0 where
  pub leaves : CatchesUp a before after
  pub agree : StageAgrees after tells
  pub held : HeldTold token a before told after tells

-- the rows of all kinds that the token sees of a version, in the order of kinds and ids
abbrev pub rows_seen : BaseVersion → List ℕ → List Record
rows_seen version token = flat_map (λ kind. list_in version token kind) all_kinds

-- the first of these requests, the newest of which stands first; if there is any
abbrev pub FirstIs : (Request → Type 0) → List Request → Type 0
FirstIs P [] = ⊤
FirstIs P (q ∷ []) = P q
FirstIs P (q ∷ earlier ∷ others) = FirstIs P (earlier ∷ others)

-- a request for a page of what differs from a version on that was held under the token
abbrev pub AsksFromHeld : List ℕ → ℕ → (Copy → Type 0) → Request → Type 0
AsksFromHeld token limit befores q = (base : ℕ) × ((c : Copy) × befores c × HasBase base token c) × ((n : Echo) × IsDeltaUnder token limit base n q)

-- the first request that was sent since asks for what differs from such a version on
pub record BeginsFromHeld (token : List ℕ) (limit : ℕ) (befores : Copy → Type 0) (before after : List Request) : Type 0 where
  pub more : List Request
  pub sent : after ≡ more ++ before
  pub first : FirstIs (AsksFromHeld token limit befores) more

-- when it has to be complete: the pin stands, and so does what is held under the token, if anything is
pub record MayCatchUp (token : List ℕ) (befores : Copy → Type 0) (before : Copy) (told tells : LinkState) : Type 0 where
  pub pin : StandsAt (first_pin (own_state token (stage_of before)) told.hub) token tells.hub
  pub base : ((c : Copy) → befores c → LacksBase token c) ⊎ ((held : ℕ) × HasBase held token before × StandsAt held token tells.hub)
