-- What the pages of a kind tell, over a link that tells.
use Rattle.std.specs.Prelude.{◌≡◌, ◌≢◌, ◌⊎◌, ◌*◌, ◌<◌, ◌≤◌, ℕ, false, List, [], Option, Some, None, IfErr, IfOk, IfSome}
use Rattle.std.specs.Prelude.{IsSomeAnd, Result, Ok, Err, length, ⊤}
use Rattle.consumer_deltas.specs.DeltaAnswers.{DeltaTold}
use Rattle.consumer_deltas.specs.DeltaGathering.{IsDelta, IsShutAt, differs_at}
use Rattle.consumer_deltas.specs.declared.answer.DeltaAnswer.{DeltaAnswer}
use Rattle.consumer_deltas.specs.declared.answer.DeltaAnswer.TheVariants.{Ended}
use Rattle.consumer_deltas.specs.declared.gathering.Delta.{Delta}
use Rattle.consumer_deltas.specs.declared.gathering.Delta.TheVariants as delta
use Rattle.consumer_deltas.specs.declared.judging.Place.{Place}
use Rattle.exchange_link.specs.Bounds.{pages}
use Rattle.exchange_link.specs.Exchanges.{LinkState}
use Rattle.exchange_link.specs.declared.answer.SyncAnswer.TheVariants as answer
use Rattle.hub_spec.specs.rules.Checks.{version_at}
use Rattle.hub_spec.specs.views.Cuts.{list_in}
use Rattle.roster_types.specs.Records.{Record}
use Rattle.version_core.specs.HubStates.{HubState, newest_number}

-- the pin, or else a version not older than the newest then
abbrev pub IsPinFrom : Option ℕ → HubState → ℕ → Type 0
IsPinFrom None h v = newest_number h ≤ v
IsPinFrom (Some pin) h v = v ≡ pin

-- a delta of the kind may be asked for at this state: both versions were published, what is held is the list of the
-- base, and where rows of the kind are staged, there are some
pub record MayAsk (h : HubState) (token : List ℕ) (place : Place) (held : List Record) : Type 0 where
  pub based : place.base < length h.published
  pub shown : held ≡ list_in (version_at h place.base) token place.kind
  pub pinned : IfSome place.pin (λ pin. (pin < length h.published) × (place.base ≤ pin))
  pub staged : place.is_fresh ≡ false → IsSomeAnd place.pin (λ pin. list_in (version_at h pin) token place.kind ≢ [])

-- what is gathered is the delta between the cuts of the base and of the pin
abbrev pub Tells : HubState → HubState → List ℕ → Place → Delta → Type 0
Tells before after token place (delta.Closed pin) = IsShutAt after token place pin × IsPinFrom place.pin before pin
Tells before after token place (delta.Whole pin entries) = IsDelta after token place pin entries × IsPinFrom place.pin before pin

-- the pin that an answer names
abbrev pub NamesPin : DeltaAnswer → ℕ → Type 0
NamesPin (Ended (answer.PinGone pin oldest)) v = v ≡ pin
NamesPin a v = ⊤

-- the pin at which a kind is gathered, or that an answer names
abbrev pub IsAtPin : Result Delta DeltaAnswer → ℕ → Type 0
IsAtPin (Ok (delta.Closed pin)) v = v ≡ pin
IsAtPin (Ok (delta.Whole pin entries)) v = v ≡ pin
IsAtPin (Err a) v = NamesPin a v

-- an answer names the pin, where there was one
abbrev pub GonePin : Option ℕ → HubState → DeltaAnswer → Type 0
GonePin pin h (Ended (answer.PinGone v oldest)) = IsPinFrom pin h v
GonePin pin h a = ⊤

-- how many exchanges are made for a kind: the tries of one request, or tries * pages of the delta at the pin
abbrev pub PagesBounded : HubState → HubState → List ℕ → Place → ℕ → ℕ → Result Delta DeltaAnswer → Type 0
PagesBounded before after token place tries n result =
    (n ≤ tries) ⊎ ((v : ℕ) × IsPinFrom place.pin before v × (v < length after.published) × IsAtPin result v
    × (n ≤ tries * pages place.limit (length (differs_at after token place v))))

-- what the pages of a kind tell: what is gathered is the delta, no reply is bad, and no page more is asked for
pub record PagesTold (before after : LinkState) (token : List ℕ) (place : Place) (tries n : ℕ) (result : Result Delta DeltaAnswer) : Type 0 where
  pub whole : IfOk result (Tells before.hub after.hub token place)
  pub cause : IfErr result (DeltaTold token before after)
  pub gone : IfErr result (GonePin place.pin before.hub)
  pub bound : PagesBounded before.hub after.hub token place tries n result
