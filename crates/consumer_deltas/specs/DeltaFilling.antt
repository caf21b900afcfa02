-- Kind after kind.
use Rattle.std.specs.Prelude.{◌≡◌, ◌==◌, ◌⊎◌, ◌*◌, ◌<◌, ◌≤◌, ℕ, [], List, Option, Some, None, IfSome, length, max, true}
use Rattle.std.specs.Prelude.{⊤}
use Rattle.consumer_deltas.specs.DeltaAnswers.{DeltaTold}
use Rattle.consumer_deltas.specs.DeltaCalls.{DeltaBounded, IsNewPin}
use Rattle.consumer_deltas.specs.DeltaGathering.{AreEntries, Stops}
use Rattle.consumer_deltas.specs.DeltaJudging.{Sofar}
use Rattle.consumer_deltas.specs.DeltaMerging.{Merges, Unmerged}
use Rattle.consumer_deltas.specs.DeltaTelling.{GonePin, IsPinFrom, NamesPin}
use Rattle.consumer_sync.specs.Filling.{Ends, Fills, PinLaw}
use Rattle.consumer_sync.specs.Staging.{Adds, Taking}
use Rattle.consumer_deltas.specs.declared.answer.DeltaAnswer.{DeltaAnswer}
use Rattle.consumer_deltas.specs.declared.answer.DeltaAnswer.TheVariants.{Ended, BaseGone, NoBase}
use Rattle.consumer_deltas.specs.declared.gathering.Delta.{Delta}
use Rattle.consumer_deltas.specs.declared.gathering.Delta.TheVariants as delta
use Rattle.consumer_deltas.specs.declared.judging.Place.{Place}
use Rattle.exchange_link.specs.Agreement.{CopyFits}
use Rattle.exchange_link.specs.Bounds.{pages}
use Rattle.exchange_link.specs.Completeness.{first_pin}
use Rattle.exchange_link.specs.Exchanges.{LinkState}
use Rattle.exchange_link.specs.Places.{next_kind, pin_of, staged_of}
use Rattle.exchange_link.specs.declared.answer.SyncAnswer.{SyncAnswer}
use Rattle.exchange_link.specs.declared.answer.SyncAnswer.TheVariants as answer
use Rattle.hub_spec.specs.rules.Checks.{version_at}
use Rattle.hub_spec.specs.views.Deltas.{delta as what_differs}
use Rattle.keeper_memory.specs.copy.Changes.{copy_after}
use Rattle.keeper_memory.specs.copy.Copies.{Copy, held_list}
use Rattle.keeper_memory.specs.copy.States.{stage_of}
use Rattle.keeper_memory.specs.declared.copy.change.CopyChange.TheVariants.{Drop}
use Rattle.keeper_memory.specs.declared.copy.state.StageState.{StageState}
use Rattle.keeper_memory.specs.declared.copy.state.TheConstants.{LAST}
use Rattle.roster_types.specs.Records.{Record}
use Rattle.roster_values.specs.declared.kind.Kind.{Kind}
use Rattle.version_core.specs.HubStates.{HubState}

-- the first page of the next kind of a stage
abbrev pub first_place : Option StageState → ℕ → ℕ → Place
first_place stage base limit = record {
  kind = next_kind stage;
  base = base;
  limit = limit;
  pin = pin_of stage;
  is_fresh = staged_of stage == 0;
}

-- ---- a stage whose pin is gone

-- the pin of the stage is gone
abbrev pub IsPinGone : DeltaAnswer → Type 0
IsPinGone (Ended (answer.PinGone pin oldest)) = Unit {0}
IsPinGone a = ⊥

-- a stage goes with its pin, and stays under every other answer
pub data LetsGo (given result : DeltaAnswer) (before after : Copy) : Type 0 where
  Stays : (IsPinGone given → ⊥) → result ≡ given → after ≡ before → LetsGo given result before after
  Goes : IsPinGone given → result ≡ given → after ≡ copy_after Drop before → LetsGo given result before after
  Fails : IsPinGone given → result ≡ Ended answer.KeeperFault → ((after ≡ before) ⊎ (after ≡ copy_after Drop before)) → LetsGo given result before after
  Wants : IsPinGone given → result ≡ Ended answer.NoMemory → after ≡ before → LetsGo given result before after

-- ---- the entries of a kind, staged

-- what was gathered of a kind may be staged
abbrev pub CanStage : Kind → Delta → Type 0
CanStage kind (delta.Closed pin) = pin ≤ LAST
CanStage kind (delta.Whole pin entries) = (pin ≤ LAST) × AreEntries kind entries

-- the entries were judged by these rows
abbrev pub StandsOn : List Record → Delta → Type 0
StandsOn held (delta.Closed pin) = ⊤
StandsOn held (delta.Whole pin entries) = entries.held ≡ held

-- the version at which it was gathered
abbrev pub pin_in : Delta → ℕ
pin_in (delta.Closed pin) = pin
pin_in (delta.Whole pin entries) = pin

-- the empty page of a kind that isn't opened
abbrev pub no_page : ℕ → Taking
no_page pin = record { pin = pin; rows = []; total = 0; done = true }

-- what was gathered of a kind is staged
abbrev pub StagesKind : Delta → Kind → Option StageState → List ℕ → Option SyncAnswer → Copy → Copy → Type 0
StagesKind (delta.Closed pin) kind stage token result before after = Adds (no_page pin) token result before after
StagesKind (delta.Whole pin entries) kind stage token result before after = Merges kind entries stage pin token result before after

-- why it isn't staged
abbrev pub Unstaged : Type 0 → (Copy → Type 0) → Kind → Delta → SyncAnswer → Type 0
Unstaged broke copies kind (delta.Closed pin) a = (broke × (a ≡ answer.KeeperFault)) ⊎ (a ≡ answer.NoMemory)
Unstaged broke copies kind (delta.Whole pin entries) a = Unmerged broke copies kind entries a

-- ---- one kind after the other

-- what the kinds leave of a copy, before the call ends and at an answer
abbrev pub DeltaEnds : List ℕ → ℕ → Option DeltaAnswer → Copy → Copy → Type 0
DeltaEnds token base None before after = Fills token before after
DeltaEnds token base (Some (Ended a)) before after = Ends token (Some a) before after
DeltaEnds token base (Some (BaseGone held oldest)) before after = (held ≡ base) × Fills token before after
DeltaEnds token base (Some NoBase) before after = ⊥

-- why the kinds end: the pages of one stopped, which were judged by what is held of it, its entries weren't merged with
-- that, or keeper or memory gave up beside
pub data Halts (kept : List ℕ) (run count : ℕ) (missed broke : Type 0) (copies : Copy → Type 0) (place : Place) (a : DeltaAnswer) : Type 0 where
  Stopped : (held : List Record) → ((c : Copy) → copies c → held ≡ held_list c place.kind) → Stops kept run count missed place held a → Halts kept run count missed broke copies place a
  Merging : (entries : Sofar) → AreEntries place.kind entries → ((c : Copy) → copies c → entries.held ≡ held_list c place.kind) → (s : SyncAnswer) → Unmerged broke copies place.kind entries s → a ≡ Ended s → Halts kept run count missed broke copies place a
  Broke : broke → a ≡ Ended answer.KeeperFault → Halts kept run count missed broke copies place a
  Wants : a ≡ Ended answer.NoMemory → Halts kept run count missed broke copies place a

-- ---- over a link that tells

-- the kinds go on, or a link that tells says why they ended
abbrev pub DeltaToldIf : List ℕ → LinkState → LinkState → Option DeltaAnswer → Type 0
DeltaToldIf token before after None = Unit {0}
DeltaToldIf token before after (Some a) = DeltaTold token before after a

-- how many exchanges are made for a kind: where it is staged, tries * its pages at the pin, at least one; else the
-- tries of one request or those of its pages
abbrev pub KindBounded : ℕ → ℕ → ℕ → List ℕ → ℕ → Option StageState → Option StageState → Option DeltaAnswer → HubState → HubState → Copy → Type 0
KindBounded n tries limit token base old new None before after c =
    (v : ℕ) × (pin_of new ≡ Some v) × IsPinFrom (pin_of old) before v
    × (n ≤ tries * max 1 (pages limit (length (what_differs (version_at after base) (version_at after v) token (next_kind old)))))
KindBounded n tries limit token base old new (Some a) before after c =
    (n ≤ tries) ⊎ ((v : ℕ) × IsPinFrom (pin_of old) before v × (v < length after.published) × NamesPin a v × IfSome c.stage (λ s. s.pin ≡ v)
    × (n ≤ tries * pages limit (length (what_differs (version_at after base) (version_at after v) token (next_kind old)))))

-- where the base is gone, the stage stands as it was
abbrev pub StaysBased : Option StageState → Copy → DeltaAnswer → Type 0
StaysBased old c (BaseGone held oldest) = stage_of c ≡ old
StaysBased old c a = ⊤

-- what one kind makes of a copy and a hub that agree, by so many exchanges
pub record KindTold (token : List ℕ) (limit tries base n : ℕ) (old new : Option StageState) (result : Option DeltaAnswer) (before after : LinkState) (c : Copy) : Type 0 where
  pub fits : CopyFits c after.hub
  pub cause : DeltaToldIf token before after result
  pub gone : IfSome result (GonePin (pin_of old) before.hub)
  pub stays : IfSome result (StaysBased old c)
  pub bound : KindBounded n tries limit token base old new result before.hub after.hub c

-- a pin that is gone is that of the stage at the beginning, or else not older than the newest version then
abbrev pub GoneBehind : Option StageState → HubState → DeltaAnswer → Type 0
GoneBehind first h (Ended (answer.PinGone pin oldest)) = first_pin first h ≤ pin
GoneBehind first h a = ⊤

-- where the base is gone, a stage that stands has the pin of that at the beginning, or else one not older than the
-- newest version then
abbrev pub BasedBehind : Option StageState → HubState → Copy → DeltaAnswer → Type 0
BasedBehind first h c (BaseGone held oldest) = PinLaw first h (stage_of c)
BasedBehind first h c a = ⊤

-- the kinds go on, or the pin is the one that their end names, if it names one
abbrev pub NamesPinIf : Option DeltaAnswer → ℕ → Type 0
NamesPinIf None v = ⊤
NamesPinIf (Some a) v = NamesPin a v

-- what all kinds make of a copy and a hub that agree, by so many exchanges
pub record FillTold (token : List ℕ) (limit tries base n : ℕ) (first last : Option StageState) (result : Option DeltaAnswer) (before after : LinkState) (c : Copy) : Type 0 where
  pub fits : CopyFits c after.hub
  pub pin : result ≡ None → PinLaw first before.hub last
  pub cause : DeltaToldIf token before after result
  pub gone : IfSome result (GoneBehind first before.hub)
  pub stays : IfSome result (BasedBehind first before.hub c)
  pub bound : DeltaBounded n tries limit token base first (IsNewPin (NamesPinIf result) c before.hub after.hub) after.hub
