-- The delta of a kind, page after page.
use Rattle.std.specs.Prelude.{◌≡◌, ◌⊎◌, ◌+◌, ◌*◌, ◌<◌, ◌≤◌, ◌++◌, ℕ, true, List, [], None, length}
use Rattle.consumer_deltas.specs.DeltaJudging.{MayCome, Sofar, count_in, delta_judged, entry_limit, is_whole}
use Rattle.consumer_sync.specs.Judging.{agrees}
use Rattle.consumer_deltas.specs.declared.answer.DeltaAnswer.{DeltaAnswer}
use Rattle.consumer_deltas.specs.declared.answer.DeltaAnswer.TheVariants.{Ended, BaseGone}
use Rattle.consumer_deltas.specs.declared.gathering.Delta.{Delta}
use Rattle.consumer_deltas.specs.declared.gathering.Delta.TheVariants as delta
use Rattle.consumer_deltas.specs.declared.gathered.Entries.{Entries}
use Rattle.consumer_deltas.specs.declared.judging.DeltaAct.{DeltaAct}
use Rattle.consumer_deltas.specs.declared.judging.DeltaAct.TheVariants as act
use Rattle.consumer_deltas.specs.declared.judging.Place.{Place}
use Rattle.exchange_link.specs.Causes.{IsOwnReply}
use Rattle.exchange_link.specs.declared.answer.SyncAnswer.TheVariants as answer
use Rattle.http_wire.specs.Answers.{IsNoReply}
use Rattle.http_wire.specs.declared.reply_reading.WireReply.{WireReply}
use Rattle.exchange_link.specs.Sayings.{knows}
use Rattle.hub_spec.specs.rules.Checks.{version_at}
use Rattle.hub_spec.specs.views.Cuts.{list_in}
use Rattle.hub_spec.specs.views.Deltas.{delta as what_differs}
use Rattle.hub_spec.specs.views.Pages.{slice}
use Rattle.keeper_memory.specs.copy.Copies.{largest_tries}
use Rattle.keeper_memory.specs.declared.copy.state.TheConstants.{LAST}
use Rattle.roster_types.specs.Records.{Record}
use Rattle.roster_values.specs.declared.kind.Kind.{Kind}
use Rattle.row_deltas.specs.Deltas.{ids_gone, rows_put}
use Rattle.row_deltas.specs.declared.entry.DeltaEntry.{DeltaEntry}
use Rattle.version_core.specs.HubStates.{HubState}

-- the answer of an act that ends the pages
abbrev pub ending_of : DeltaAct → Place → ℕ → DeltaAnswer
ending_of (act.PinGone pin oldest) place offset = Ended (answer.PinGone pin oldest)
ending_of (act.BaseGone oldest) place offset = BaseGone place.base oldest
ending_of act.UnknownToken place offset = Ended answer.UnknownToken
ending_of (act.TooLarge total) place offset = Ended (answer.TooLarge place.kind total)
ending_of act.HubFault place offset = Ended answer.HubFault
ending_of act.HubNoMemory place offset = Ended answer.HubNoMemory
ending_of a place offset = Ended (answer.BadReply place.kind offset)

-- the most exchanges for a kind: each page but the last has an entry, and is asked for as often as one request may be
-- tried
abbrev pub most_asked : ℕ
most_asked = largest_tries * (entry_limit + 2)

-- entries of a kind that may be merged with the rows that are held
pub record AreEntries (kind : Kind) (entries : Sofar) : Type 0 where
  pub whole : is_whole entries ≡ true
  pub few : count_in entries ≤ entry_limit
  pub come : MayCome kind entries

-- a version that may be the pin
pub record IsPinAt (place : Place) (pin : ℕ) : Type 0 where
  pub same : agrees place.pin pin ≡ true
  pub low : pin ≤ LAST

-- a whole delta at the pin, where there was one; a kind that isn't opened is so from the first
abbrev pub IsGathered : Place → List Record → Delta → Type 0
IsGathered place held (delta.Closed pin) = IsPinAt place pin × (place.is_fresh ≡ true)
IsGathered place held (delta.Whole pin entries) = IsPinAt place pin × AreEntries place.kind entries × (entries.held ≡ held)

-- the last reply is the call's own, and gives this answer for the page that was asked for behind some entries of the
-- kind, which fit what is held of it
pub record IsGiven (kept : List ℕ) (run count : ℕ) (place : Place) (held : List Record) (a : DeltaAnswer) : Type 0 where
  pub sofar : Sofar
  pub here : Place
  pub reply : WireReply
  pub own : IsOwnReply kept run count reply
  pub shown : sofar.held ≡ held
  pub come : MayCome place.kind sofar
  pub kind : here.kind ≡ place.kind
  pub base : here.base ≡ place.base
  pub limit : here.limit ≡ place.limit
  pub pin : (here.pin ≡ place.pin) ⊎ (place.pin ≡ None)
  pub given : a ≡ ending_of (delta_judged here sofar reply) here (count_in sofar)

-- why the pages of a kind end before the delta is whole
pub data Stops (kept : List ℕ) (run count : ℕ) (missed : Type 0) (place : Place) (held : List Record) (a : DeltaAnswer) : Type 0 where
  Given : IsGiven kept run count place held a → Stops kept run count missed place held a
  NoneCame : (offset : ℕ) → missed → ((w : WireReply) → IsOwnReply kept run count w → ⊥) → a ≡ Ended (answer.Interrupted place.kind offset) → Stops kept run count missed place held a
  NoReply : (offset : ℕ) → IsNoReply kept → a ≡ Ended (answer.BadReply place.kind offset) → Stops kept run count missed place held a
  Wants : a ≡ Ended answer.NoMemory → Stops kept run count missed place held a

-- ---- over a link that tells

-- what differs of the place's kind between what the token sees of the base's version and of the pin's
abbrev pub differs_at : HubState → List ℕ → Place → ℕ → List DeltaEntry
differs_at h token place pin = what_differs (version_at h place.base) (version_at h pin) token place.kind

-- the entries are what differs between the cuts of two versions to the token
pub record IsDelta (h : HubState) (token : List ℕ) (place : Place) (pin : ℕ) (entries : Sofar) : Type 0 where
  pub standing : pin < length h.published
  pub known : knows (version_at h pin) token ≡ true
  pub based : knows (version_at h place.base) token ≡ true
  pub low : place.base ≤ pin
  pub puts : entries.puts ≡ rows_put (differs_at h token place pin)
  pub gone : entries.gone ≡ ids_gone (differs_at h token place pin)

-- the token sees no row of the kind
pub record IsShutAt (h : HubState) (token : List ℕ) (place : Place) (pin : ℕ) : Type 0 where
  pub standing : pin < length h.published
  pub known : knows (version_at h pin) token ≡ true
  pub none : list_in (version_at h pin) token place.kind ≡ []

-- what came is the first entries of a list
pub record AreFirst (sofar : Sofar) (all : List DeltaEntry) : Type 0 where
  pub seen : List DeltaEntry
  pub rest : List DeltaEntry
  pub joined : seen ++ rest ≡ all
  pub puts : sofar.puts ≡ rows_put seen
  pub gone : sofar.gone ≡ ids_gone seen

-- what a page tells of the delta, in a state behind the reply
pub record IsPartOf (h : HubState) (token : List ℕ) (place : Place) (sofar : Sofar) (pin : ℕ) (page : Entries) (total : ℕ) : Type 0 where
  pub standing : pin < length h.published
  pub known : knows (version_at h pin) token ≡ true
  pub based : knows (version_at h place.base) token ≡ true
  pub low : place.base ≤ pin
  pub total_is : total ≡ length (differs_at h token place pin)
  pub puts : page.puts ≡ rows_put (slice place.limit (count_in sofar) (differs_at h token place pin))
  pub gone : page.gone ≡ ids_gone (slice place.limit (count_in sofar) (differs_at h token place pin))
