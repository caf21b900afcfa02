-- What the hub's own reply means for the delta of a kind, over a link that tells.
use Rattle.std.proofs.Common.{◌≡◌, ◌≢◌, ◌+◌, ◌-◌, ◌<◌, ◌≤◌, ◌^◌, ◌⊎◌, ⊎_elim, inl, inr, ℕ, Bool, true, false, not, List}
use Rattle.std.proofs.Common.{[], length, min, Option, Some, None, Ok, refl, sym, ap, subst, ◌∙◌, arith, length-append}
use Rattle.std.proofs.lemmas.Bool.{both_ways, cond-false, cond-true, eq-eqb, lt-ltb}
use Rattle.std.specs.Prelude.{Result, ◌==◌, ◌&&◌, nat_lt, if◌then◌else◌, IfSome, IsSomeAnd, max, unwrap_or}
use Rattle.std.proofs.lemmas.Bool.Decides.{nat_tests}
use Rattle.std.proofs.lemmas.Option.{same_Some}
use Rattle.exchange_link.proofs.AskLemmas.{grew_on}
use Rattle.exchange_link.proofs.CutLemmas.{list_good}
use Rattle.exchange_link.specs.DeltaPages.{delta_page_request}
use Rattle.exchange_link.specs.DeltaSayings.{BaseGone, Differs, NotKnown, NotOpened, PinGone, TellsFrom, opens_kind}
use Rattle.exchange_link.specs.Exchanges.{LinkState}
use Rattle.exchange_link.specs.Owning.{IsOwnRead}
use Rattle.exchange_link.specs.Owning.Gives.{Answers as GivesAnswer, Broke as GivesFault, Wants as GivesWant}
use Rattle.exchange_link.specs.Pages.{Page, asked_by}
use Rattle.exchange_link.specs.Sayings.{knows, list_at}
use Rattle.http_wire.specs.declared.reply_reading.WireReply.{WireReply}
use Rattle.hub_spec.proofs.CutDeltas.{list_ascends, list_is_of}
use Rattle.hub_spec.proofs.Growing.{Grew-refl}
use Rattle.hub_spec.proofs.Versions.{number_at, version_is}
use Rattle.hub_spec.specs.requests.PageRequests.{CanAsk}
use Rattle.hub_spec.specs.rules.Checks.{version_at}
use Rattle.hub_spec.specs.rules.Growth.{Grew}
use Rattle.hub_spec.specs.rules.States.{IsHub}
use Rattle.hub_spec.specs.rules.Verdicts.{newest_in}
use Rattle.hub_spec.specs.views.Cuts.{list_in}
use Rattle.hub_spec.specs.views.Deltas.{delta}
use Rattle.hub_spec.specs.views.Pages.{slice}
use Rattle.keeper_memory.specs.copy.Lists.{ascends, last_from}
use Rattle.roster_base.specs.Faults.{Rose}
use Rattle.roster_types.specs.Records.{Record}
use Rattle.roster_values.specs.Kinds.{place_of_kind}
use Rattle.roster_values.specs.declared.kind.Kind.{Kind}
use Rattle.row_deltas.proofs.EntryLemmas.{length-delta}
use Rattle.row_deltas.specs.Deltas.{ids_gone, rows_put}
use Rattle.row_deltas.specs.declared.entry.DeltaEntry.{DeltaEntry}
use Rattle.row_json.specs.Deltas.{gone_of}
use Rattle.row_json.specs.Reading.{rows_of}
use Rattle.status_info.specs.declared.request.Echo.{Echo}
use Rattle.version_core.specs.Grants.{grant_of}
use Rattle.version_core.specs.HubStates.{HubState, newest_number, oldest_number}
use Rattle.version_core.specs.Version.{row_limit}
use Rattle.version_core.specs.declared.change.BaseVersion.{BaseVersion}
use Rattle.version_core.specs.declared.grant_row.GrantRow.{GrantRow}
use Rattle.consumer_sync.specs.Judging.{agrees}
use Rattle.consumer_deltas.proofs.DeltaEntryLemmas.{gone_next, gone_up, part_count, puts_next, puts_up}
use Rattle.consumer_deltas.proofs.DeltaFitLemmas.{first_fits, fits_delta}
use Rattle.consumer_deltas.proofs.DeltaJudgeLemmas.{IsClosed, IsPart, closed_taken, closes_on, goes_on, part_taken}
use Rattle.consumer_deltas.proofs.DeltaJudgeLemmas.{takes_on}
use Rattle.consumer_deltas.proofs.DeltaGatherLemmas.{pin_is}
use Rattle.consumer_deltas.proofs.DeltaPagesLemmas.{Paged, paged_end, paged_next}
use Rattle.consumer_deltas.proofs.DeltaStopLemmas.{judged_at}
use Rattle.consumer_deltas.proofs.DeltaTellLemmas.{PinLaw, delta_law_of, delta_told_of}
use Rattle.consumer_deltas.proofs.DeltaToldLemmas.{first_on, first_whole, part_told}
use Rattle.consumer_deltas.specs.DeltaAnswers.{DeltaTold}
use Rattle.consumer_deltas.specs.DeltaFits.{fits}
use Rattle.consumer_deltas.specs.DeltaGathering.{AreFirst, IsDelta, IsPartOf, IsShutAt, ending_of}
use Rattle.consumer_deltas.specs.DeltaJudging.{Sofar, base_act, closed_act, count_in, delta_judged, differing_act}
use Rattle.consumer_deltas.specs.DeltaJudging.{entries_from, entry_limit, fits_held, ids_ascend, is_whole, last_id}
use Rattle.consumer_deltas.specs.DeltaJudging.{lost_act, nothing_yet, read_act, with_page}
use Rattle.consumer_deltas.specs.DeltaRequests.{page_asked}
use Rattle.consumer_deltas.specs.DeltaTelling.{IsAtPin, IsPinFrom, MayAsk, PagesBounded}
use Rattle.consumer_deltas.specs.declared.answer.DeltaAnswer.{DeltaAnswer}
use Rattle.consumer_deltas.specs.declared.gathering.Delta.{Delta}
use Rattle.consumer_deltas.specs.declared.gathered.Entries.{Entries}
use Rattle.consumer_deltas.specs.declared.judging.DeltaAct.{DeltaAct}
use Rattle.consumer_deltas.specs.declared.judging.DeltaAct.TheVariants as act
use Rattle.consumer_deltas.specs.declared.judging.Place.{Place}

-- ---- what the hub said

-- what came for a page: want of memory, a fault of the hub's keeper, or its answer
pub data Given (h : HubState) (p : Page) (base : ℕ) (rose : Type 0) (w : WireReply) : Type 0 where
  Wants : w.status ≡ 503 → Given h p base rose w
  Broke : w.status ≡ 500 → rose → Given h p base rose w
  Answers : TellsFrom h p base w → PinLaw h p w → Given h p base rose w

-- at some state between
pub record IsSaid (before after : LinkState) (p : Page) (base : ℕ) (w : WireReply) : Type 0 where
  pub mid : HubState
  pub is_hub : IsHub mid
  pub from : Grew before.hub mid
  pub to : Grew mid after.hub
  pub reply : Given mid p base (Rose before.hub_faults after.hub_faults) w

said_of : (a b : LinkState) (p : Page) (base : ℕ) (n : Echo) (w : WireReply) → CanAsk (asked_by p) → base < 10 ^ 18 → IsOwnRead a b (delta_page_request p base n) w → IsSaid a b p base w
said_of a b p base n w can small own = record {
  mid = own.mid;
  is_hub = own.is_hub;
  from = own.from;
  to = grew_on own.step own.to;
  reply = elim own.gives as (λ _. Given own.mid p base (Rose a.hub_faults b.hub_faults) w) [
    | GivesWant s ↦ Wants (ap (λ (r : WireReply). r.status) (sym own.seen) ∙ s)
    | GivesFault s x ↦ Broke (ap (λ (r : WireReply). r.status) (sym own.seen) ∙ s) x
    | GivesAnswer at s ↦ Answers
        (subst (λ r. TellsFrom own.mid p base r) own.seen (delta_told_of own.mid own.is_hub p base n at own.reply own.left can small own.says s))
        (subst (λ r. PinLaw own.mid p r) own.seen (delta_law_of own.mid own.is_hub p base n at own.reply own.left can small s))
  ];
}

-- ---- what is known of a page that is asked for

-- a kind that is opened, or of which rows are seen
abbrev pub Shows : HubState → List ℕ → Kind → ℕ → Type 0
Shows h token kind pin = (opens_kind (version_at h pin) token kind ≡ true) ⊎ (list_at (version_at h pin) token (place_of_kind kind) ≢ [])

-- the entries that came are the first of the delta at the pin
pub record IsFirstPart (h : HubState) (token : List ℕ) (here : Place) (sofar : Sofar) (total pin : ℕ) : Type 0 where
  pub total_is : total ≡ length (delta (version_at h here.base) (version_at h pin) token here.kind)
  pub first : AreFirst sofar (delta (version_at h here.base) (version_at h pin) token here.kind)

abbrev pub Came : HubState → List ℕ → Place → Sofar → Option ℕ → Type 0
Came h token here sofar None = (sofar.puts ≡ []) × (sofar.gone ≡ [])
Came h token here sofar (Some total) = IsSomeAnd here.pin (λ pin. IsFirstPart h token here sofar total pin)

pub record Knows (h : HubState) (token : List ℕ) (here : Place) (sofar : Sofar) : Type 0 where
  pub based : here.base < length h.published
  pub shown : sofar.held ≡ list_in (version_at h here.base) token here.kind
  pub pinned : IfSome here.pin (λ pin. (pin < length h.published) × (here.base ≤ pin))
  pub staged : here.is_fresh ≡ false → IsSomeAnd here.pin (λ pin. Shows h token here.kind pin)
  pub came : Came h token here sofar sofar.total

shows_seen : (h : HubState) (token : List ℕ) (kind : Kind) (o : Option ℕ) → IsSomeAnd o (λ pin. list_at (version_at h pin) token (place_of_kind kind) ≢ []) → IsSomeAnd o (λ pin. Shows h token kind pin)
shows_seen h token kind None x = absurd x
shows_seen h token kind (Some pin) x = inr x

-- before the first page
pub knows_first : (h : HubState) (token : List ℕ) (place : Place) (held : List Record) → MayAsk h token place held → Knows h token place (nothing_yet held)
knows_first h token place held may = record {
  based = may.based;
  shown = may.shown;
  pinned = may.pinned;
  staged = λ e. shows_seen h token place.kind place.pin (may.staged e);
  came = (refl, refl);
}

module _ (a b : HubState) (grew : Grew a b) where
  pinned_on : (base : ℕ) (o : Option ℕ) → IfSome o (λ pin. (pin < length a.published) × (base ≤ pin)) → IfSome o (λ pin. (pin < length b.published) × (base ≤ pin))
  pinned_on base None x = tt
  pinned_on base (Some pin) x = (let stands = x.0 in let longer = grew.longer in omega (arith, stands, longer), x.1)

  shows_on : (base : ℕ) (token : List ℕ) (kind : Kind) (o : Option ℕ) → IfSome o (λ pin. (pin < length a.published) × (base ≤ pin)) → IsSomeAnd o (λ pin. Shows a token kind pin) → IsSomeAnd o (λ pin. Shows b token kind pin)
  shows_on base token kind None stands x = absurd x
  shows_on base token kind (Some pin) stands x = subst
      (λ (v : BaseVersion). (opens_kind v token kind ≡ true) ⊎ (list_at v token (place_of_kind kind) ≢ [])) (sym (grew.same pin stands.0)) x

  came_at : (token : List ℕ) (here : Place) (sofar : Sofar) (total : ℕ) (o : Option ℕ) → here.base < length a.published → IfSome o (λ pin. (pin < length a.published) × (here.base ≤ pin))
      → IsSomeAnd o (λ pin. IsFirstPart a token here sofar total pin) → IsSomeAnd o (λ pin. IsFirstPart b token here sofar total pin)
  came_at token here sofar total None based stands x = absurd x
  came_at token here sofar total (Some pin) based stands x =
      let same : delta (version_at a here.base) (version_at a pin) token here.kind ≡ delta (version_at b here.base) (version_at b pin) token here.kind =
      λ i. delta (sym (grew.same here.base based) i) (sym (grew.same pin stands.0) i) token here.kind in
      record { total_is = x.total_is ∙ ap length same; first = subst (λ es. AreFirst sofar es) same x.first }

  came_on : (token : List ℕ) (here : Place) (sofar : Sofar) (o : Option ℕ) → here.base < length a.published → IfSome here.pin (λ pin. (pin < length a.published) × (here.base ≤ pin))
      → Came a token here sofar o → Came b token here sofar o
  came_on token here sofar None based stands x = x
  came_on token here sofar (Some total) based stands x = came_at token here sofar total here.pin based stands x

  -- in a later state
  pub knows_on : (token : List ℕ) (here : Place) (sofar : Sofar) → Knows a token here sofar → Knows b token here sofar
  knows_on token here sofar x = record {
    based = let stands = x.based in let longer = grew.longer in omega (arith, stands, longer);
    shown = x.shown ∙ ap (λ v. list_in v token here.kind) (sym (grew.same here.base x.based));
    pinned = pinned_on here.base here.pin x.pinned;
    staged = λ e. shows_on here.base token here.kind here.pin x.pinned (x.staged e);
    came = came_on token here sofar sofar.total x.based x.pinned x.came;
  }

-- the version that is read is one that may be the pin
pin_from : (a mid : HubState) → Grew a mid → (o : Option ℕ) (v : ℕ) → v ≡ unwrap_or o (newest_number mid) → IsPinFrom o a v
pin_from a mid grew None v e = let longer = grew.longer in omega (arith, longer, e)
pin_from a mid grew (Some pin) v e = e

-- what holds at the pin holds at the version that is read
at_pin : (h : HubState) (P : ℕ → Type 0) (o : Option ℕ) (v : ℕ) → IsPinFrom o h v → IsSomeAnd o P → P v
at_pin h P None v e x = absurd x
at_pin h P (Some pin) v e x = subst P (sym e) x

first_at : (h at : HubState) (token : List ℕ) (here : Place) (sofar : Sofar) (o : Option ℕ) (v : ℕ) → IsPinFrom here.pin at v → Came h token here sofar o → AreFirst sofar (delta (version_at h here.base) (version_at h v) token here.kind)
first_at h at token here sofar None v e x = record { seen = []; rest = delta (version_at h here.base) (version_at h v) token here.kind; joined = refl; puts = x.0; gone = x.1 }
first_at h at token here sofar (Some total) v e x = (at_pin at (λ pin. IsFirstPart h token here sofar total pin) here.pin v e x).first

-- ---- a page that is taken

pub record TakenMeans (a b : HubState) (token : List ℕ) (here : Place) (sofar : Sofar) (pin : ℕ) (page : Entries) (total : ℕ) : Type 0 where
  pub part : IsPartOf b token here sofar pin page total
  pub opened : opens_kind (version_at b pin) token here.kind ≡ true
  pub from : IsPinFrom here.pin a pin

module _ (a mid b : HubState) (from : Grew a mid) (to : Grew mid b) (token : List ℕ) (here : Place) (sofar : Sofar) (w : WireReply) where
  taken_told : (pin : ℕ) (page : Entries) (total : ℕ) → IsPart here sofar w pin page total → TellsFrom mid (page_asked token here (count_in sofar)) here.base w → TakenMeans a b token here sofar pin page total
  taken_told pin page total part (NotKnown status none) = absurd (omega (arith, status, part.status))
  taken_told pin page total part (PinGone p by asked found status oldest out) = absurd (omega (arith, status, part.status))
  taken_told pin page total part (NotOpened v read status version shut none) = absurd (omega (arith, status, part.status))
  taken_told pin page total part (BaseGone v by read found status oldest out) = absurd (omega (arith, status, part.status))
  taken_told pin page total part (Differs v read status version opened based low is_total rows ids) =
      let is : v ≡ pin = same_Some _ _ (sym version ∙ part.version) in
      let stands : pin < length mid.published = omega (arith, read.standing, is) in
      record {
        part = part_told mid b to token here sofar w pin page total part (Differs v read status version opened based low is_total rows ids);
        opened = ap (λ version. opens_kind version token here.kind) (to.same pin stands) ∙ ap (λ n. opens_kind (version_at mid n) token here.kind) (sym is) ∙ opened;
        from = pin_from a mid from here.pin pin (sym is ∙ read.pinned);
      }

  closed_told : (pin : ℕ) → IsClosed here w pin → TellsFrom mid (page_asked token here (count_in sofar)) here.base w → IsShutAt b token here pin × IsPinFrom here.pin a pin
  closed_told pin shut (NotKnown status none) = absurd (omega (arith, status, shut.status))
  closed_told pin shut (PinGone p by asked found status oldest out) = absurd (omega (arith, status, shut.status))
  closed_told pin shut (BaseGone v by read found status oldest out) = absurd (omega (arith, status, shut.status))
  closed_told pin shut (Differs v read status version opened based low is_total rows ids) = absurd (omega (arith, status, shut.status))
  closed_told pin shut (NotOpened v read status version closed none) =
      let is : v ≡ pin = same_Some _ _ (sym version ∙ shut.version) in
      let stands : pin < length mid.published = omega (arith, read.standing, is) in
      let longer = to.longer in (
        record {
          standing = omega (arith, stands, longer);
          known = ap (λ version. knows version token) (to.same pin stands) ∙ ap (λ n. knows (version_at mid n) token) (sym is) ∙ read.known;
          none = ap (λ version. list_at version token (place_of_kind here.kind)) (to.same pin stands) ∙ ap (λ n. list_at (version_at mid n) token (place_of_kind here.kind)) (sym is) ∙ none;
        },
        pin_from a mid from here.pin pin (sym is ∙ read.pinned),
      )

module _ (a b : LinkState) (token : List ℕ) (here : Place) (sofar : Sofar) (w : WireReply) (said : IsSaid a b (page_asked token here (count_in sofar)) here.base w) where
  pub taken_means : (pin : ℕ) (page : Entries) (total : ℕ) → delta_judged here sofar w ≡ act.Take pin page total → TakenMeans a.hub b.hub token here sofar pin page total
  taken_means pin page total e =
      let part = part_taken here sofar w pin page total e in
      elim said.reply as (λ _. TakenMeans a.hub b.hub token here sofar pin page total) [
        | Wants status ↦ absurd (omega (arith, status, part.status))
        | Broke status rose ↦ absurd (omega (arith, status, part.status))
        | Answers tells law ↦ taken_told a.hub said.mid b.hub said.from said.to token here sofar w pin page total part tells
      ]

  pub closed_means : (pin : ℕ) → delta_judged here sofar w ≡ act.Close pin → IsShutAt b.hub token here pin × IsPinFrom here.pin a.hub pin
  closed_means pin e =
      let shut = closed_taken here sofar w pin e in
      elim said.reply as (λ _. IsShutAt b.hub token here pin × IsPinFrom here.pin a.hub pin) [
        | Wants status ↦ absurd (omega (arith, status, shut.status))
        | Broke status rose ↦ absurd (omega (arith, status, shut.status))
        | Answers tells law ↦ closed_told a.hub said.mid b.hub said.from said.to token here sofar w pin shut tells
      ]

-- the place of the next page
abbrev pub next_place : Place → ℕ → Place
next_place here pin = record here { pin = Some pin; is_fresh = false }

module _ (a b : HubState) (token : List ℕ) (here : Place) (sofar : Sofar) (pin : ℕ) (page : Entries) (total : ℕ) (grew : Grew a b) (x : Knows a token here sofar) (means : TakenMeans a b token here sofar pin page total) where
  abbrev what : List DeltaEntry
  what = delta (version_at b here.base) (version_at b pin) token here.kind

  joined_first : AreFirst (with_page sofar page total) what
  joined_first =
      first_on sofar page total here.limit what (first_at b a token here sofar sofar.total pin means.from (came_on a b grew token here sofar sofar.total x.based x.pinned x.came)) means.part.puts means.part.gone

  -- behind it
  pub knows_next : Knows b token (next_place here pin) (with_page sofar page total)
  knows_next = record {
    based = let stands = x.based in let longer = grew.longer in omega (arith, stands, longer);
    shown = x.shown ∙ ap (λ v. list_in v token here.kind) (sym (grew.same here.base x.based));
    pinned = (means.part.standing, means.part.low);
    staged = λ e. inl means.opened;
    came = record { total_is = means.part.total_is; first = joined_first };
  }

  -- and with the last page all came
  pub whole_told : is_whole (with_page sofar page total) ≡ true → IsDelta b token here pin (with_page sofar page total)
  whole_told e =
      let tested : (total == count_in (with_page sofar page total)) ≡ true = e in
      let all : total ≡ count_in (with_page sofar page total) = grind (arith, nat_tests, tested) in
      let same = first_whole (with_page sofar page total) what joined_first (sym all ∙ means.part.total_is) in
      record { standing = means.part.standing; known = means.part.known; based = means.part.based; low = means.part.low; puts = same.0; gone = same.1 }

-- the delta at a place looks at its base and its kind alone
pub same_delta_at : (h : HubState) (token : List ℕ) (here place : Place) (pin : ℕ) (entries : Sofar) → here.base ≡ place.base → here.kind ≡ place.kind → IsDelta h token here pin entries → IsDelta h token place pin entries
same_delta_at h token here place pin entries base kind x =
    let same : delta (version_at h here.base) (version_at h pin) token here.kind ≡ delta (version_at h place.base) (version_at h pin) token place.kind =
    λ i. delta (version_at h (base i)) (version_at h pin) token (kind i) in
    record {
      standing = x.standing;
      known = x.known;
      based = ap (λ n. knows (version_at h n) token) (sym base) ∙ x.based;
      low = let low = x.low in omega (arith, low, base);
      puts = x.puts ∙ ap rows_put same;
      gone = x.gone ∙ ap ids_gone same;
    }

pub same_shut_at : (h : HubState) (token : List ℕ) (here place : Place) (pin : ℕ) → here.kind ≡ place.kind → IsShutAt h token here pin → IsShutAt h token place pin
same_shut_at h token here place pin kind x =
    record { standing = x.standing; known = x.known; none = ap (λ k. list_at (version_at h pin) token (place_of_kind k)) (sym kind) ∙ x.none }

-- ---- a reply that ends the pages

pass : {A : Type 0} (b : Bool) (x y : A) → b ≡ true → (if not b then x else y) ≡ y
pass true x y e = refl
pass false x y e = cc

few_test : (t : ℕ) → t ≤ entry_limit → nat_lt entry_limit t ≡ false
few_test t le = grind (arith, nat_tests)

agrees_pin : (o : Option ℕ) (v n : ℕ) → v ≡ unwrap_or o n → agrees o v ≡ true
agrees_pin None v n e = refl
agrees_pin (Some pin) v n e = eq-eqb pin v (sym e)

page_take : (place : Place) (sofar : Sofar) (w : WireReply) (v t : ℕ) (page : Entries) → w.status ≡ 200 → w.version ≡ Some v → w.total ≡ Some t → agrees place.pin v ≡ true → t ≤ entry_limit → agrees sofar.total t ≡ true
    → rows_of place.kind w.body ≡ Ok page.puts → gone_of w.body ≡ Ok page.gone → length page.puts + length page.gone ≡ min place.limit (t - count_in sofar)
    → ascends (last_from None sofar.puts) page.puts ≡ true → ids_ascend (last_id None sofar.gone) page.gone ≡ true → fits_held place.kind (with_page sofar page t) ≡ true → delta_judged place sofar w ≡ act.Take v page t
page_take place sofar w v t page status version told pinned few same rows ids count up up' fit =
    judged_at place sofar w 200 status
    ∙ (λ i. differing_act place.kind sofar place.pin place.limit (version i) (told i) w.body)
    ∙ pass (agrees place.pin v) _ _ pinned
    ∙ cond-false (nat_lt entry_limit t) _ _ (few_test t few)
    ∙ pass (agrees sofar.total t) _ _ same
    ∙ (λ i. read_act place.kind sofar place.limit v t (entries_from (rows i) (ids i)))
    ∙ pass (length page.puts + length page.gone == min place.limit (t - count_in sofar)) _ _ (eq-eqb _ _ count)
    ∙ pass (ascends (last_from None sofar.puts) page.puts) _ _ up
    ∙ pass (ids_ascend (last_id None sofar.gone) page.gone) _ _ up'
    ∙ pass (fits_held place.kind (with_page sofar page t)) _ _ fit

-- one of three holds, and the last doesn't
first_two : (A B C : Type 0) → A ⊎ (B ⊎ C) → (C → ⊥) → A ⊎ B
first_two A B C x none = ⊎_elim (λ (a : A). inl a) (λ y. ⊎_elim (λ (b : B). inr b) (λ (c : C). absurd (none c)) y) x

above_one : (n a b : ℕ) → (n < a) ⊎ (n < b) → n < max a b
above_one n a b x = ⊎_elim (λ (lt : n < a). omega (arith, lt)) (λ (lt : n < b). omega (arith, lt)) x

module _ (a b : LinkState) (token : List ℕ) (here : Place) (sofar : Sofar) (w : WireReply) (mid : HubState) (hub : IsHub mid) (from : Grew a.hub mid) (to : Grew mid b.hub) (x : Knows mid token here sofar) (ends : goes_on (delta_judged here sofar w) ≡ false) where
  abbrev Ends : DeltaAct → Type 0
  Ends y = DeltaTold token a b (ending_of y here (count_in sofar))

  -- an act that goes on isn't one
  goes : (y : DeltaAct) → goes_on y ≡ true → delta_judged here sofar w ≡ y → ⊥
  goes y on e = both_ways (goes_on (delta_judged here sofar w)) ends (ap goes_on e ∙ on)

  low_pin : (o : Option ℕ) (v : ℕ) → IfSome o (λ pin. (pin < length mid.published) × (here.base ≤ pin)) → v ≡ unwrap_or o (newest_number mid) → here.base ≤ v
  low_pin None v pinned e = let stands = x.based in omega (arith, stands, e)
  low_pin (Some pin) v pinned e = let low = pinned.1 in omega (arith, low, e)

  pin_gone : (pin : ℕ) (by : GrantRow) → here.pin ≡ Some pin → grant_of token (newest_in mid).grants ≡ Some by → w.status ≡ 404 → w.oldest ≡ Some (max (oldest_number mid) by.grant.since)
      → ((pin < oldest_number mid) ⊎ ((pin < by.grant.since) ⊎ (newest_number mid < pin))) → Ends (delta_judged here sofar w)
  pin_gone pin by asks found status oldest out =
      let stands : (pin < length mid.published) × (here.base ≤ pin) = subst (λ o. IfSome o (λ pin. (pin < length mid.published) × (here.base ≤ pin))) asks x.pinned in
      let old : (pin < oldest_number mid) ⊎ (pin < by.grant.since) = first_two (pin < oldest_number mid) (pin < by.grant.since) (newest_number mid < pin) out (λ late. omega (arith, stands.0, late)) in
      let lt : pin < max (oldest_number mid) by.grant.since = above_one pin (oldest_number mid) by.grant.since old in
      subst Ends
      (sym (judged_at here sofar w 404 status ∙ (λ i. lost_act here.base (asks i) (oldest i)) ∙ cond-true (nat_lt pin (max (oldest_number mid) by.grant.since)) _ _ (lt-ltb _ _ lt)))
      (mid, from, to, by, found, old)

  module _ (version : ℕ) (by : GrantRow) (read : version ≡ unwrap_or here.pin (newest_number mid)) (found : grant_of token (version_at mid version).grants ≡ Some by) where
    abbrev kept_from : ℕ
    kept_from = max (oldest_number mid) by.grant.since

    base_act_ends : ((here.base < oldest_number mid) ⊎ ((here.base < by.grant.since) ⊎ (version < here.base))) → Ends (base_act here.base kept_from)
    base_act_ends out =
        let old : (here.base < oldest_number mid) ⊎ (here.base < by.grant.since) = first_two (here.base < oldest_number mid) (here.base < by.grant.since) (version < here.base) out (λ late. let low = low_pin here.pin version x.pinned read in omega (arith, low, late)) in
        let lt : here.base < kept_from = above_one here.base (oldest_number mid) by.grant.since old in
        subst Ends (sym (cond-true (nat_lt here.base kept_from) _ _ (lt-ltb _ _ lt))) (mid, from, to, version, by, found, old)

    lost_ends : PinLaw mid (page_asked token here (count_in sofar)) w → w.status ≡ 404 → w.oldest ≡ Some kept_from → ((here.base < oldest_number mid) ⊎ ((here.base < by.grant.since) ⊎ (version < here.base)))
        → (o : Option ℕ) → here.pin ≡ o → Ends (lost_act here.base o (Some kept_from))
    lost_ends law status is out None asks = base_act_ends out
    lost_ends law status is out (Some pin) asks =
        elim (nat_lt pin kept_from) as (λ b. nat_lt pin kept_from ≡ b → Ends (if b then act.PinGone pin kept_from else base_act here.base kept_from)) [
          | true ↦ λ t. let lt : pin < kept_from = grind (arith, nat_tests, t) in let y = law pin kept_from asks status is lt in (mid, from, to, y.0, y.1, y.2)
          | false ↦ λ t. base_act_ends out
        ] refl

  base_gone : PinLaw mid (page_asked token here (count_in sofar)) w → (version : ℕ) (by : GrantRow) → version ≡ unwrap_or here.pin (newest_number mid) → grant_of token (version_at mid version).grants ≡ Some by
      → w.status ≡ 404 → w.oldest ≡ Some (max (oldest_number mid) by.grant.since)
      → ((here.base < oldest_number mid) ⊎ ((here.base < by.grant.since) ⊎ (version < here.base))) → Ends (delta_judged here sofar w)
  base_gone law version by read found status is out =
      subst Ends (sym (judged_at here sofar w 404 status ∙ ap (lost_act here.base here.pin) is)) (lost_ends version by read found law status is out here.pin refl)

  not_opened : (version : ℕ) → version ≡ unwrap_or here.pin (newest_number mid) → w.status ≡ 403 → w.version ≡ Some version → opens_kind (version_at mid version) token here.kind ≡ false
      → list_at (version_at mid version) token (place_of_kind here.kind) ≡ [] → ⊥
  not_opened version read status is shut none =
      let pinned : agrees here.pin version ≡ true = agrees_pin here.pin version (newest_number mid) read in
      let judged : delta_judged here sofar w ≡ (if here.is_fresh then act.Close version else act.BadReply) =
      judged_at here sofar w 403 status ∙ ap (closed_act here.pin here.is_fresh) is ∙ ap (λ p. if p && here.is_fresh then act.Close version else act.BadReply) pinned in
      elim here.is_fresh as (λ f. here.is_fresh ≡ f → delta_judged here sofar w ≡ (if f then act.Close version else act.BadReply) → ⊥) [
        | true ↦ λ _ e. goes (act.Close version) (closes_on version) e
        | false ↦ λ late _.
            let shows = at_pin mid (λ pin. Shows mid token here.kind pin) here.pin version (pin_from mid mid (Grew-refl mid) here.pin version read) (x.staged late) in
            ⊎_elim (λ (opened : opens_kind (version_at mid version) token here.kind ≡ true). both_ways _ shut opened) (λ (some : list_at (version_at mid version) token (place_of_kind here.kind) ≢ []). some none) shows
      ] refl judged

  module _ (version : ℕ) (standing : version < length mid.published) (read : version ≡ unwrap_or here.pin (newest_number mid)) where
    abbrev differing : List DeltaEntry
    differing = delta (version_at mid here.base) (version_at mid version) token here.kind

    abbrev shown : List DeltaEntry
    shown = slice here.limit (count_in sofar) differing

    is_pin : IsPinFrom here.pin mid version
    is_pin = pin_from mid mid (Grew-refl mid) here.pin version read

    first_now : AreFirst sofar differing
    first_now = first_at mid mid token here sofar sofar.total version is_pin x.came

    same_total : (o : Option ℕ) → Came mid token here sofar o → agrees o (length differing) ≡ true
    same_total None y = refl
    same_total (Some total) y = eq-eqb total (length differing) ((at_pin mid (λ pin. IsFirstPart mid token here sofar total pin) here.pin version is_pin y).total_is)

    abbrev base_rows : List Record
    base_rows = list_in (version_at mid here.base) token here.kind

    abbrev pin_rows : List Record
    pin_rows = list_in (version_at mid version) token here.kind

    few : length differing ≤ entry_limit
    few =
        let many : length differing ≤ length base_rows + length pin_rows = length-delta here.kind base_rows pin_rows in
        let few_old : length base_rows ≤ row_limit = (list_good mid hub here.base token (place_of_kind here.kind) x.based).few in
        let few_new : length pin_rows ≤ row_limit = (list_good mid hub version token (place_of_kind here.kind) standing).few in
        omega (arith, many, few_old, few_new)

    differs : w.status ≡ 200 → w.version ≡ Some version → w.total ≡ Some (length differing) → rows_of here.kind w.body ≡ Ok (rows_put shown) → gone_of w.body ≡ Ok (ids_gone shown) → ⊥
    differs status is told rows ids =
        let page : Entries = record { puts = rows_put shown; gone = ids_gone shown } in
        let base_is = version_is mid hub.state here.base (let stands = x.based in omega (arith, stands)) in
        let pin_is = version_is mid hub.state version (omega (arith, standing)) in
        let are_old = list_is_of (version_at mid here.base) token here.kind in
        let are_new = list_is_of (version_at mid version) token here.kind in
        let up_old = list_ascends (version_at mid here.base) base_is token here.kind in
        let up_new = list_ascends (version_at mid version) pin_is token here.kind in
        goes (act.Take version page (length differing)) (takes_on version page (length differing))
        (page_take here sofar w version (length differing) page status is told (agrees_pin here.pin version (newest_number mid) read) few (same_total sofar.total x.came) rows ids
        (part_count sofar here.limit differing first_now)
        (puts_next sofar here.limit differing first_now (puts_up here.kind base_rows pin_rows are_old are_new up_old up_new))
        (gone_next sofar here.limit differing first_now (gone_up here.kind base_rows pin_rows are_old are_new up_old up_new))
        (ap (λ held. fits here.kind held (with_page sofar page (length differing)).puts (with_page sofar page (length differing)).gone) x.shown
        ∙ first_fits here.kind base_rows (with_page sofar page (length differing)) differing (first_on sofar page (length differing) here.limit differing first_now refl refl)
        (fits_delta here.kind base_rows pin_rows are_old are_new up_old up_new)))

  told_ends : PinLaw mid (page_asked token here (count_in sofar)) w → TellsFrom mid (page_asked token here (count_in sofar)) here.base w → Ends (delta_judged here sofar w)
  told_ends law (NotKnown status none) = subst Ends (sym (judged_at here sofar w 401 status)) (mid, from, to, none)
  told_ends law (PinGone pin by asks found status oldest out) = pin_gone pin by asks found status oldest out
  told_ends law (NotOpened version read status is shut none) = absurd (not_opened version read.pinned status is shut none)
  told_ends law (BaseGone version by read found status oldest out) = base_gone law version by read.pinned found status oldest out
  told_ends law (Differs version read status is opened based low told rows ids) = absurd (differs version read.standing read.pinned status is told rows ids)

-- an own reply that ends the pages is the hub's own cause: none is bad
pub ends_mean : (a b : LinkState) (token : List ℕ) (here : Place) (sofar : Sofar) (w : WireReply) → IsSaid a b (page_asked token here (count_in sofar)) here.base w → Knows a.hub token here sofar
    → goes_on (delta_judged here sofar w) ≡ false → DeltaTold token a b (ending_of (delta_judged here sofar w) here (count_in sofar))
ends_mean a b token here sofar w said x ends = elim said.reply as (λ _. DeltaTold token a b (ending_of (delta_judged here sofar w) here (count_in sofar))) [
  | Wants status ↦ subst (λ y. DeltaTold token a b (ending_of y here (count_in sofar))) (sym (judged_at here sofar w 503 status)) tt
  | Broke status rose ↦ subst (λ y. DeltaTold token a b (ending_of y here (count_in sofar))) (sym (judged_at here sofar w 500 status)) rose
  | Answers tells law ↦ told_ends a b token here sofar w said.mid said.is_hub said.from said.to (knows_on a.hub said.mid said.from token here sofar x) ends law tells
]

-- ---- asking for a page

small_version : (h : HubState) → IsHub h → (n : ℕ) → n < length h.published → n < 10 ^ 18
small_version h hub n stands =
    let is = version_is h hub.state n (omega (arith, stands)) in
    let at = number_at h hub.state n (omega (arith, stands)) in
    omega (arith, is.number, at)

small_pin : (h : HubState) → IsHub h → (base : ℕ) (o : Option ℕ) → IfSome o (λ pin. (pin < length h.published) × (base ≤ pin)) → IfSome o (λ pin. pin < 10 ^ 18)
small_pin h hub base None x = tt
small_pin h hub base (Some pin) x = small_version h hub pin x.0

-- the own reply to a request for the next page is what the hub said to it
pub own_said : (a b : LinkState) → IsHub a.hub → (token : List ℕ) (here : Place) (sofar : Sofar) (n : Echo) (w : WireReply) → 1 ≤ here.limit → here.limit ≤ 1000 → count_in sofar ≤ entry_limit → Knows a.hub token here sofar
    → IsOwnRead a b (delta_page_request (page_asked token here (count_in sofar)) here.base n) w → IsSaid a b (page_asked token here (count_in sofar)) here.base w
own_said a b hub token here sofar n w some few came x own = said_of a b (page_asked token here (count_in sofar)) here.base n w
    (record { some = some; limit = few; offset = omega (arith, came); pin = small_pin a.hub hub here.base here.pin x.pinned }) (small_version a.hub hub here.base x.based) own

-- ---- from the first page on

-- what is known at a page, and that its pin is one of the call
pub record Gathering (before h : HubState) (token : List ℕ) (place here : Place) (sofar : Sofar) : Type 0 where
  pub known : Knows h token here sofar
  pub pin : (v : ℕ) → IsPinFrom here.pin h v → IsPinFrom place.pin before v

-- the same, and how many pages were asked for
abbrev pub GatheredBy : HubState → HubState → List ℕ → Place → Place → Sofar → ℕ → ℕ → Type 0
GatheredBy before h token place here sofar tries n =
    Gathering before h token place here sofar × Paged before h token place here sofar tries n

pub gathering_first : (h : HubState) (token : List ℕ) (place : Place) (held : List Record) (sofar : Sofar) → sofar ≡ nothing_yet held → MayAsk h token place held → Gathering h h token place place sofar
gathering_first h token place held sofar e may = subst (λ s. Gathering h h token place place s) (sym e) (record { known = knows_first h token place held may; pin = λ v x. x })

module _ (before : HubState) (a b : LinkState) (hub : IsHub a.hub) (grew : Grew a.hub b.hub) (token : List ℕ) (place here : Place) (sofar : Sofar) (n : Echo) (w : WireReply) (some : 1 ≤ here.limit) (few : here.limit ≤ 1000)
    (came : count_in sofar ≤ entry_limit) (x : Gathering before a.hub token place here sofar) (own : IsOwnRead a b (delta_page_request (page_asked token here (count_in sofar)) here.base n) w) where
  said : IsSaid a b (page_asked token here (count_in sofar)) here.base w
  said = own_said a b hub token here sofar n w some few came x.known own

  -- what a page that is taken means
  page_means : (pin : ℕ) (page : Entries) (total : ℕ) → act.Take pin page total ≡ delta_judged here sofar w
      → TakenMeans a.hub b.hub token here sofar pin page total
  page_means pin page total e = taken_means a b token here sofar w said pin page total (sym e)

  -- at the next page
  pub gathering_next : (pin : ℕ) (page : Entries) (total : ℕ) → act.Take pin page total ≡ delta_judged here sofar w → (next : Sofar) (there : Place) → next ≡ with_page sofar page total → there ≡ next_place here pin
      → Gathering before b.hub token place there next
  gathering_next pin page total e next there joined at =
      let means = page_means pin page total e in
      let on : Gathering before b.hub token place (next_place here pin) (with_page sofar page total) = record {
        known = knows_next a.hub b.hub token here sofar pin page total grew x.known means;
        pin = λ v is. subst (λ m. IsPinFrom place.pin before m) (sym is) (x.pin pin means.from);
      } in
      subst (λ p. Gathering before b.hub token place p next) (sym at) (subst (λ s. Gathering before b.hub token place (next_place here pin) s) (sym joined) on)

  -- at the last one
  pub whole_tells : here.base ≡ place.base → here.kind ≡ place.kind → (pin : ℕ) (page : Entries) (total : ℕ) → act.Take pin page total ≡ delta_judged here sofar w → (all : Sofar) → all ≡ with_page sofar page total → is_whole all ≡ true
      → IsDelta b.hub token place pin all × IsPinFrom place.pin before pin
  whole_tells base kind pin page total e all joined whole =
      let means = page_means pin page total e in
      let told = whole_told a.hub b.hub token here sofar pin page total grew x.known means (ap is_whole (sym joined) ∙ whole) in
      (subst (λ s. IsDelta b.hub token place pin s) (sym joined) (same_delta_at b.hub token here place pin (with_page sofar page total) base kind told), x.pin pin means.from)

  -- one page more, which isn't the last
  pub paged_on : here.base ≡ place.base → here.kind ≡ place.kind → here.limit ≡ place.limit → (pin : ℕ) (page : Entries) (total : ℕ) → act.Take pin page total ≡ delta_judged here sofar w → (next : Sofar) (there : Place) → next ≡ with_page sofar page total
      → there ≡ next_place here pin → count_in (with_page sofar page total) < total → (from at to tries : ℕ) → from ≤ at → at ≤ to → to ≤ at + tries → Paged before a.hub token place here sofar tries (at - from) → Paged before b.hub token place there next tries (to - from)
  paged_on base kind limit pin page total e next there joined at less start mid to tries le le' most so =
      let means = page_means pin page total e in
      let part = part_taken here sofar w pin page total (sym e) in
      let all : total ≡ length (delta (version_at b.hub place.base) (version_at b.hub pin) token place.kind) =
      means.part.total_is ∙ (λ i. length (delta (version_at b.hub (base i)) (version_at b.hub pin) token (kind i))) in
      let stands = x.known.based in
      let sum : (mid - start) + (to - mid) ≡ to - start = omega (arith, le, le') in
      let counted : count_in (with_page sofar page total) ≡ count_in sofar + (length page.puts + length page.gone) = omega (arith, length-append sofar.puts page.puts, length-append sofar.gone page.gone) in
      let count : count_in next ≡ count_in sofar + min place.limit (length (delta (version_at b.hub place.base) (version_at b.hub pin) token place.kind) - count_in sofar) =
      ap count_in joined ∙ counted ∙ ap (λ c. count_in sofar + c) (part.count ∙ (λ i. min (limit i) (all i - count_in sofar))) in
      let few_next : count_in next < length (delta (version_at b.hub place.base) (version_at b.hub pin) token place.kind) = omega (arith, ap count_in joined, less, all) in
      subst (λ k. Paged before b.hub token place there next tries k) sum
      (paged_next before a.hub b.hub token place here sofar tries (mid - start) (to - mid) grew (omega (arith, stands, base)) (omega (arith, some, limit)) (omega (arith, le', most)) pin there next
      (λ p asked. pin_is here.pin p pin part.pinned asked) (ap (λ (p : Place). p.pin) at) (x.pin pin means.from) means.part.standing count few_next so)

  pub closed_tells : here.kind ≡ place.kind → (pin : ℕ) → act.Close pin ≡ delta_judged here sofar w → IsShutAt b.hub token place pin × IsPinFrom place.pin before pin
  closed_tells kind pin e =
      let means = closed_means a b token here sofar w said pin (sym e) in
      (same_shut_at b.hub token here place pin kind means.0, x.pin pin means.1)

  pub ends_tell : (y : DeltaAct) → y ≡ delta_judged here sofar w → goes_on y ≡ false → (offset : ℕ) → offset ≡ count_in sofar → DeltaTold token a b (ending_of y here offset)
  ends_tell y e ends offset at =
      let told = ends_mean a b token here sofar w said x.known (ap goes_on (sym e) ∙ ends) in
      subst (λ m. DeltaTold token a b (ending_of y here m)) (sym at) (subst (λ z. DeltaTold token a b (ending_of z here (count_in sofar))) (sym e) told)

-- to the end of the pages
pub paged_to : (before : HubState) (a b : HubState) → Grew a b → (token : List ℕ) (place here : Place) (sofar : Sofar) → here.base ≡ place.base → 0 < place.limit → Gathering before a token place here sofar
    → (from at to tries : ℕ) → from ≤ at → at ≤ to → to ≤ at + tries → (r : Result Delta DeltaAnswer) → ((v : ℕ) → here.pin ≡ Some v → IsAtPin r v) → Paged before a token place here sofar tries (at - from) → PagesBounded before b token place tries (to - from) r
paged_to before a b grew token place here sofar base some x from at to tries le le' most r named so =
    let stands = x.known.based in
    let sum : (at - from) + (to - at) ≡ to - from = omega (arith, le, le') in
    subst (λ k. PagesBounded before b token place tries k r) sum
    (paged_end before a b token place here sofar tries (at - from) (to - at) grew (omega (arith, stands, base)) some (omega (arith, le', most)) r named so)

-- ---- from an earlier state on
