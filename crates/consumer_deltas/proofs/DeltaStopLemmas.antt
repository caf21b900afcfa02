-- Why the pages of a kind end.
use Rattle.std.proofs.Common.{◌≡◌, ◌⊎◌, ⊎_elim, inl, inr, ◌<◌, ◌≤◌, ℕ, Bool, true, false, List, Option, Some, None}
use Rattle.std.proofs.Common.{refl, sym, subst, ap, ◌∙◌, arith, not, is_some}
use Rattle.std.proofs.lemmas.Bool.{cond-false, cond-true, eqb-true, le-ltb, lt-ltb}
use Rattle.std.specs.Prelude.{◌==◌, IfSome, if◌then◌else◌, min, nat_lt, ◌+◌, ◌-◌, length, ◌&&◌}
use Rattle.std.proofs.lemmas.Option.{same_Some}
use Rattle.keeper_memory.specs.copy.Copies.{Copy, held_list}
use Rattle.keeper_memory.specs.copy.Lists.{ascends, last_from}
use Rattle.consumer_sync.specs.Faulted.{SaysGone}
use Rattle.consumer_sync.specs.Filling.{IsEnd}
use Rattle.consumer_sync.specs.Judging.{agrees}
use Rattle.exchange_link.specs.Asked.{SendsOn}
use Rattle.exchange_link.specs.Causes.{IsOwnReply, IsPageStatus}
use Rattle.exchange_link.specs.declared.answer.SyncAnswer.{SyncAnswer}
use Rattle.exchange_link.specs.declared.answer.SyncAnswer.TheVariants as answer
use Rattle.http_wire.proofs.AnswerLemmas.{one_answer}
use Rattle.http_wire.specs.declared.reply_reading.WireReply.{WireReply}
use Rattle.roster_types.specs.Records.{Record}
use Rattle.roster_values.specs.declared.kind.Kind.{Kind}
use Rattle.status_info.specs.declared.request.Request.{Request}
use Rattle.version_core.specs.HubStates.{HubState}
use Rattle.consumer_deltas.specs.DeltaCalls.{AsksSome, IsDeltaAside}
use Rattle.consumer_deltas.specs.DeltaCauses.{RepliesIf, RepliesOn, RepliesTo}
use Rattle.consumer_deltas.specs.DeltaFilling.{Halts, IsPinGone}
use Rattle.consumer_deltas.specs.DeltaFilling.Halts.{Broke, Merging, Stopped, Wants as WantsBeside}
use Rattle.consumer_deltas.specs.DeltaGathering.{Stops, ending_of}
use Rattle.consumer_deltas.specs.DeltaGathering.Stops.{Given, NoReply, NoneCame, Wants}
use Rattle.consumer_deltas.specs.DeltaMerging.{Unmerged}
use Rattle.consumer_deltas.specs.DeltaMerging.Unmerged.{Broke as Broken, TooMany as OverLimit, Wants as Wanting}
use Rattle.consumer_deltas.specs.DeltaJudging.{Sofar, base_act, by_status, closed_act, count_in, delta_judged}
use Rattle.consumer_deltas.specs.DeltaJudging.{differing_act, entries_of, entry_limit, fits_held, ids_ascend, last_id}
use Rattle.consumer_deltas.specs.DeltaJudging.{lost_act, page_act, part_act, read_act, with_page}
use Rattle.consumer_deltas.specs.DeltaRequests.{IsDeltaUnder}
use Rattle.consumer_deltas.specs.DeltaTelling.{GonePin, IsPinFrom, NamesPin}
use Rattle.consumer_deltas.specs.declared.answer.DeltaAnswer.{DeltaAnswer}
use Rattle.consumer_deltas.specs.declared.answer.DeltaAnswer.TheVariants.{BaseGone, Ended, NoBase}
use Rattle.consumer_deltas.specs.declared.gathered.Entries.{Entries}
use Rattle.consumer_deltas.specs.declared.judging.DeltaAct.{DeltaAct}
use Rattle.consumer_deltas.specs.declared.judging.DeltaAct.TheVariants as act
use Rattle.consumer_deltas.specs.declared.judging.Place.{Place}

-- the answers with which the kinds may end
abbrev pub IsDeltaEnd : ℕ → DeltaAnswer → Type 0
IsDeltaEnd base (Ended a) = IsEnd a
IsDeltaEnd base NoBase = ⊥
IsDeltaEnd base (BaseGone held oldest) = held ≡ base

ending_end : (x : DeltaAct) (here : Place) (n : ℕ) → IsDeltaEnd here.base (ending_of x here n)
ending_end (act.PinGone pin oldest) here n = tt
ending_end (act.BaseGone oldest) here n = refl
ending_end act.UnknownToken here n = tt
ending_end (act.TooLarge total) here n = tt
ending_end act.HubFault here n = tt
ending_end act.HubNoMemory here n = tt
ending_end x here n = tt

-- ---- a pin that is gone

abbrev IsGoneAct : DeltaAct → Type 0
IsGoneAct (act.PinGone pin oldest) = Unit {0}
IsGoneAct x = ⊥

gone_act : (x : DeltaAct) (here : Place) (n : ℕ) → IsPinGone (ending_of x here n) → IsGoneAct x
gone_act (act.PinGone pin oldest) here n is = tt
gone_act (act.BaseGone oldest) here n is = is
gone_act act.UnknownToken here n is = is
gone_act (act.TooLarge total) here n is = is
gone_act act.HubFault here n is = is
gone_act act.HubNoMemory here n is = is
gone_act x here n is = is

-- a test, and what follows of both ways
either : (P : DeltaAct → Type 0) (b : Bool) (x y : DeltaAct) → (b ≡ true → P x) → (b ≡ false → P y) → P (if b then x else y)
either P true x y f g = f refl
either P false x y f g = g refl

-- the act doesn't say that the pinned version is gone
abbrev SparesPin : DeltaAct → Type 0
SparesPin x = IsGoneAct x → ⊥

base_spares : (base oldest : ℕ) → SparesPin (base_act base oldest)
base_spares base oldest = either SparesPin (nat_lt base oldest) (act.BaseGone oldest)
    act.BadReply (λ _ is. is) (λ _ is. is)

part_spares : (kind : Kind) (sofar : Sofar) (limit v t : ℕ) (page : Entries)
    → SparesPin (part_act kind sofar limit v t page)
part_spares kind sofar limit v t page =
    either SparesPin (not (length page.puts + length page.gone == min limit (t - count_in sofar))) _ _ (λ _ is. is)
    (λ _. either SparesPin (not (ascends (last_from None sofar.puts) page.puts)) _ _ (λ _ is. is)
    (λ _. either SparesPin (not (ids_ascend (last_id None sofar.gone) page.gone)) _ _ (λ _ is. is)
    (λ _. either SparesPin (not (fits_held kind (with_page sofar page t))) _ _ (λ _ is. is) (λ _ is. is))))

read_spares : (kind : Kind) (sofar : Sofar) (limit v t : ℕ) (o : Option Entries)
    → SparesPin (read_act kind sofar limit v t o)
read_spares kind sofar limit v t None = λ is. is
read_spares kind sofar limit v t (Some page) = part_spares kind sofar limit v t page

page_spares : (place : Place) (sofar : Sofar) (v t : ℕ) (body : List ℕ)
    → SparesPin (page_act place.kind sofar place.pin place.limit v t body)
page_spares place sofar v t body =
    either SparesPin (not (agrees place.pin v)) _ _ (λ _ is. is)
    (λ _. either SparesPin (nat_lt entry_limit t) _ _ (λ _ is. is)
    (λ _. either SparesPin (not (agrees sofar.total t)) _ _ (λ _ is. is) (λ _. read_spares place.kind sofar place.limit v t (entries_of place.kind body))))

differing_spares : (place : Place) (sofar : Sofar) (v t : Option ℕ) (body : List ℕ)
    → SparesPin (differing_act place.kind sofar place.pin place.limit v t body)
differing_spares place sofar (Some v) (Some t) body = page_spares place sofar v t body
differing_spares place sofar (Some v) None body = λ is. is
differing_spares place sofar None t body = λ is. is

closed_spares : (pin : Option ℕ) (is_fresh : Bool) (v : Option ℕ) → SparesPin (closed_act pin is_fresh v)
closed_spares pin is_fresh None = λ is. is
closed_spares pin is_fresh (Some v) = either SparesPin (agrees pin v && is_fresh) (act.Close v)
    act.BadReply (λ _ is. is) (λ _ is. is)

lost_gone : (base : ℕ) (pin oldest : Option ℕ) → IsGoneAct (lost_act base pin oldest) → is_some oldest ≡ true
lost_gone base pin None is = absurd is
lost_gone base pin (Some oldest) is = refl

abbrev SaysOldest : WireReply → DeltaAct → Type 0
SaysOldest w x = IsGoneAct x → (w.status ≡ 404) × (is_some w.oldest ≡ true)

gone_says : (place : Place) (sofar : Sofar) (w : WireReply) → SaysOldest w (delta_judged place sofar w)
gone_says place sofar w =
    either (SaysOldest w) (w.status == 200) _ _
    (λ _ is. absurd (differing_spares place sofar w.version w.total w.body is))
    (λ _. either (SaysOldest w) (w.status == 403) _ _
    (λ _ is. absurd (closed_spares place.pin place.is_fresh w.version is))
    (λ _. either (SaysOldest w) (w.status == 404) _ _ (λ e is. (eqb-true w.status 404 e, lost_gone place.base place.pin w.oldest is))
    (λ _. either (SaysOldest w) (w.status == 401) _ _ (λ _ is. absurd is)
    (λ _. either (SaysOldest w) (w.status == 500) _ _ (λ _ is. absurd is)
    (λ _. either (SaysOldest w) (w.status == 503) _ _ (λ _ is. absurd is) (λ _ is. absurd is))))))

-- the pin that is gone is the one that was asked for
abbrev pub GoneAt : Option ℕ → DeltaAct → Type 0
GoneAt pin (act.PinGone v oldest) = pin ≡ Some v
GoneAt pin x = Unit {0}

spares_at : (pin : Option ℕ) (x : DeltaAct) → SparesPin x → GoneAt pin x
spares_at pin (act.PinGone v oldest) spares = absurd (spares tt)
spares_at pin x spares = tt

lost_at : (base : ℕ) (pin oldest : Option ℕ) → GoneAt pin (lost_act base pin oldest)
lost_at base pin None = tt
lost_at base None (Some oldest) = spares_at None (base_act base oldest) (base_spares base oldest)
lost_at base (Some pin) (Some oldest) =
    either (GoneAt (Some pin)) (nat_lt pin oldest) (act.PinGone pin oldest) (base_act base oldest)
    (λ _. refl) (λ _. spares_at (Some pin) (base_act base oldest) (base_spares base oldest))

pub gone_at : (place : Place) (sofar : Sofar) (w : WireReply) → GoneAt place.pin (delta_judged place sofar w)
gone_at place sofar w =
    either (GoneAt place.pin) (w.status == 200) _ _
    (λ _. spares_at place.pin (differing_act place.kind sofar place.pin place.limit w.version w.total w.body) (differing_spares place sofar w.version w.total w.body))
    (λ _. either (GoneAt place.pin) (w.status == 403) _ _
    (λ _. spares_at place.pin (closed_act place.pin place.is_fresh w.version) (closed_spares place.pin place.is_fresh w.version))
    (λ _. either (GoneAt place.pin) (w.status == 404) _ _ (λ _. lost_at place.base place.pin w.oldest)
    (λ _. either (GoneAt place.pin) (w.status == 401) _ _ (λ _. tt)
    (λ _. either (GoneAt place.pin) (w.status == 500) _ _ (λ _. tt)
    (λ _. either (GoneAt place.pin) (w.status == 503) _ _ (λ _. tt) (λ _. tt))))))

pub ending_gone : (pin : Option ℕ) (h : HubState) (x : DeltaAct) (here : Place) (n : ℕ) → ((v : ℕ) → here.pin ≡ Some v → IsPinFrom pin h v) → GoneAt here.pin x → GonePin pin h (ending_of x here n)
ending_gone pin h (act.PinGone v oldest) here n from at = from v at
ending_gone pin h (act.BaseGone oldest) here n from at = tt
ending_gone pin h act.UnknownToken here n from at = tt
ending_gone pin h (act.TooLarge total) here n from at = tt
ending_gone pin h act.HubFault here n from at = tt
ending_gone pin h act.HubNoMemory here n from at = tt
ending_gone pin h x here n from at = tt

pub ending_names : (x : DeltaAct) (here : Place) (n v : ℕ) → here.pin ≡ Some v → GoneAt here.pin x → NamesPin (ending_of x here n) v
ending_names (act.PinGone pin oldest) here n v e at = same_Some _ _ (sym e ∙ at)
ending_names (act.BaseGone oldest) here n v e at = tt
ending_names act.UnknownToken here n v e at = tt
ending_names (act.TooLarge total) here n v e at = tt
ending_names act.HubFault here n v e at = tt
ending_names act.HubNoMemory here n v e at = tt
ending_names x here n v e at = tt

-- any other answer names none
other_gone : (pin : Option ℕ) (h : HubState) (a : SyncAnswer) → (IsPinGone (Ended a) → ⊥) → GonePin pin h (Ended a)
other_gone pin h (answer.PinGone v oldest) none = absurd (none tt)
other_gone pin h a none = tt

pub none_gone : (pin : Option ℕ) (h : HubState) (a : DeltaAnswer) → (IsPinGone a → ⊥) → GonePin pin h a
none_gone pin h (Ended a) none = other_gone pin h a none
none_gone pin h NoBase none = tt
none_gone pin h (BaseGone held oldest) none = tt

other_named : (a : SyncAnswer) (v : ℕ) → (IsPinGone (Ended a) → ⊥) → NamesPin (Ended a) v
other_named (answer.PinGone pin oldest) v none = absurd (none tt)
other_named a v none = tt

pub none_named : (a : DeltaAnswer) (v : ℕ) → (IsPinGone a → ⊥) → NamesPin a v
none_named (Ended a) v none = other_named a v none
none_named NoBase v none = tt
none_named (BaseGone held oldest) v none = tt

-- ---- exactly where

-- the status picks the act
pub judged_at : (here : Place) (sofar : Sofar) (w : WireReply) (n : ℕ) → w.status ≡ n → delta_judged here sofar w ≡ by_status n here sofar w
judged_at here sofar w n e = ap (λ n. by_status n here sofar w) e

lost_pin : (base pin oldest : ℕ) → pin < oldest → lost_act base (Some pin) (Some oldest) ≡ act.PinGone pin oldest
lost_pin base pin oldest lt = cond-true (nat_lt pin oldest) (act.PinGone pin oldest) (base_act base oldest) (lt-ltb pin oldest lt)

lost_base : (base : ℕ) (pin : Option ℕ) (oldest : ℕ) → base < oldest → IfSome pin (λ pin. oldest ≤ pin) → lost_act base pin (Some oldest) ≡ act.BaseGone oldest
lost_base base None oldest lt le = cond-true (nat_lt base oldest) (act.BaseGone oldest) act.BadReply (lt-ltb base oldest lt)
lost_base base (Some pin) oldest lt le =
    cond-false (nat_lt pin oldest) (act.PinGone pin oldest) (base_act base oldest) (le-ltb pin oldest le) ∙ cond-true (nat_lt base oldest) (act.BaseGone oldest) act.BadReply (lt-ltb base oldest lt)

gives : (here : Place) (sofar : Sofar) (w : WireReply) (n : ℕ) → RepliesTo here w (ending_of (delta_judged here sofar w) here n)
gives here sofar w n = record {
  unknown = λ e. ap (λ x. ending_of x here n) (judged_at here sofar w 401 e);
  fault = λ e. ap (λ x. ending_of x here n) (judged_at here sofar w 500 e);
  memory = λ e. ap (λ x. ending_of x here n) (judged_at here sofar w 503 e);
  pin_gone = λ pin oldest ep es eo lt. ap (λ x. ending_of x here n) (judged_at here sofar w 404 es ∙ ap (λ o. lost_act here.base o w.oldest) ep ∙ ap (lost_act here.base (Some pin)) eo ∙ lost_pin here.base pin oldest lt);
  base_gone = λ oldest es eo lt le. ap (λ x. ending_of x here n) (judged_at here sofar w 404 es ∙ ap (lost_act here.base here.pin) eo ∙ lost_base here.base here.pin oldest lt le);
}

-- ---- what holds where the pages stop

-- where the answer says that the base is gone, the hub was asked
asks_some : (a : DeltaAnswer) (count : ℕ) → 1 ≤ count → AsksSome a count
asks_some (BaseGone held oldest) count some = some
asks_some a count some = tt

module _ (kept : List ℕ) (run count : ℕ) (missed : Type 0) (place : Place) (held : List Record) (a : DeltaAnswer) where
  -- the pages don't end with other answers
  pub stops_end : Stops kept run count missed place held a → IsDeltaEnd place.base a
  stops_end (Given g) =
      let here : Place = g.here in
      subst (λ b. IsDeltaEnd b a) g.base (subst (λ r. IsDeltaEnd here.base r) (sym g.given) (ending_end (delta_judged here g.sofar g.reply) here (count_in g.sofar)))
  stops_end (NoneCame offset all_missed unlike is) = subst (λ r. IsDeltaEnd place.base r) (sym is) tt
  stops_end (NoReply offset unlike is) = subst (λ r. IsDeltaEnd place.base r) (sym is) tt
  stops_end (Wants is) = subst (λ r. IsDeltaEnd place.base r) (sym is) tt

  -- a pin is gone only where a reply says so
  pub stops_gone : Stops kept run count missed place held a → IsPinGone a → SaysGone kept
  stops_gone (Given g) gone =
      let says = gone_says g.here g.sofar g.reply (gone_act (delta_judged g.here g.sofar g.reply) g.here (count_in g.sofar) (subst IsPinGone g.given gone)) in
      (g.reply, g.own.text, says.0, says.1)
  stops_gone (NoneCame offset all_missed unlike is) gone = absurd (subst IsPinGone is gone)
  stops_gone (NoReply offset unlike is) gone = absurd (subst IsPinGone is gone)
  stops_gone (Wants is) gone = absurd (subst IsPinGone is gone)

  -- the own reply gives the answer, or it's an answer beside
  pub stops_replies : Stops kept run count missed place held a → (w : WireReply) → IsOwnReply kept run count w → RepliesIf place w a
  stops_replies (Given g) w own =
      inr (g.here, g.base, g.pin, subst (λ r. RepliesTo g.here r a) (one_answer kept g.reply w g.own.text own.text) (subst (λ r. RepliesTo g.here g.reply r) (sym g.given) (gives g.here g.sofar g.reply (count_in g.sofar))))
  stops_replies (NoneCame offset all_missed unlike is) w own = absurd (unlike w own)
  stops_replies (NoReply offset unlike is) w own = absurd (unlike w own.text)
  stops_replies (Wants is) w own = inl (subst IsDeltaAside (sym is) tt)

  stops_some : Stops kept run count missed place held a → AsksSome a count
  stops_some (Given g) = asks_some a count g.own.from
  stops_some (NoneCame offset all_missed unlike is) = subst (λ a. AsksSome a count) (sym is) tt
  stops_some (NoReply offset unlike is) = subst (λ a. AsksSome a count) (sym is) tt
  stops_some (Wants is) = subst (λ a. AsksSome a count) (sym is) tt

-- ---- behind a page

not_page : (w : WireReply) (n : ℕ) (K : Type 0) → IsPageStatus w.status → w.status ≡ n → (n ≡ 200 → ⊥) → (n ≡ 403 → ⊥) → K
not_page w n K page e a b = absurd (⊎_elim (λ (x : w.status ≡ 200). a (sym e ∙ x)) (λ (x : w.status ≡ 403). b (sym e ∙ x)) page)

-- behind a page no such answer is due
pub page_replies : (place : Place) (w : WireReply) (a : DeltaAnswer) → IsPageStatus w.status → RepliesIf place w a
page_replies place w a page = inr (
  place,
  refl,
  inl refl,
  record {
    unknown = λ e. not_page w 401 _ page e (λ n. omega (arith, n)) (λ n. omega (arith, n));
    fault = λ e. not_page w 500 _ page e (λ n. omega (arith, n)) (λ n. omega (arith, n));
    memory = λ e. not_page w 503 _ page e (λ n. omega (arith, n)) (λ n. omega (arith, n));
    pin_gone = λ pin oldest ep e eo lt. not_page w 404 _ page e (λ n. omega (arith, n)) (λ n. omega (arith, n));
    base_gone = λ oldest e eo lt le. not_page w 404 _ page e (λ n. omega (arith, n)) (λ n. omega (arith, n));
  },
)

pub aside_replies : (place : Place) (w : WireReply) (a : DeltaAnswer) → IsDeltaAside a → RepliesIf place w a
aside_replies place w a is = inl is

-- ---- with other counts

module _ (kept : List ℕ) (run count : ℕ) (missed other : Type 0) (place : Place) (held : List Record) (a : DeltaAnswer) (f : missed → other) where
  stops_map : Stops kept run count missed place held a → Stops kept run count other place held a
  stops_map (Given g) = Given g
  stops_map (NoneCame offset all_missed unlike is) = NoneCame offset (f all_missed) unlike is
  stops_map (NoReply offset unlike is) = NoReply offset unlike is
  stops_map (Wants is) = Wants is

unmerged_map : (broke broken : Type 0) (copies : Copy → Type 0) (kind : Kind) (entries : Sofar) (s : SyncAnswer) → (broke → broken) → Unmerged broke copies kind entries s → Unmerged broken copies kind entries s
unmerged_map broke broken copies kind entries s f (Broken b e) = Broken (f b) e
unmerged_map broke broken copies kind entries s f (Wanting e) = Wanting e
unmerged_map broke broken copies kind entries s f (OverLimit n many is e) = OverLimit n many is e

module _ (kept : List ℕ) (run count : ℕ) (missed other broke broken : Type 0) (copies : Copy → Type 0) (place : Place) (a : DeltaAnswer) (f : missed → other) (g : broke → broken) where
  pub halts_map : Halts kept run count missed broke copies place a → Halts kept run count other broken copies place a
  halts_map (Stopped held shown stops) = Stopped held shown (stops_map kept run count missed other place held a f stops)
  halts_map (Merging entries are shown s unmerged is) = Merging entries are shown s (unmerged_map broke broken copies place.kind entries s g unmerged) is
  halts_map (Broke rose is) = Broke (g rose) is
  halts_map (WantsBeside is) = WantsBeside is

-- ---- what they end with

merged_end : (broke : Type 0) (copies : Copy → Type 0) (kind : Kind) (entries : Sofar) (a : SyncAnswer) → Unmerged broke copies kind entries a → IsEnd a
merged_end broke copies kind entries a (Broken b e) = subst IsEnd (sym e) tt
merged_end broke copies kind entries a (Wanting e) = subst IsEnd (sym e) tt
merged_end broke copies kind entries a (OverLimit n many is e) = subst IsEnd (sym e) tt

module _ (kept : List ℕ) (run count : ℕ) (missed broke : Type 0) (copies : Copy → Type 0) (place : Place) (a : DeltaAnswer) where
  pub halts_end : Halts kept run count missed broke copies place a → IsDeltaEnd place.base a
  halts_end (Stopped held shown stops) = stops_end kept run count missed place held a stops
  halts_end (Merging entries are shown s unmerged is) = subst (λ r. IsDeltaEnd place.base r) (sym is) (merged_end broke copies place.kind entries s unmerged)
  halts_end (Broke rose is) = subst (λ r. IsDeltaEnd place.base r) (sym is) tt
  halts_end (WantsBeside is) = subst (λ r. IsDeltaEnd place.base r) (sym is) tt

  halts_some : Halts kept run count missed broke copies place a → AsksSome a count
  halts_some (Stopped held shown stops) = stops_some kept run count missed place held a stops
  halts_some (Merging entries are shown s unmerged is) = subst (λ a. AsksSome a count) (sym is) tt
  halts_some (Broke rose is) = subst (λ a. AsksSome a count) (sym is) tt
  halts_some (WantsBeside is) = subst (λ a. AsksSome a count) (sym is) tt

-- ---- in the loop

pub halts_if : (kept : List ℕ) (run count : ℕ) (missed other broke broken : Type 0) (copies : Copy → Type 0) (place : Place) (r : Option DeltaAnswer) → (missed → other) → (broke → broken)
    → IfSome r (Halts kept run count missed broke copies place) → IfSome r (Halts kept run count other broken copies place)
halts_if kept run count missed other broke broken copies place None f g x = tt
halts_if kept run count missed other broke broken copies place (Some a) f g x = halts_map kept run count missed other broke broken copies place a f g x

pub some_if : (kept : List ℕ) (run count : ℕ) (missed broke : Type 0) (copies : Copy → Type 0) (place : Place) (r : Option DeltaAnswer) → IfSome r (Halts kept run count missed broke copies place) → IfSome r (λ a. AsksSome a count)
some_if kept run count missed broke copies place None h = tt
some_if kept run count missed broke copies place (Some a) h = halts_some kept run count missed broke copies place a h

pub replies_on : (kept : List ℕ) (run count : ℕ) (place : Place) (r : Option DeltaAnswer) → (r ≡ None → ⊥) → IfSome r (λ a. (w : WireReply) → IsOwnReply kept run count w → RepliesIf place w a)
    → (w : WireReply) → IsOwnReply kept run count w → RepliesOn place w r
replies_on kept run count place None not x w own = absurd (not refl)
replies_on kept run count place (Some a) not x w own = x w own

-- ---- where the stage whose pin is gone was let go

abbrev pub Outcome : DeltaAnswer → DeltaAnswer → Type 0 → Type 0
Outcome given result broke = (result ≡ given) ⊎ (((result ≡ Ended answer.KeeperFault) × broke) ⊎ (result ≡ Ended answer.NoMemory))

module _ (kept : List ℕ) (run count : ℕ) (missed broke : Type 0) (place : Place) (held : List Record) (given result : DeltaAnswer) (stops : Stops kept run count missed place held given) (out : Outcome given result broke) where
  pub stops_halt : (copies : Copy → Type 0) → ((c : Copy) → copies c → held ≡ held_list c place.kind) → Halts kept run count missed broke copies place result
  stops_halt copies shown = ⊎_elim
      (λ (same : result ≡ given). Stopped held shown (subst (λ a. Stops kept run count missed place held a) (sym same) stops))
      (λ beside. ⊎_elim (λ (fault : (result ≡ Ended answer.KeeperFault) × broke). Broke fault.1 fault.0) (λ (wants : result ≡ Ended answer.NoMemory). WantsBeside wants) beside) out

  pub halt_replies : (w : WireReply) → IsOwnReply kept run count w → RepliesIf place w result
  halt_replies w own = ⊎_elim
      (λ (same : result ≡ given). subst (λ a. RepliesIf place w a) (sym same) (stops_replies kept run count missed place held given stops w own))
      (λ beside. inl (⊎_elim (λ (fault : (result ≡ Ended answer.KeeperFault) × broke). subst IsDeltaAside (sym fault.0) tt) (λ (wants : result ≡ Ended answer.NoMemory). subst IsDeltaAside (sym wants) tt) beside)) out

-- at the same place
pub stops_at : (kept : List ℕ) (run count : ℕ) (missed : Type 0) (here there : Place) (held : List Record) (a : DeltaAnswer) → here ≡ there → Stops kept run count missed here held a → Stops kept run count missed there held a
stops_at kept run count missed here there held a e x = subst (λ p. Stops kept run count missed p held a) e x

pub sends_at : (token : List ℕ) (here there : Place) (run from to : ℕ) (wants : Type 0) (before after : List Request) → here ≡ there → SendsOn (IsDeltaUnder token here.limit here.base) run from to wants before after
    → SendsOn (IsDeltaUnder token there.limit there.base) run from to wants before after
sends_at token here there run from to wants before after e x = subst (λ (p : Place). SendsOn (IsDeltaUnder token p.limit p.base) run from to wants before after) e x
