-- The entries of a kind's delta, page after page.
use Rattle.std.proofs.Common.{◌≡◌, ◌⊎◌, ⊎_elim, inl, inr, ◌+◌, ◌-◌, ◌<◌, ◌≤◌, ℕ, true, false, length, length-append}
use Rattle.std.proofs.Common.{List, Option, Some, None, refl, sym, ap, subst, ◌∙◌, arith, min}
use Rattle.std.specs.Prelude.{◌==◌, IfSome, Result, Ok, Err}
use Rattle.std.specs.List.{All}
use Rattle.std.proofs.lemmas.Bool.Decides.{nat_tests}
use Rattle.keeper_memory.proofs.CopyLemmas.{list_more, no_list}
use Rattle.keeper_memory.specs.copy.Lists.{IsList}
use Rattle.keeper_memory.specs.declared.copy.state.TheConstants.{LAST}
use Rattle.exchange_link.proofs.AskedLemmas.{sends_trans, sends_weaker}
use Rattle.exchange_link.proofs.TextLemmas.{version_low}
use Rattle.exchange_link.specs.Asked.{IsTry, SendsOn}
use Rattle.exchange_link.specs.Causes.{IsMore, IsOwnReply}
use Rattle.exchange_link.specs.DeltaPages.{delta_page_request}
use Rattle.exchange_link.specs.declared.answer.SyncAnswer.TheVariants as answer
use Rattle.http_wire.specs.declared.reply_reading.WireReply.{WireReply}
use Rattle.roster_types.specs.Records.{Record}
use Rattle.roster_values.specs.declared.kind.Kind.{Kind}
use Rattle.status_info.specs.declared.request.Request.{Request}
use Rattle.consumer_deltas.proofs.DeltaJudgeLemmas.{IsPart}
use Rattle.consumer_deltas.proofs.DeltaListLemmas.{ids_join}
use Rattle.consumer_deltas.specs.DeltaGathering.{AreEntries, Given, NoReply, NoneCame, Stops, Wants}
use Rattle.consumer_deltas.specs.DeltaJudging.{MayCome, Sofar, count_in, entry_limit, is_whole, nothing_yet, with_page}
use Rattle.consumer_sync.specs.Judging.{agrees}
use Rattle.consumer_deltas.specs.DeltaRequests.{IsDeltaUnder, page_asked}
use Rattle.consumer_deltas.specs.declared.answer.DeltaAnswer.{DeltaAnswer}
use Rattle.consumer_deltas.specs.declared.answer.DeltaAnswer.TheVariants.{Ended}
use Rattle.consumer_deltas.specs.declared.gathering.Delta.{Delta}
use Rattle.consumer_deltas.specs.declared.gathered.Entries.{Entries}
use Rattle.consumer_deltas.specs.declared.judging.DeltaAct.{DeltaAct}
use Rattle.consumer_deltas.specs.declared.judging.Place.{Place}

-- how many entries may still come
abbrev pub left_of : Option ℕ → ℕ → ℕ
left_of None came = entry_limit + 1
left_of (Some total) came = total - came

-- nothing came yet, or some entries and not all
abbrev pub IsAmong : Option ℕ → ℕ → Type 0
IsAmong None came = came ≡ 0
IsAmong (Some total) came = (came < total) × (total ≤ entry_limit)

pub record AreOpen (kind : Kind) (sofar : Sofar) : Type 0 where
  pub among : IsAmong sofar.total (count_in sofar)
  pub come : MayCome kind sofar

came_less : (total : Option ℕ) (came t : ℕ) → IsAmong total came → agrees total t ≡ true → came ≤ t
came_less None came t among same = omega (arith, among)
came_less (Some total) came t among same = let e : total ≡ t = grind (arith, nat_tests, same) in omega (arith, e, among.0)

left_falls : (total : Option ℕ) (came more limit t : ℕ) → IsAmong total came → agrees total t ≡ true → t ≤ entry_limit → 0 < limit → more ≡ min limit (t - came) → came + more < t → left_of (Some t) (came + more) < left_of total came
left_falls None came more limit t among same few some is less = omega (arith, few, less)
left_falls (Some total) came more limit t among same few some is less = let e : total ≡ t = grind (arith, nat_tests, same) in omega (arith, e, among.0, some, is, less)

module _ (place : Place) (sofar : Sofar) (w : WireReply) (pin : ℕ) (page : Entries) (total : ℕ) (far : AreOpen place.kind sofar) (part : IsPart place sofar w pin page total) (kinds : All (λ row. row.kind ≡ place.kind) page.puts) where
  abbrev joined : Sofar
  joined = with_page sofar page total

  counted : count_in joined ≡ count_in sofar + (length page.puts + length page.gone)
  counted = omega (arith, length-append sofar.puts page.puts, length-append sofar.gone page.gone)

  not_more : count_in joined ≤ total
  not_more = let less = came_less sofar.total (count_in sofar) total far.among part.same in omega (arith, counted, part.count, less)

  pub small : count_in joined ≤ entry_limit
  small = omega (arith, not_more, part.few)

  come_on : MayCome place.kind joined
  come_on = record {
    held = far.come.held;
    puts = list_more place.kind sofar.puts page.puts far.come.puts kinds part.puts;
    gone = ids_join None sofar.gone page.gone far.come.gone part.gone;
    fits = part.fits;
  }

  -- the last page
  pub entries_whole : is_whole joined ≡ true → AreEntries place.kind joined
  entries_whole whole = record { whole = whole; few = small; come = come_on }

  pub less_yet : is_whole joined ≡ false → count_in joined < total
  less_yet other = let e : (total == count_in joined) ≡ false = other in grind (arith, nat_tests, e, not_more)

  -- or one in between
  pub entries_open : is_whole joined ≡ false → AreOpen place.kind joined
  entries_open other = record { among = (less_yet other, part.few); come = come_on }

  pub left_less : 0 < place.limit → is_whole joined ≡ false → left_of joined.total (count_in joined) < left_of sofar.total (count_in sofar)
  left_less some other =
      subst (λ n. left_of (Some total) n < left_of sofar.total (count_in sofar)) (sym counted)
      (left_falls sofar.total (count_in sofar) (length page.puts + length page.gone) place.limit total far.among part.same part.few some part.count (let l = less_yet other in omega (arith, counted, l)))

-- before the first page
pub open_first : (kind : Kind) (held : List Record) → IsList kind held → AreOpen kind (nothing_yet held)
open_first kind held is = record { among = refl; come = record { held = is; puts = no_list kind; gone = refl; fits = refl } }

few_came : (total : Option ℕ) (came : ℕ) → IsAmong total came → came ≤ entry_limit
few_came None came among = omega (arith, among)
few_came (Some total) came among = omega (arith, among.0, among.1)

some_left : (total : Option ℕ) (came : ℕ) → IsAmong total came → 1 ≤ left_of total came
some_left None came among = omega arith
some_left (Some total) came among = omega (arith, among.0)

pub open_small : (kind : Kind) (sofar : Sofar) → AreOpen kind sofar → count_in sofar ≤ entry_limit
open_small kind sofar far = few_came sofar.total (count_in sofar) far.among

pub open_left : (kind : Kind) (sofar : Sofar) → AreOpen kind sofar → 1 ≤ left_of sofar.total (count_in sofar)
open_left kind sofar far = some_left sofar.total (count_in sofar) far.among

-- the pin of a page is the call's, or the call had none
abbrev pub IsPinOf : Option ℕ → Option ℕ → Type 0
IsPinOf here first = (here ≡ first) ⊎ (first ≡ None)

pub pin_first : (first : Option ℕ) (pin : ℕ) → agrees first pin ≡ true → IsPinOf (Some pin) first
pin_first None pin same = inr refl
pin_first (Some n) pin same = let e : n ≡ pin = grind (arith, nat_tests, same) in inl (ap Some (sym e))

pub pin_on : (there here first : Option ℕ) → IsPinOf there here → IsPinOf here first → IsPinOf there first
pin_on there here first x y =
    ⊎_elim (λ (e : here ≡ first). ⊎_elim (λ (d : there ≡ here). inl (d ∙ e)) (λ (none : here ≡ None). inr (sym e ∙ none)) x) (λ (none : first ≡ None). inr none) y

-- what is asked for is what is read
pub pin_is : (o : Option ℕ) (p pin : ℕ) → agrees o pin ≡ true → o ≡ Some p → p ≡ pin
pin_is o p pin same e = let test : agrees (Some p) pin ≡ true = sym (ap (λ o. agrees o pin) e) ∙ same in grind (arith, nat_tests, test)

-- why the pages end, at the first of them
pub stops_on : (kept : List ℕ) (run count : ℕ) (missed given : Type 0) (here place : Place) (judged held : List Record) (a : DeltaAnswer) → here.kind ≡ place.kind → here.base ≡ place.base → here.limit ≡ place.limit → IsPinOf here.pin place.pin → judged ≡ held → (missed → given)
    → Stops kept run count missed here judged a → Stops kept run count given place held a
stops_on kept run count missed given here place judged held a kind base limit pin same f (Given x) = Given (record {
  sofar = x.sofar;
  here = x.here;
  reply = x.reply;
  own = x.own;
  shown = x.shown ∙ same;
  come = subst (λ k. MayCome k x.sofar) kind x.come;
  kind = x.kind ∙ kind;
  base = x.base ∙ base;
  limit = x.limit ∙ limit;
  pin = pin_on x.here.pin here.pin place.pin x.pin pin;
  given = x.given;
})
stops_on kept run count missed given here place judged held a kind base limit pin same f (NoneCame offset m unlike e) = NoneCame offset (f m) unlike (e ∙ ap (λ k. Ended (answer.Interrupted k offset)) kind)
stops_on kept run count missed given here place judged held a kind base limit pin same f (NoReply offset none e) = NoReply offset none (e ∙ ap (λ k. Ended (answer.BadReply k offset)) kind)
stops_on kept run count missed given here place judged held a kind base limit pin same f (Wants e) = Wants e

-- the tries of one request are requests of the call
pub sends_delta : (token : List ℕ) (place : Place) (offset run from to : ℕ) (wants given : Type 0) (x y : List Request) → (wants → given)
    → SendsOn (IsTry (delta_page_request (page_asked token place offset) place.base)) run from to wants x y → SendsOn (IsDeltaUnder token place.limit place.base) run from to given x y
sends_delta token place offset run from to wants given x y f s =
    sends_weaker (IsTry (delta_page_request (page_asked token place offset) place.base)) (IsDeltaUnder token place.limit place.base) run from to wants given x y (λ n q h. (page_asked token place offset, refl, refl, h)) f s

pub sends_at : (token : List ℕ) (limit base limit' base' run from to : ℕ) (wants given : Type 0) (x y : List Request) → limit ≡ limit' → base ≡ base' → (wants → given)
    → SendsOn (IsDeltaUnder token limit base) run from to wants x y → SendsOn (IsDeltaUnder token limit' base') run from to given x y
sends_at token limit base limit' base' run from to wants given x y l b f s =
    sends_weaker (IsDeltaUnder token limit base) (IsDeltaUnder token limit' base') run from to wants given x y (λ n q h. (h.0, h.1, h.2 ∙ l, h.3 ∙ ap (λ m. delta_page_request h.0 m n) b)) f s

-- ---- one page behind another

pub asked_on : (a b d from mid to : ℕ) → from ≤ mid → mid ≤ to → IsMore a (mid - from) b → IsMore b (to - mid) d → IsMore a (to - from) d
asked_on a b d from mid to le le' x y = record {
  least = let p = x.least in let q = y.least in omega (arith, p, q, le, le');
  most = let p = x.most in let q = y.most in omega (arith, p, q, le, le');
}

-- the pin of the next page is that of the call
pub same_next : (o : Option ℕ) (pin : ℕ) → agrees o pin ≡ true → (other : ℕ) → agrees (Some pin) other ≡ true → agrees o other ≡ true
same_next o pin h other e = let same : pin ≡ other = grind (arith, nat_tests, e) in subst (λ n. agrees o n ≡ true) same h

pub low_version : (kept : List ℕ) (run count : ℕ) (w : WireReply) (pin : ℕ) → IsOwnReply kept run count w → w.version ≡ Some pin → pin ≤ LAST
low_version kept run count w pin own e = subst (λ o. IfSome o (λ v. v ≤ LAST)) e (version_low kept w own.text)

ok_err : (x : DeltaAct) (a : DeltaAnswer) → (let r : Result DeltaAct DeltaAnswer = Ok x in let q : Result DeltaAct DeltaAnswer = Err a in r ≡ q) → ⊥
ok_err x a e = cc

err_same : (a b : DeltaAnswer) → (let x : Result DeltaAct DeltaAnswer = Err a in let y : Result DeltaAct DeltaAnswer = Err b in x ≡ y) → (let x : Result Delta DeltaAnswer = Err a in let y : Result Delta DeltaAnswer = Err b in x ≡ y)
err_same a b e = let same : a ≡ b = cc in ap (λ (y : DeltaAnswer). let x : Result Delta DeltaAnswer = Err y in x) same

module _ (token : List ℕ) (here place : Place) (run from mid to : ℕ) (limit : here.limit ≡ place.limit) (base : here.base ≡ place.base) (x y z : List Request) (sofar : SendsOn (IsDeltaUnder token place.limit place.base) run from mid ⊥ x y) where
  -- the tries of a page to which a reply came
  pub sends_page : (a : DeltaAct) (given : Type 0) → SendsOn (IsDeltaUnder token here.limit here.base) run mid to (let r : Result DeltaAct DeltaAnswer = Ok a in let q : Result DeltaAct DeltaAnswer = Err (Ended answer.NoMemory) in r ≡ q) y z
      → SendsOn (IsDeltaUnder token place.limit place.base) run from to given x z
  sends_page a given s =
      sends_trans (IsDeltaUnder token place.limit place.base) run from mid to ⊥ given x y z (λ n. n) sofar
      (sends_at token here.limit here.base place.limit place.base run mid to _ given y z limit base (λ e. absurd (ok_err a (Ended answer.NoMemory) e)) s)

  -- and to which none came
  pub sends_end : (a : DeltaAnswer) → SendsOn (IsDeltaUnder token here.limit here.base) run mid to (let r : Result DeltaAct DeltaAnswer = Err a in let q : Result DeltaAct DeltaAnswer = Err (Ended answer.NoMemory) in r ≡ q) y z
      → SendsOn (IsDeltaUnder token place.limit place.base) run from to (let r : Result Delta DeltaAnswer = Err a in let q : Result Delta DeltaAnswer = Err (Ended answer.NoMemory) in r ≡ q) x z
  sends_end a s =
      sends_trans (IsDeltaUnder token place.limit place.base) run from mid to ⊥ _ x y z (λ n. n) sofar
      (sends_at token here.limit here.base place.limit place.base run mid to _ _ y z limit base (err_same a (Ended answer.NoMemory)) s)
