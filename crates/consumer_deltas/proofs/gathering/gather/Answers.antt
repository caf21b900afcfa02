use Rattle.std.proofs.Common.{◌≡◌, ◌+◌, ◌-◌, ◌^◌, ◌<◌, ◌≤◌, ℕ, Some, Ok, Err, inl, inr, true, false, arith, refl}
use Rattle.std.proofs.Common.{sym, ap, subst, ◌∙◌}
use Rattle.std.proofs.lemmas.Bool.{both_ways}
use Rattle.std.specs.Prelude.{IfSome, Result}
use Rattle.exchange_link.proofs.AskLemmas.{asks_refl, asks_trans}
use Rattle.exchange_link.proofs.AskedLemmas.{sends_refl}
use Rattle.exchange_link.specs.Requests.{number}
use Rattle.exchange_link.specs.Asked.{SendsOn}
use Rattle.exchange_link.specs.Causes.{IsMore, IsPageStatus}
use Rattle.exchange_link.specs.Exchanges.{LinkState}
use Rattle.http_wire.proofs.AnswerLemmas.{one_answer}
use Rattle.http_wire.specs.declared.reply_reading.WireReply.{WireReply}
use Rattle.consumer_sync.specs.Judging.{agrees}
use Rattle.consumer_deltas.proofs.DeltaBoundLemmas.{told_more}
use Rattle.consumer_deltas.proofs.DeltaGatherLemmas.{AreOpen, IsPinOf, asked_on, entries_open, entries_whole, left_less}
use Rattle.consumer_deltas.proofs.DeltaGatherLemmas.{left_of, less_yet, low_version, open_first, open_left, open_small}
use Rattle.consumer_deltas.proofs.DeltaGatherLemmas.{pin_first, pin_is, same_next, sends_end, sends_page, small}
use Rattle.consumer_deltas.proofs.DeltaGatherLemmas.{stops_on}
use Rattle.consumer_deltas.proofs.DeltaJudgeLemmas.{IsPart, closed_taken, ends_not, part_taken}
use Rattle.consumer_deltas.proofs.DeltaMeantLemmas.{Gathering, closed_tells, ends_tell, gathering_first, gathering_next}
use Rattle.consumer_deltas.proofs.DeltaMeantLemmas.{paged_on, paged_to, whole_tells}
use Rattle.consumer_deltas.proofs.DeltaPagesLemmas.{NoneYet, Paged}
use Rattle.consumer_deltas.proofs.DeltaStopLemmas.{GoneAt, ending_gone, ending_names, gone_at, none_gone, none_named}
use Rattle.consumer_deltas.specs.DeltaAnswers.{DeltaTold}
use Rattle.consumer_deltas.specs.DeltaGathering.{AreEntries, Given, Wants, ending_of, most_asked}
use Rattle.consumer_deltas.specs.DeltaJudging.{ArePuts, MayCome, Sofar, count_in, entry_limit, is_whole}
use Rattle.consumer_deltas.specs.DeltaJudging.{with_page}
use Rattle.consumer_deltas.specs.DeltaRequests.{IsDeltaUnder}
use Rattle.consumer_deltas.specs.DeltaTelling.{GonePin, IsAtPin, IsPinFrom, NamesPin, PagesBounded}
use Rattle.consumer_deltas.specs.declared.answer.DeltaAnswer.{DeltaAnswer}
use Rattle.consumer_deltas.specs.declared.gathering.Delta.{Delta}
use Rattle.consumer_deltas.specs.declared.gathering.Delta.TheVariants as delta
use Rattle.consumer_deltas.specs.declared.judging.DeltaAct.TheVariants as act
use Rattle.consumer_deltas.specs.declared.judging.Place.{Place}
use Rattle.hub_spec.specs.rules.Growth.{Grew}
use Rattle.roster_values.specs.declared.kind.Kind.{Kind}
use Rattle.version_core.specs.HubStates.{HubState}
use Rattle.consumer_deltas.proofs.gathering.gather.Given.{Over}
use Rattle.consumer_deltas.proofs.gathering.gather.Goals.{After-next_act, In-Ok, In-Take}
use Rattle.consumer_deltas.proofs.gathering.gather.Goals as goal
use Rattle.keeper_memory.specs.copy.Copies.{largest_limit}

-- ---- the next page was asked for

module _ (g : Over) (c : After-next_act g) where
  counted : (c.args.count.now ≤ c.next_act.new.count) × (c.next_act.new.count ≤ c.args.count.now + most_asked)
  counted =
      let i = c.pages.invariant in
      let on = c.next_act.ensures.count in
      (omega (arith, i.count, on.0), omega (arith, i.room, on.1, c.requires.tries.1))

  asked : IsMore (g.L.Link.asked c.args.link.now) (c.next_act.new.count - c.args.count.now)
      (g.L.Link.asked c.next_act.new.link)
  asked =
      let i = c.pages.invariant in
      asked_on _ _ _ _ _ _ i.count c.next_act.ensures.count.0 i.asked c.next_act.ensures.asked

  later : g.L.Link.fault_count c.args.link.now ≤ g.L.Link.fault_count c.next_act.new.link
  later = let i = c.pages.invariant in omega (arith, i.later, c.next_act.ensures.later)

  led : g.L.Link.leads c.args.link.now c.next_act.new.link
  led = g.met.L.Link.leads_on _ _ _ c.pages.invariant.link_leads c.next_act.ensures.link_leads

  -- the pages are bounded, with the last one
  bounded : (before mid after : HubState) → Grew mid after
      → Gathering before mid c.args.by.token.now c.args.place c.pages.here c.pages.sofar
      → Paged before mid c.args.by.token.now c.args.place c.pages.here c.pages.sofar c.args.by.tries
      (c.pages.count - c.args.count.now)
      → (result : Result Delta DeltaAnswer) → ((v : ℕ) → c.pages.here.pin ≡ Some v → IsAtPin result v)
      → PagesBounded before after c.args.by.token.now c.args.place c.args.by.tries
      (c.next_act.new.count - c.args.count.now) result
  bounded before mid after grew known paged result named =
      let i = c.pages.invariant in
      let on = c.next_act.ensures.count in
      paged_to before mid after grew c.args.by.token.now c.args.place c.pages.here c.pages.sofar i.base
      c.requires.limit.0 known
      c.args.count.now c.pages.count c.next_act.new.count c.args.by.tries i.count on.0 on.1 result named paged

-- ---- its own reply was read

module _ (g : Over) (c : In-Ok g) where
  some : 0 < c.pages.here.limit
  some = let i = c.pages.invariant in omega (arith, i.limit, c.requires.limit.0)

  few : c.pages.here.limit ≤ largest_limit
  few = let i = c.pages.invariant in omega (arith, i.limit, c.requires.limit.1)

  came : count_in c.pages.sofar ≤ entry_limit
  came = open_small c.args.place.kind c.pages.sofar c.pages.invariant.entries

  -- each request of the call is for a page of what differs from the base on
  sends : (wants : Type 0) (after : LinkState) → g.L.Link.tells c.next_act.new.link after
      → (before : LinkState) × g.L.Link.tells c.args.link.now before
      × SendsOn (IsDeltaUnder c.args.by.token.now c.args.place.limit c.args.place.base) c.args.by.run c.args.count.now
      c.next_act.new.count wants before.sent after.sent
  sends wants after tells =
      let i = c.pages.invariant in
      let last = c.in-Ok.ensures.asks after tells in
      let from = i.asks last.0 last.1 in (
        from.0,
        from.1,
        sends_page c.args.by.token.now c.pages.here c.args.place c.args.by.run _ _ _ i.limit i.base _ _ _ from.2
            c.in-Ok.act
            wants last.2,
      )

-- ---- a page is taken

module _ (g : Over) (c : In-Take g) where
  part : IsPart c.pages.here c.pages.sofar c.in-Ok.ensures.act.0 c.in-Take.pin c.in-Take.page c.in-Take.total
  part =
      let read = c.in-Ok.ensures.act in
      part_taken c.pages.here c.pages.sofar read.0 c.in-Take.pin c.in-Take.page c.in-Take.total
      (sym read.2 ∙ c.in-Take.is)

  still_open : AreOpen c.pages.here.kind c.pages.sofar
  still_open = let i = c.pages.invariant in subst (λ (k : Kind). AreOpen k c.pages.sofar) (sym i.kind) i.entries

  put_kinds : ArePuts c.pages.here.kind (act.Take c.in-Take.pin c.in-Take.page c.in-Take.total)
  put_kinds = subst (ArePuts c.pages.here.kind) c.in-Take.is c.in-Ok.ensures.kinds

pub pages-init : goal.pages-init
pages-init g c =
    let none = c.new-sofar.ensures in
    let left : left_of c.new-sofar.result.total (count_in c.new-sofar.result) ≡ entry_limit + 1 =
    ap (λ (s : Sofar). left_of s.total (count_in s)) none in
    record {
      kind = refl;
      base = refl;
      limit = refl;
      pin = c.requires.pin;
      same = λ pin e. e;
      asked_for = inl refl;
      fresh = λ e. e;
      entries = subst (λ (s : Sofar). AreOpen c.args.place.kind s) (sym none)
          (open_first c.args.place.kind c.args.held c.requires.held);
      held = ap (λ (s : Sofar). s.held) none;
      count = omega arith;
      room = omega (arith, left);
      asked = record { least = omega arith; most = omega arith };
      later = omega arith;
      link_leads = g.met.L.Link.stays _;
      told = λ after tells. (
        after,
        tells,
        asks_refl _ _ _ _,
        λ ready may. (
          gathering_first after.hub c.args.by.token.now c.args.place c.args.held _ none may,
          NoneYet (omega arith) (ap count_in none) refl,
        ),
      );
      asks = λ after tells. (after, tells, sends_refl _ _ _ _ _);
    }

pub next_act-requires : goal.next_act-requires
next_act-requires g c =
    let i = c.pages.invariant in
    let few = open_small c.args.place.kind c.pages.sofar i.entries in
    let left = open_left c.args.place.kind c.pages.sofar i.entries in
    record {
      few_came = omega (arith, few);
      come = subst (λ (k : Kind). MayCome k c.pages.sofar) (sym i.kind) i.entries.come;
      limit = omega (arith, i.limit, c.requires.limit.1);
      base = omega (arith, i.base, c.requires.base);
      pin = i.pin;
      run = c.requires.run;
      tries = c.requires.tries;
      few = omega (arith, left, i.room, c.requires.few, c.requires.tries.1);
    }

-- the entries of a page that is taken, and what it leaves
pub add-requires : goal.add-requires
add-requires g c =
    let at = (goal.at.add-requires g c).In-Take in
    let read = c.in-Ok.ensures.act in
    let few = small c.pages.here c.pages.sofar read.0 c.in-Take.pin c.in-Take.page c.in-Take.total (still_open g at)
    (part g at)
    (put_kinds g at) in
    omega (arith, few)

pub pages-preserved : goal.pages-preserved
pages-preserved g c =
    let at = goal.at.pages-preserved g c in
    let i = c.pages.invariant in
    let here = c.pages.here in
    let sofar = c.pages.sofar in
    let token = c.args.by.token.now in
    let read = c.in-Ok.ensures.act in
    let pin = c.in-Take.pin in
    let page = c.in-Take.page in
    let total = c.in-Take.total in
    let taken = part g at.In-Take in
    let unfinished = still_open g at.In-Take in
    let kinds = put_kinds g at.In-Take in
    let joined = c.in-Ok-add.ensures.added in
    let there = c.behind-here.ensures in
    let other : is_whole (with_page sofar page total) ≡ false = sym c.in-Ok-add.ensures.whole ∙ c.if-whole.false in
    let fell : left_of c.add.new.sofar.total (count_in c.add.new.sofar) < left_of sofar.total (count_in sofar) =
    subst (λ (s : Sofar). left_of s.total (count_in s) < left_of sofar.total (count_in sofar)) (sym joined)
    (left_less here sofar read.0 pin page total unfinished taken kinds (some g at.In-Ok) other) in
    let low = low_version _ c.args.by.run c.next_act.new.count read.0 pin read.1 taken.version in
    let less = less_yet here sofar read.0 pin page total unfinished taken kinds other in
    record {
      kind = ap (λ (p : Place). p.kind) there ∙ i.kind;
      base = ap (λ (p : Place). p.base) there ∙ i.base;
      limit = ap (λ (p : Place). p.limit) there ∙ i.limit;
      pin = subst (λ (p : Place). IfSome p.pin (λ n. n < 2 ^ 64)) (sym there)
          (let n : pin < 2 ^ 64 = omega (arith, low) in n);
      same = λ other_pin same.
          same_next c.args.place.pin pin (i.same pin taken.pinned) other_pin
          (ap (λ (p : Place). agrees p.pin other_pin) (sym there) ∙ same);
      asked_for = subst (λ (p : Place). IsPinOf p.pin c.args.place.pin) (sym there)
          (pin_first c.args.place.pin pin (i.same pin taken.pinned));
      fresh = λ fresh. absurd (both_ways _ (ap (λ (p : Place). p.is_fresh) there) fresh);
      entries = subst (λ (s : Sofar). AreOpen c.args.place.kind s) (sym joined)
          (subst (λ (k : Kind). AreOpen k (with_page sofar page total)) i.kind
          (entries_open here sofar read.0 pin page total unfinished taken kinds other));
      held = ap (λ (s : Sofar). s.held) joined ∙ i.held;
      count = omega (arith, i.count, c.next_act.ensures.count.0);
      room = omega (arith, fell, i.room, c.next_act.ensures.count.1, c.requires.tries.1);
      asked = asked g at.After-next_act;
      later = later g at.After-next_act;
      link_leads = led g at.After-next_act;
      told = λ after tells.
          let last = c.in-Ok.ensures.told after tells in
          let from = i.told last.0 last.1 in (
            from.0,
            from.1,
            asks_trans from.2 last.2,
            λ ready may.
                let own = last.3 (from.2.ready ready) in
                let sofar_told = from.3 ready may in
                let hub = g.met.L.Link.is_hub c.pages.link last.0 last.1 in
                let read_is = sym c.in-Take.is ∙ own.2 in (
                  gathering_next from.0.hub last.0 after hub last.2.moved.grew token c.args.place here sofar
                      (number c.args.by.run c.next_act.new.count) own.0 (some g at.In-Ok) (few g at.In-Ok)
                      (came g at.In-Ok) sofar_told.0 own.1 pin page total read_is c.add.new.sofar
                      c.behind-here.result joined there,
                  paged_on from.0.hub last.0 after hub last.2.moved.grew token c.args.place here sofar
                      (number c.args.by.run c.next_act.new.count) own.0 (some g at.In-Ok) (few g at.In-Ok)
                      (came g at.In-Ok) sofar_told.0 own.1 i.base i.kind i.limit pin page total read_is c.add.new.sofar
                      c.behind-here.result joined there less c.args.count.now c.pages.count c.next_act.new.count
                      c.args.by.tries i.count c.next_act.ensures.count.0 c.next_act.ensures.count.1 sofar_told.1,
                ),
          );
      asks = sends g at.In-Ok ⊥;
    }

pub pages-smaller : goal.pages-smaller
pages-smaller g c =
    let at = goal.at.pages-smaller g c in
    let sofar = c.pages.sofar in
    let pin = c.in-Take.pin in
    let page = c.in-Take.page in
    let total = c.in-Take.total in
    let other : is_whole (with_page sofar page total) ≡ false = sym c.in-Ok-add.ensures.whole ∙ c.if-whole.false in
    subst (λ (s : Sofar). left_of s.total (count_in s) < left_of sofar.total (count_in sofar))
    (sym c.in-Ok-add.ensures.added)
    (left_less c.pages.here sofar c.in-Ok.ensures.act.0 pin page total (still_open g at.In-Take) (part g at.In-Take)
    (put_kinds g at.In-Take) (some g at.In-Ok) other)

-- ---- no reply was taken

pub returns-in-Err-clause-cause : goal.returns-in-Err-clause-cause
returns-in-Err-clause-cause g c =
    let i = c.pages.invariant in
    stops_on _ c.args.by.run c.next_act.new.count _ _ c.pages.here c.args.place c.pages.sofar.held c.args.held
    c.in-Err.answer
    i.kind i.base i.limit i.asked_for i.held (λ m. (m.0, m.1, let rose = m.2 in omega (arith, rose, i.later)))
    c.in-Err.ensures.cause

pub returns-in-Err-clause-count : goal.returns-in-Err-clause-count
returns-in-Err-clause-count g c = counted g (goal.at.returns-in-Err-clause-count g c).After-next_act

pub returns-in-Err-clause-asked : goal.returns-in-Err-clause-asked
returns-in-Err-clause-asked g c = asked g (goal.at.returns-in-Err-clause-asked g c).After-next_act

pub returns-in-Err-clause-later : goal.returns-in-Err-clause-later
returns-in-Err-clause-later g c = later g (goal.at.returns-in-Err-clause-later g c).After-next_act

pub returns-in-Err-clause-link_leads : goal.returns-in-Err-clause-link_leads
returns-in-Err-clause-link_leads g c = led g (goal.at.returns-in-Err-clause-link_leads g c).After-next_act

pub returns-in-Err-clause-told : goal.returns-in-Err-clause-told
returns-in-Err-clause-told g c after tells =
    let last = c.in-Err.ensures.told after tells in
    let from = c.pages.invariant.told last.0 last.1 in (
      from.0,
      from.1,
      asks_trans from.2 last.2,
      λ ready may.
          let sofar_told = from.3 ready may in
          record {
            whole = tt;
            cause = told_more c.args.by.token.now from.0 last.0 after c.in-Err.answer (from.2).moved last.4;
            gone = none_gone c.args.place.pin from.0.hub c.in-Err.answer c.in-Err.ensures.gone;
            bound = bounded g (goal.at.returns-in-Err-clause-told g c).After-next_act from.0.hub last.0.hub after.hub
                last.2.moved.grew sofar_told.0 sofar_told.1 (Err c.in-Err.answer)
                (λ v e. none_named c.in-Err.answer v c.in-Err.ensures.gone);
          },
    )

pub returns-in-Err-clause-asks : goal.returns-in-Err-clause-asks
returns-in-Err-clause-asks g c after tells =
    let i = c.pages.invariant in
    let last = c.in-Err.ensures.asks after tells in
    let from = i.asks last.0 last.1 in (
      from.0,
      from.1,
      sends_end c.args.by.token.now c.pages.here c.args.place c.args.by.run _ _ _ i.limit i.base _ _ _ from.2
          c.in-Err.answer
          last.2,
    )

-- ---- there was no memory for the entries

pub returns-in-Err-add-clause-cause : goal.returns-in-Err-add-clause-cause
returns-in-Err-add-clause-cause g c =
    Wants c.in-Err-add.ensures.wants

pub returns-in-Err-add-clause-count : goal.returns-in-Err-add-clause-count
returns-in-Err-add-clause-count g c = counted g (goal.at.returns-in-Err-add-clause-count g c).After-next_act

pub returns-in-Err-add-clause-asked : goal.returns-in-Err-add-clause-asked
returns-in-Err-add-clause-asked g c = asked g (goal.at.returns-in-Err-add-clause-asked g c).After-next_act

pub returns-in-Err-add-clause-later : goal.returns-in-Err-add-clause-later
returns-in-Err-add-clause-later g c = later g (goal.at.returns-in-Err-add-clause-later g c).After-next_act

pub returns-in-Err-add-clause-link_leads : goal.returns-in-Err-add-clause-link_leads
returns-in-Err-add-clause-link_leads g c = led g (goal.at.returns-in-Err-add-clause-link_leads g c).After-next_act

pub returns-in-Err-add-clause-told : goal.returns-in-Err-add-clause-told
returns-in-Err-add-clause-told g c after tells =
    let wants = sym c.in-Err-add.ensures.wants in
    let last = c.in-Ok.ensures.told after tells in
    let from = c.pages.invariant.told last.0 last.1 in (
      from.0,
      from.1,
      asks_trans from.2 last.2,
      λ ready may.
          let sofar_told = from.3 ready may in
          record {
            whole = tt;
            cause = subst (λ (a : DeltaAnswer). DeltaTold c.args.by.token.now from.0 after a) wants tt;
            gone = subst (λ (a : DeltaAnswer). GonePin c.args.place.pin from.0.hub a) wants tt;
            bound = bounded g (goal.at.returns-in-Err-add-clause-told g c).After-next_act from.0.hub last.0.hub
                after.hub
                last.2.moved.grew sofar_told.0 sofar_told.1 (Err c.in-Err-add.answer)
                (λ v e. subst (λ (a : DeltaAnswer). NamesPin a v) wants tt);
          },
    )

pub returns-in-Err-add-clause-asks : goal.returns-in-Err-add-clause-asks
returns-in-Err-add-clause-asks g c = sends g (goal.at.returns-in-Err-add-clause-asks g c).In-Ok _

-- ---- all entries came

pub returns-then-whole-clause-whole : goal.returns-then-whole-clause-whole
returns-then-whole-clause-whole g c =
    let at = (goal.at.returns-then-whole-clause-whole g c).In-Take in
    let i = c.pages.invariant in
    let sofar = c.pages.sofar in
    let read = c.in-Ok.ensures.act in
    let pin = c.in-Take.pin in
    let page = c.in-Take.page in
    let total = c.in-Take.total in
    let joined = c.in-Ok-add.ensures.added in
    let whole : is_whole (with_page sofar page total) ≡ true = sym c.in-Ok-add.ensures.whole ∙ c.if-whole.true in (
      record {
        same = i.same pin (part g at).pinned;
        low = low_version _ c.args.by.run c.next_act.new.count read.0 pin read.1 (part g at).version;
      },
      subst (λ (s : Sofar). AreEntries c.args.place.kind s) (sym joined)
          (subst (λ (k : Kind). AreEntries k (with_page sofar page total)) i.kind
          (entries_whole c.pages.here sofar read.0 pin page total (still_open g at) (part g at)
          (put_kinds g at) whole)),
      ap (λ (s : Sofar). s.held) joined ∙ i.held,
    )

pub returns-then-whole-clause-page : goal.returns-then-whole-clause-page
returns-then-whole-clause-page g c w own =
    let read = c.in-Ok.ensures.act in
    let taken = part g (goal.at.returns-then-whole-clause-page g c).In-Take in
    subst (λ (r : WireReply). IsPageStatus r.status) (one_answer _ read.0 w read.1.text own.text) (inl taken.status)

pub returns-then-whole-clause-count : goal.returns-then-whole-clause-count
returns-then-whole-clause-count g c = counted g (goal.at.returns-then-whole-clause-count g c).After-next_act

pub returns-then-whole-clause-asked : goal.returns-then-whole-clause-asked
returns-then-whole-clause-asked g c = asked g (goal.at.returns-then-whole-clause-asked g c).After-next_act

pub returns-then-whole-clause-later : goal.returns-then-whole-clause-later
returns-then-whole-clause-later g c = later g (goal.at.returns-then-whole-clause-later g c).After-next_act

pub returns-then-whole-clause-link_leads : goal.returns-then-whole-clause-link_leads
returns-then-whole-clause-link_leads g c = led g (goal.at.returns-then-whole-clause-link_leads g c).After-next_act

pub returns-then-whole-clause-told : goal.returns-then-whole-clause-told
returns-then-whole-clause-told g c after tells =
    let at = goal.at.returns-then-whole-clause-told g c in
    let i = c.pages.invariant in
    let here = c.pages.here in
    let pin = c.in-Take.pin in
    let joined = c.in-Ok-add.ensures.added in
    let whole = ap is_whole joined ∙ sym c.in-Ok-add.ensures.whole ∙ c.if-whole.true in
    let taken = part g at.In-Take in
    let last = c.in-Ok.ensures.told after tells in
    let from = i.told last.0 last.1 in (
      from.0,
      from.1,
      asks_trans from.2 last.2,
      λ ready may.
          let sofar_told = from.3 ready may in
          let own = last.3 (from.2.ready ready) in
          record {
            whole = whole_tells from.0.hub last.0 after (g.met.L.Link.is_hub c.pages.link last.0 last.1)
                last.2.moved.grew
                c.args.by.token.now c.args.place here c.pages.sofar (number c.args.by.run c.next_act.new.count) own.0
                (some g at.In-Ok) (few g at.In-Ok) (came g at.In-Ok) sofar_told.0 own.1 i.base i.kind pin c.in-Take.page
                c.in-Take.total (sym c.in-Take.is ∙ own.2) c.add.new.sofar joined whole;
            cause = tt;
            gone = tt;
            bound = bounded g at.After-next_act from.0.hub last.0.hub after.hub last.2.moved.grew sofar_told.0
                sofar_told.1
                (Ok (delta.Whole pin c.add.new.sofar)) (λ v e. pin_is here.pin v pin taken.pinned e);
          },
    )

pub returns-then-whole-clause-asks : goal.returns-then-whole-clause-asks
returns-then-whole-clause-asks g c = sends g (goal.at.returns-then-whole-clause-asks g c).In-Ok _

-- ---- the kind isn't opened

pub returns-in-Close-clause-whole : goal.returns-in-Close-clause-whole
returns-in-Close-clause-whole g c =
    let i = c.pages.invariant in
    let pin = c.in-Close.pin in
    let read = c.in-Ok.ensures.act in
    let closed = closed_taken c.pages.here c.pages.sofar read.0 pin (sym read.2 ∙ c.in-Close.is) in
    let low = low_version _ c.args.by.run c.next_act.new.count read.0 pin read.1 closed.version in
    (record { same = i.same pin closed.pinned; low = low }, i.fresh closed.fresh)

pub returns-in-Close-clause-page : goal.returns-in-Close-clause-page
returns-in-Close-clause-page g c w own =
    let read = c.in-Ok.ensures.act in
    let closed = closed_taken c.pages.here c.pages.sofar read.0 c.in-Close.pin (sym read.2 ∙ c.in-Close.is) in
    subst (λ (r : WireReply). IsPageStatus r.status) (one_answer _ read.0 w read.1.text own.text) (inr closed.status)

pub returns-in-Close-clause-count : goal.returns-in-Close-clause-count
returns-in-Close-clause-count g c = counted g (goal.at.returns-in-Close-clause-count g c).After-next_act

pub returns-in-Close-clause-asked : goal.returns-in-Close-clause-asked
returns-in-Close-clause-asked g c = asked g (goal.at.returns-in-Close-clause-asked g c).After-next_act

pub returns-in-Close-clause-later : goal.returns-in-Close-clause-later
returns-in-Close-clause-later g c = later g (goal.at.returns-in-Close-clause-later g c).After-next_act

pub returns-in-Close-clause-link_leads : goal.returns-in-Close-clause-link_leads
returns-in-Close-clause-link_leads g c = led g (goal.at.returns-in-Close-clause-link_leads g c).After-next_act

pub returns-in-Close-clause-told : goal.returns-in-Close-clause-told
returns-in-Close-clause-told g c after tells =
    let at = goal.at.returns-in-Close-clause-told g c in
    let i = c.pages.invariant in
    let here = c.pages.here in
    let pin = c.in-Close.pin in
    let read = c.in-Ok.ensures.act in
    let closed = closed_taken here c.pages.sofar read.0 pin (sym read.2 ∙ c.in-Close.is) in
    let last = c.in-Ok.ensures.told after tells in
    let from = i.told last.0 last.1 in (
      from.0,
      from.1,
      asks_trans from.2 last.2,
      λ ready may.
          let sofar_told = from.3 ready may in
          let own = last.3 (from.2.ready ready) in
          record {
            whole = closed_tells from.0.hub last.0 after (g.met.L.Link.is_hub c.pages.link last.0 last.1)
                last.2.moved.grew
                c.args.by.token.now c.args.place here c.pages.sofar (number c.args.by.run c.next_act.new.count) own.0
                (some g at.In-Ok) (few g at.In-Ok) (came g at.In-Ok) sofar_told.0 own.1 i.kind pin
                (sym c.in-Close.is ∙ own.2);
            cause = tt;
            gone = tt;
            bound = bounded g at.After-next_act from.0.hub last.0.hub after.hub last.2.moved.grew sofar_told.0
                sofar_told.1
                (Ok (delta.Closed pin)) (λ v e. pin_is here.pin v pin closed.pinned e);
          },
    )

pub returns-in-Close-clause-asks : goal.returns-in-Close-clause-asks
returns-in-Close-clause-asks g c = sends g (goal.at.returns-in-Close-clause-asks g c).In-Ok _

-- ---- any other act

pub returns-in_default-clause-cause : goal.returns-in_default-clause-cause
returns-in_default-clause-cause g c =
    let i = c.pages.invariant in
    let read = c.in-Ok.ensures.act in
    Given (record {
      sofar = c.pages.sofar;
      here = c.pages.here;
      reply = read.0;
      own = read.1;
      shown = i.held;
      come = i.entries.come;
      kind = i.kind;
      base = i.base;
      limit = i.limit;
      pin = i.asked_for;
      given = c.ending.ensures ∙ (λ k. ending_of (read.2 k) c.pages.here (c.count.ensures.count k));
    })

pub returns-in_default-clause-count : goal.returns-in_default-clause-count
returns-in_default-clause-count g c = counted g (goal.at.returns-in_default-clause-count g c).After-next_act

pub returns-in_default-clause-asked : goal.returns-in_default-clause-asked
returns-in_default-clause-asked g c = asked g (goal.at.returns-in_default-clause-asked g c).After-next_act

pub returns-in_default-clause-later : goal.returns-in_default-clause-later
returns-in_default-clause-later g c = later g (goal.at.returns-in_default-clause-later g c).After-next_act

pub returns-in_default-clause-link_leads : goal.returns-in_default-clause-link_leads
returns-in_default-clause-link_leads g c = led g (goal.at.returns-in_default-clause-link_leads g c).After-next_act

pub returns-in_default-clause-told : goal.returns-in_default-clause-told
returns-in_default-clause-told g c after tells =
    let at = goal.at.returns-in_default-clause-told g c in
    let here = c.pages.here in
    let token = c.args.by.token.now in
    let act = c.in-Ok.act in
    let offset = c.count.result in
    let is = sym c.ending.ensures in
    let read = c.in-Ok.ensures.act in
    let gone : GoneAt here.pin act = subst (GoneAt here.pin) (sym read.2) (gone_at here c.pages.sofar read.0) in
    let last = c.in-Ok.ensures.told after tells in
    let from = c.pages.invariant.told last.0 last.1 in (
      from.0,
      from.1,
      asks_trans from.2 last.2,
      λ ready may.
          let sofar_told = from.3 ready may in
          let own = last.3 (from.2.ready ready) in
          let ends = ends_not act c.in_default.not-Take c.in_default.not-Close in
          let told = ends_tell from.0.hub last.0 after (g.met.L.Link.is_hub c.pages.link last.0 last.1)
          last.2.moved.grew token c.args.place here c.pages.sofar (number c.args.by.run c.next_act.new.count) own.0
          (some g at.In-Ok) (few g at.In-Ok) (came g at.In-Ok) sofar_told.0 own.1 act own.2 ends offset
          c.count.ensures.count in
          let pinned : (v : ℕ) → here.pin ≡ Some v → IsPinFrom c.args.place.pin from.0.hub v = λ v e.
          sofar_told.0.pin v (subst (λ o. IsPinFrom o last.0.hub v) (sym e) refl) in
          record {
            whole = tt;
            cause = subst (λ (a : DeltaAnswer). DeltaTold token from.0 after a) is
                (told_more token from.0 last.0 after _ (from.2).moved told);
            gone = subst (λ (a : DeltaAnswer). GonePin c.args.place.pin from.0.hub a) is
                (ending_gone c.args.place.pin from.0.hub act here offset pinned gone);
            bound = bounded g at.After-next_act from.0.hub last.0.hub after.hub last.2.moved.grew sofar_told.0
                sofar_told.1
                (Err c.ending.result)
                (λ v e. subst (λ (a : DeltaAnswer). NamesPin a v) is (ending_names act here offset v e gone));
          },
    )

pub returns-in_default-clause-asks : goal.returns-in_default-clause-asks
returns-in_default-clause-asks g c = sends g (goal.at.returns-in_default-clause-asks g c).In-Ok _
