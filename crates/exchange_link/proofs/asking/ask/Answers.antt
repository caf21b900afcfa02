use Rattle.std.proofs.Common.{arith, ◌≡◌, ◌+◌, ◌<◌, refl, sym, ◌∙◌, ap}
use Rattle.exchange_link.specs.Causes.{IsOwnReply}
use Rattle.exchange_link.specs.Exchanges.{IsTextOf}
use Rattle.http_wire.specs.Sending.{request_text}
use Rattle.status_info.specs.declared.request.Echo.{Echo}
use Rattle.status_info.specs.declared.request.Request.{Request}
use Rattle.exchange_link.specs.Asked.{IsTry}
use Rattle.exchange_link.specs.Requests.{IsNumbered, number, numbered}
use Rattle.exchange_link.proofs.AskLemmas.{asks_on, asks_refl, own_map, missed_other, own_on, sent_last}
use Rattle.exchange_link.proofs.AskedLemmas.{sends_once, sends_refl, sends_trans, sends_weaker}
use Rattle.exchange_link.proofs.asking.ask.Given.{Over}
use Rattle.exchange_link.proofs.asking.ask.Goals.{After-as_slice}
use Rattle.exchange_link.proofs.asking.ask.Goals as goal

pub loop-i-init : goal.loop-i-init
loop-i-init g c = record {
  count = omega arith;
  request = refl;
  missed = omega arith;
  asked = record { least = omega arith; most = omega arith };
  later = omega arith;
  leads = g.met.L.Link.stays _;
  rose = omega arith;
  none = λ p. absurd (omega (arith, p));
  told = λ after tells. (after, tells, asks_refl c.args.run c.args.count.now (IsNumbered c.args.request) after);
  sends = λ after tells. (after, tells, sends_refl (IsTry (numbered c.args.request)) c.args.run c.args.count.now ⊥ after.sent);
  last = λ p. absurd (omega (arith, p));
}

pub returns-in-Err-clause-told : goal.returns-in-Err-clause-told
returns-in-Err-clause-told g c after tells = let so_far = c.loop-i.invariant.told after tells in (so_far.0, so_far.1, so_far.2, λ ready. tt)

pub returns-in-Err-clause-asks : goal.returns-in-Err-clause-asks
returns-in-Err-clause-asks g c after tells =
    let so_far = c.loop-i.invariant.sends after tells in
    (so_far.0, so_far.1, sends_weaker (IsTry (numbered c.args.request)) (IsTry (numbered c.args.request)) _ _ _ ⊥ _ _ _ (λ n q h. h) (λ h. absurd h) so_far.2)

-- what is sent in a turn: the request under the next number, as its text
module _ (g : Over) (c : After-as_slice g) where
  abbrev under : Echo
  under = number c.args.run (c.loop-i.count + 1)

  abbrev sent : Request
  sent = numbered c.args.request under

  same : numbered c.loop-i.request under ≡ sent
  same = ap (λ (q : Request). numbered q under) c.loop-i.invariant.request

  is : IsTextOf sent c.as_slice.result.now
  is = record {
    can = c.requires.can under (
      c.requires.run.0,
      c.requires.run.1,
      omega arith,
      omega (arith, c.requires.few, c.loop-i.invariant.count, c.loop-i-test.true),
    );
    text_is = c.as_slice.ensures.value ∙ c.in-Ok.ensures ∙ ap request_text same;
  }

pub once-requires : goal.once-requires
once-requires g c =
    let here = (goal.at.once-requires g c).After-as_slice in
    (sent g here, is g here, refl)

pub returns-in_default : goal.returns-in_default
returns-in_default g c =
    let here : After-as_slice g = (goal.at.returns-in_default g c).After-as_slice in
    let q : Request = sent g here in
    record {
      count = (omega (arith, c.loop-i.invariant.count), omega (arith, c.loop-i.invariant.count, c.loop-i-test.true));
      asked = record {
        least = omega (arith, c.loop-i.invariant.asked.least, c.once.ensures.asked.least, c.loop-i.invariant.count);
        most = omega (arith, c.loop-i.invariant.asked.most, c.once.ensures.asked.most, c.loop-i.invariant.count);
      };
      later = omega (arith, c.loop-i.invariant.later, c.once.ensures.later);
      link_leads = g.met.L.Link.leads_on _ _ _ c.loop-i.invariant.leads c.once.ensures.link_leads;
      own = own_map c.once.result _ (IsOwnReply (g.L.Link.kept c.once.new.link) c.args.run (c.loop-i.count + 1))
          (λ w own. record { text = own.0; number = own.1; from = omega arith }) c.once.ensures.own;
      none = λ e. let none = c.once.ensures.none e in (omega arith, none.0, none.1);
      missed = λ e. absurd (c.in_default.not-Missed e);
      told = λ after tells.
          let once = c.once.ensures.told q (is g here) after tells in
          let so_far = c.loop-i.invariant.told once.0 once.1 in (
            so_far.0,
            so_far.1,
            asks_on q after refl (omega arith) so_far.2 c.once.result (under g here, refl) once.2,
            λ ready.
                own_on q after refl (omega arith) so_far.2 c.once.result once.2 ready (own_map c.once.result _ _ (λ w own. own.1) c.once.ensures.own),
          );
      last = λ ne after tells.
          let once = c.once.ensures.told q (is g here) after tells in
          sent_last q c.once.result once.0 after once.2 ne;
      asks = λ after tells.
          let once = c.once.ensures.told q (is g here) after tells in
          let so_far = c.loop-i.invariant.sends once.0 once.1 in
          (so_far.0, so_far.1, sends_trans (IsTry (numbered c.args.request)) c.args.run _ c.loop-i.count _ ⊥ _ _ _ _ (λ h. h) so_far.2 (sends_once (IsTry (numbered c.args.request)) c.args.run c.loop-i.count _ q c.once.result once.0 after refl refl once.2));
    }

pub loop-i-preserved : goal.loop-i-preserved
loop-i-preserved g c =
    let here : After-as_slice g = (goal.at.loop-i-preserved g c).After-as_slice in
    let q : Request = sent g here in
    let missed = c.once.ensures.missed c.in-Missed.is in
    record {
      count = omega (arith, c.loop-i.invariant.count);
      request = same g here;
      missed = let r = c.once.ensures.misses.again missed.0 in omega (arith, r, c.loop-i.invariant.missed, c.requires.tries.1, c.loop-i-test.true);
      asked = record {
        least = omega (arith, c.loop-i.invariant.asked.least, c.once.ensures.asked.least);
        most = omega (arith, c.loop-i.invariant.asked.most, c.once.ensures.asked.most);
      };
      later = omega (arith, c.loop-i.invariant.later, c.once.ensures.later);
      leads = g.met.L.Link.leads_on _ _ _ c.loop-i.invariant.leads c.once.ensures.link_leads;
      rose = let r = missed.0 in omega (arith, r, c.loop-i.invariant.rose);
      none = λ p w text echo. missed.1 w text echo;
      told = λ after tells.
          let once = c.once.ensures.told q (is g here) after tells in
          let so_far = c.loop-i.invariant.told once.0 once.1 in (
            so_far.0,
            so_far.1,
            asks_on q after refl (omega arith) so_far.2 c.once.result (under g here, refl) once.2,
          );
      sends = λ after tells.
          let once = c.once.ensures.told q (is g here) after tells in
          let so_far = c.loop-i.invariant.sends once.0 once.1 in
          let one = sends_once (IsTry (numbered c.args.request)) c.args.run c.loop-i.count _ q c.once.result once.0 after refl refl once.2 in (
            so_far.0,
            so_far.1,
            sends_trans (IsTry (numbered c.args.request)) c.args.run _ c.loop-i.count _ ⊥ ⊥ _ _ _ (λ h. h) so_far.2
                (sends_weaker (IsTry (numbered c.args.request)) (IsTry (numbered c.args.request)) _ _ _ _ ⊥ _ _ (λ n q h. h) (λ e. missed_other (sym c.in-Missed.is ∙ e)) one),
          );
      last = λ p after tells.
          let once = c.once.ensures.told q (is g here) after tells in
          sent_last q c.once.result once.0 after once.2 (λ e. missed_other (sym c.in-Missed.is ∙ e));
    }

pub returns-clause-missed : goal.returns-clause-missed
returns-clause-missed g c e =
    let all : c.loop-i.i ≡ c.args.tries = omega (arith, c.loop-i-test.false, c.loop-i.auto.i-end) in
    let some : 0 < c.loop-i.i = omega (arith, all, c.requires.tries.0) in
    (omega (arith, all, c.loop-i.invariant.count), omega (arith, all, c.loop-i.invariant.missed), omega (arith, all, c.loop-i.invariant.rose), c.loop-i.invariant.none some)

pub returns-clause-told : goal.returns-clause-told
returns-clause-told g c after tells = let so_far = c.loop-i.invariant.told after tells in (so_far.0, so_far.1, so_far.2, λ ready. tt)

pub returns-clause-asks : goal.returns-clause-asks
returns-clause-asks g c after tells =
    let so_far = c.loop-i.invariant.sends after tells in
    (so_far.0, so_far.1, sends_weaker (IsTry (numbered c.args.request)) (IsTry (numbered c.args.request)) _ _ _ ⊥ _ _ _ (λ n q h. h) (λ h. absurd h) so_far.2)
