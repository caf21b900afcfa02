use Rattle.std.proofs.Common.{◌≤◌, arith, refl, sym, ap, subst}
use Rattle.std.specs.Prelude.{Result, Err}
use Rattle.exchange_link.proofs.AskLemmas.{missed_other, none_other, own_other}
use Rattle.exchange_link.specs.DeltaPages.{delta_page_request}
use Rattle.exchange_link.specs.Owning.{IsOwnRead}
use Rattle.exchange_link.specs.Requests.{number}
use Rattle.consumer_deltas.proofs.DeltaGatherLemmas.{sends_delta}
use Rattle.consumer_deltas.specs.DeltaAnswers.{DeltaTold}
use Rattle.consumer_deltas.specs.DeltaFilling.{IsPinGone}
use Rattle.consumer_deltas.specs.DeltaGathering.{NoReply, NoneCame}
use Rattle.consumer_deltas.specs.DeltaRequests.{page_asked}
use Rattle.consumer_deltas.specs.declared.answer.DeltaAnswer.{DeltaAnswer}
use Rattle.consumer_deltas.specs.declared.judging.DeltaAct.{DeltaAct}
use Rattle.consumer_deltas.proofs.gathering.next_act.Goals as goal

pub returns-in-Ok-clause-act : goal.returns-in-Ok-clause-act
returns-in-Ok-clause-act g c = (c.in-Own.reply, c.in-Own.ensures.own, c.in-Ok.ensures.act)

pub returns-in-Ok-clause-told : goal.returns-in-Ok-clause-told
returns-in-Ok-clause-told g c after tells =
    let y = c.in-Own.ensures.told after tells in (
      y.0,
      y.1,
      y.2,
      λ ready. (
        c.in-Own.reply,
        subst (λ n. IsOwnRead y.0 after (delta_page_request (page_asked c.args.by.token.now c.args.place n) c.args.place.base (number c.args.by.run c.fetch.new.count)) c.in-Own.reply) c.count-offset.ensures.count (y.3 ready),
        c.in-Ok.ensures.act,
      ),
      tt,
    )

pub returns-in-Ok-clause-asks : goal.returns-in-Ok-clause-asks
returns-in-Ok-clause-asks g c after tells =
    let y = c.in-Own.ensures.asks after tells in
    (y.0, y.1, sends_delta c.args.by.token.now c.args.place c.count-offset.result c.args.by.run _ _ _ _ _ _ (λ e. absurd (own_other c.in-Own.reply e)) y.2)

pub returns-in-Own-clause-gone : goal.returns-in-Own-clause-gone
returns-in-Own-clause-gone g c = subst (λ a. IsPinGone a → ⊥) (sym c.ended.ensures) (λ is. is)

pub returns-in-Own-clause-told : goal.returns-in-Own-clause-told
returns-in-Own-clause-told g c after tells =
    let y = c.in-Own.ensures.told after tells in
    (y.0, y.1, y.2, λ ready. tt, subst (λ a. DeltaTold c.args.by.token.now y.0 after a) (sym c.ended.ensures) tt)

pub returns-in-Own-clause-asks : goal.returns-in-Own-clause-asks
returns-in-Own-clause-asks g c after tells =
    let y = c.in-Own.ensures.asks after tells in
    (y.0, y.1, sends_delta c.args.by.token.now c.args.place c.count-offset.result c.args.by.run _ _ _ _ _ _ (λ e. absurd (own_other c.in-Own.reply e)) y.2)

pub returns-in-NoReply-clause-cause : goal.returns-in-NoReply-clause-cause
returns-in-NoReply-clause-cause g c = NoReply c.count-offset.result (c.in-NoReply.ensures.none refl).1 c.ended-in-NoReply.ensures

pub returns-in-NoReply-clause-gone : goal.returns-in-NoReply-clause-gone
returns-in-NoReply-clause-gone g c = subst (λ a. IsPinGone a → ⊥) (sym c.ended-in-NoReply.ensures) (λ is. is)

pub returns-in-NoReply-clause-told : goal.returns-in-NoReply-clause-told
returns-in-NoReply-clause-told g c after tells =
    let y = c.in-NoReply.ensures.told after tells in
    (y.0, y.1, y.2, λ ready. tt, absurd ((c.in-NoReply.ensures.none refl).2 after tells))

pub returns-in-NoReply-clause-asks : goal.returns-in-NoReply-clause-asks
returns-in-NoReply-clause-asks g c after tells =
    let y = c.in-NoReply.ensures.asks after tells in
    (y.0, y.1, sends_delta c.args.by.token.now c.args.place c.count-offset.result c.args.by.run _ _ _ _ _ _ (λ e. absurd (none_other e)) y.2)

pub returns-in-Missed-clause-cause : goal.returns-in-Missed-clause-cause
returns-in-Missed-clause-cause g c =
    let m = c.in-Missed.ensures.missed refl in
    let tried : c.args.by.tries ≤ c.fetch.new.count = omega (arith, m.0) in
    NoneCame c.count-offset.result (m.1, tried, m.2) (λ w own. m.3 w own.text own.number) c.ended-in-Missed.ensures

pub returns-in-Missed-clause-gone : goal.returns-in-Missed-clause-gone
returns-in-Missed-clause-gone g c = subst (λ a. IsPinGone a → ⊥) (sym c.ended-in-Missed.ensures) (λ is. is)

pub returns-in-Missed-clause-told : goal.returns-in-Missed-clause-told
returns-in-Missed-clause-told g c after tells =
    let y = c.in-Missed.ensures.told after tells in
    (y.0, y.1, y.2, λ ready. tt, subst (λ a. DeltaTold c.args.by.token.now y.0 after a) (sym c.ended-in-Missed.ensures) tt)

pub returns-in-Missed-clause-asks : goal.returns-in-Missed-clause-asks
returns-in-Missed-clause-asks g c after tells =
    let y = c.in-Missed.ensures.asks after tells in
    (y.0, y.1, sends_delta c.args.by.token.now c.args.place c.count-offset.result c.args.by.run _ _ _ _ _ _ (λ e. absurd (missed_other e)) y.2)

pub returns-clause-gone : goal.returns-clause-gone
returns-clause-gone g c = subst (λ a. IsPinGone a → ⊥) (sym c.ended-in-NoMemory.ensures) (λ is. is)

pub returns-clause-asks : goal.returns-clause-asks
returns-clause-asks g c after tells =
    let y = c.in-NoMemory.ensures.asks after tells in
    (y.0, y.1, sends_delta c.args.by.token.now c.args.place c.count-offset.result c.args.by.run _ _ _ _ _ _ (λ e. ap (λ (a : DeltaAnswer). let r : Result DeltaAct DeltaAnswer = Err a in r) c.ended-in-NoMemory.ensures) y.2)
