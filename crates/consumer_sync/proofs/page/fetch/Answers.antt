use Rattle.std.proofs.Common.{◌≡◌, ◌∙◌, ap, subst}
use Rattle.status_info.specs.declared.request.Request.{Request}
use Rattle.exchange_link.proofs.AskLemmas.{asks_refl, asks_weaker}
use Rattle.exchange_link.proofs.AskedLemmas.{sends_refl}
use Rattle.exchange_link.specs.Asked.{IsTry, SendsOn}
use Rattle.exchange_link.specs.declared.asking.Outcome.TheVariants as outcome
use Rattle.exchange_link.specs.Owning.{IsOwnRead}
use Rattle.exchange_link.specs.Requests.{IfOwn, IsNumbered, number, numbered}
use Rattle.consumer_sync.specs.Requests.{IsUnmarked}
use Rattle.consumer_sync.proofs.page.fetch.Goals as goal

pub returns-in-Err-clause-told : goal.returns-in-Err-clause-told
returns-in-Err-clause-told g c after tells = (after, tells, asks_refl c.args.by.run c.args.count.now IsUnmarked after, λ ready. tt)

pub returns-in-Ok-clause-told : goal.returns-in-Ok-clause-told
returns-in-Ok-clause-told g c after tells =
    let y = c.ask.ensures.told after tells in
    let is = c.in-Ok.ensures.request in (
      y.0,
      y.1,
      asks_weaker _ _ _ (IsNumbered c.in-Ok.request) IsUnmarked _ _ (λ q n. ap (λ (p : Request). p.mark) n.1 ∙ ap (λ (p : Request). p.mark) is) y.2,
      λ ready. subst (λ (q : Request). IfOwn c.ask.result (λ w. IsOwnRead y.0 after (numbered q (number c.args.by.run c.ask.new.count)) w)) is (y.3 ready),
    )

pub returns-in-Err-clause-asks : goal.returns-in-Err-clause-asks
returns-in-Err-clause-asks g c after tells = (after, tells, sends_refl _ c.args.by.run c.args.count.now _ after.sent)

pub returns-in-Ok-clause-asks : goal.returns-in-Ok-clause-asks
returns-in-Ok-clause-asks g c after tells =
    let y = c.ask.ensures.asks after tells in
    (y.0, y.1, subst (λ (q : Request). SendsOn (IsTry (numbered q)) c.args.by.run c.args.count.now c.ask.new.count (c.ask.result ≡ outcome.NoMemory) y.0.sent after.sent) c.in-Ok.ensures.request y.2)

pub returns-in-Err-clause-link_leads : goal.returns-in-Err-clause-link_leads
returns-in-Err-clause-link_leads g c = g.met.L.Link.stays _
