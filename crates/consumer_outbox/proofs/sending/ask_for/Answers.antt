use Rattle.std.proofs.Common.{◌≡◌, ap, subst, ◌∙◌}
use Rattle.hub_spec.specs.marks.Marked.{marked_by}
use Rattle.status_info.specs.declared.request.Request.{Request}
use Rattle.exchange_link.proofs.AskLemmas.{asks_refl, asks_weaker}
use Rattle.exchange_link.proofs.AskedLemmas.{sends_refl}
use Rattle.exchange_link.specs.Asked.{IsTry, SendsOn}
use Rattle.exchange_link.specs.Owning.{IsOwnRead}
use Rattle.exchange_link.specs.declared.asking.Outcome.TheVariants as outcome
use Rattle.exchange_link.specs.Requests.{IfOwn, IsNumbered, number, numbered}
use Rattle.consumer_outbox.specs.Sends.{Carries}
use Rattle.consumer_outbox.proofs.sending.ask_for.Goals as goal

pub returns-in-Err-clause-told : goal.returns-in-Err-clause-told
returns-in-Err-clause-told g c after tells = (after, tells, asks_refl c.args.by.run c.args.count.now (Carries c.args.by.token.now c.args.entry) after, λ ready. tt)

pub returns-in-Ok-clause-told : goal.returns-in-Ok-clause-told
returns-in-Ok-clause-told g c after tells =
    let y = c.ask.ensures.told after tells in
    let is = c.in-Ok.ensures.request in (
      y.0,
      y.1,
      asks_weaker c.args.by.run c.args.count.now c.ask.new.count (IsNumbered c.in-Ok.request) (Carries c.args.by.token.now c.args.entry) y.0 after
          (λ q n. (subst (λ (r : Request). IsNumbered r q) is n, ap marked_by n.1 ∙ c.in-Ok.ensures.read n.0)) y.2,
      λ ready. subst (λ (r : Request). IfOwn c.ask.result (λ w. IsOwnRead y.0 after (numbered r (number c.args.by.run c.ask.new.count)) w)) is (y.3 ready),
    )

pub returns-in-Err-clause-asks : goal.returns-in-Err-clause-asks
returns-in-Err-clause-asks g c after tells = (after, tells, sends_refl _ c.args.by.run c.args.count.now _ after.sent)

pub returns-in-Ok-clause-asks : goal.returns-in-Ok-clause-asks
returns-in-Ok-clause-asks g c after tells =
    let y = c.ask.ensures.asks after tells in
    (y.0, y.1, subst (λ (r : Request). SendsOn (IsTry (numbered r)) c.args.by.run c.args.count.now c.ask.new.count (c.ask.result ≡ outcome.NoMemory) y.0.sent after.sent) c.in-Ok.ensures.request y.2)

pub returns-in-Err-clause-link_leads : goal.returns-in-Err-clause-link_leads
returns-in-Err-clause-link_leads g c = g.met.L.Link.stays _
