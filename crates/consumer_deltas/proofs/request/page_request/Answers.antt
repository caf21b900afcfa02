use Rattle.std.proofs.Common.{sym, subst}
use Rattle.http_wire.specs.Sending.{CanSend}
use Rattle.status_info.specs.declared.request.Request.{Request}
use Rattle.exchange_link.specs.Requests.{numbered}
use Rattle.consumer_deltas.proofs.DeltaPageLemmas.{can_ask}
use Rattle.consumer_deltas.specs.DeltaRequests.{page_asked}
use Rattle.consumer_deltas.proofs.request.page_request.Goals as goal

pub returns-clause-can : goal.returns-clause-can
returns-clause-can c n echo = subst (λ (q : Request). CanSend (numbered q n)) (sym c.in_ok-request.ensures)
    (can_ask (page_asked c.args.token.now c.args.place c.args.offset) c.args.place.base c.as_str-good.ensures.good c.requires.limit c.ranges.offset.fits c.requires.base c.requires.pin n echo)
