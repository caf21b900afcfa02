use Rattle.std.proofs.Common.{sym, subst, IsUtf8}
use Rattle.status_info.specs.declared.request.Request.{Request}
use Rattle.http_wire.specs.Sending.{CanSend}
use Rattle.hub_spec.specs.marks.Marked.{mark_of, marked_by}
use Rattle.std.proofs.Common.{◌≡◌, Some}
use Rattle.std.proofs.lemmas.Result.{IfOk-weaker}
use Rattle.exchange_link.specs.Requests.{numbered}
use Rattle.consumer_outbox.proofs.RequestLemmas.{request_can, request_marked}
use Rattle.consumer_outbox.proofs.request.request_for.Goals as goal

pub returns-clause-can : goal.returns-clause-can
returns-clause-can c = IfOk-weaker c.build.result _ _
    (λ q e n echo. subst (λ (r : Request). CanSend (numbered r n)) (sym e)
    (request_can c.args.token.now c.args.entry n c.as_str-token.ensures.good (subst IsUtf8 c.as_str-id.ensures.text c.as_str-id.utf8) c.as_str-id.ensures.good c.requires.write c.requires.number.0 c.requires.number.1 echo)) c.build.ensures

pub returns-clause-read : goal.returns-clause-read
returns-clause-read c = IfOk-weaker c.build.result _ _
    (λ q e n. subst (λ (r : Request). marked_by (numbered r n) ≡ Some (mark_of c.args.entry)) (sym e)
    (request_marked c.args.token.now c.args.entry n (subst IsUtf8 c.as_str-id.ensures.text c.as_str-id.utf8) c.as_str-id.ensures.good c.requires.write)) c.build.ensures
