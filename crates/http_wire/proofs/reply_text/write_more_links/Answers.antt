use Rattle.std.proofs.Common.{subst}
use Rattle.std.proofs.lemmas.Result.{err_from_is_err_and}
use Rattle.status_info.specs.declared.reply.LinkItem.{LinkItem}
use Rattle.outside_ports.specs.Written.{AppendsPart}
use Rattle.http_wire.specs.Replies.{further_link}
use Rattle.http_wire.proofs.WriteLemmas.{part_at_item}
use Rattle.http_wire.proofs.reply_text.write_more_links.Goals as goal

pub returns-in_err-write_next_link-clause-bytes : goal.returns-in_err-write_next_link-clause-bytes
returns-in_err-write_next_link-clause-bytes g c =
    let p = err_from_is_err_and c.from_residual.result c.from_residual.ensures.1 in
    let Part : LinkItem → Type 0 = λ link. AppendsPart (g.W.Sink.written c.loop-link.sink) (g.W.Sink.written c.write_next_link.new.sink) (further_link link) in
    rw p.1 (part_at_item further_link c.args.links.now c.loop-link.link-index c.link-item.result _ _ _ c.loop-link-test.true c.loop-link.invariant.bytes
    (subst Part c.link-item.is c.in_err-write_next_link.ensures.bytes))
