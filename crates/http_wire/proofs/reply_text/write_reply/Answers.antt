use Rattle.std.proofs.lemmas.Result.{err_from_is_err_and}
use Rattle.http_wire.specs.Replies.{body_text, head_text}
use Rattle.outside_ports.proofs.Appending.{part_front, writes_then}
use Rattle.http_wire.proofs.WriteLemmas.{whole_part, whole_written}
use Rattle.http_wire.proofs.reply_text.write_reply.Goals as goal

pub returns-in_err-write_head-clause-bytes : goal.returns-in_err-write_head-clause-bytes
returns-in_err-write_head-clause-bytes g c =
    let p = err_from_is_err_and c.from_residual.result c.from_residual.ensures.1 in rw p.1
    (whole_part _ _ c.args.reply.now (part_front _ _ (head_text c.args.reply.now) (body_text c.args.reply.now) c.in_err-write_head.ensures.bytes))

pub returns-clause-bytes : goal.returns-clause-bytes
returns-clause-bytes g c =
    whole_written _ _ c.args.reply.now _ (writes_then _ _ _ (head_text c.args.reply.now) (body_text c.args.reply.now) _ c.in_ok-write_head.ensures.bytes c.write_body.ensures.bytes)
