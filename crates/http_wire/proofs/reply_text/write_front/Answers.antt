use Rattle.std.proofs.Common.{codes}
use Rattle.std.proofs.lemmas.Result.{err_from_is_err_and}
use Rattle.http_wire.specs.Replies.{front_text, number_line, start_text}
use Rattle.outside_ports.proofs.Appending.{part_front, writes_then}
use Rattle.http_wire.proofs.reply_text.write_front.Goals as goal

pub returns-in_err-write_start-clause-bytes : goal.returns-in_err-write_start-clause-bytes
unfolding front_text
returns-in_err-write_start-clause-bytes g c =
    let r = c.args.reply.now in
    let p = err_from_is_err_and c.from_residual.result c.from_residual.ensures.1 in rw p.1
    (part_front _ _ (start_text r.cause r.allow_write) (number_line (codes "X-Total-Count: ") r.total) c.in_err-write_start.ensures.bytes)

pub returns-clause-bytes : goal.returns-clause-bytes
unfolding front_text
returns-clause-bytes g c =
    let r = c.args.reply.now in
    writes_then _ _ _ (start_text r.cause r.allow_write) (number_line (codes "X-Total-Count: ") r.total) _ c.in_ok-write_start.ensures.bytes
    c.write_number_line.ensures.bytes
