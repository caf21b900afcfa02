use Rattle.std.proofs.Common.{◌++◌}
use Rattle.std.proofs.lemmas.Result.{err_from_is_err_and}
use Rattle.http_wire.specs.Replies.{end_text, echo_line, close_line, length_line, line_end}
use Rattle.outside_ports.proofs.Appending.{part_behind, part_front, writes_then}
use Rattle.http_wire.proofs.reply_text.write_end.Goals as goal

pub returns-in_err-write_echo_line-clause-bytes : goal.returns-in_err-write_echo_line-clause-bytes
unfolding end_text
returns-in_err-write_echo_line-clause-bytes g c =
    let p = err_from_is_err_and c.from_residual.result c.from_residual.ensures.1 in rw p.1
    (part_front _ _ (echo_line c.args.reply.now.echo) ((close_line c.args.reply.now.close) ++ ((length_line c.args.reply.now) ++ line_end)) c.in_err-write_echo_line.ensures.bytes)

pub returns-in_err-write_close_line-clause-bytes : goal.returns-in_err-write_close_line-clause-bytes
unfolding end_text
returns-in_err-write_close_line-clause-bytes g c =
    let p = err_from_is_err_and c.from_residual-in_err-write_close_line.result c.from_residual-in_err-write_close_line.ensures.1 in rw p.1
    (part_behind _ _ _ (echo_line c.args.reply.now.echo) ((close_line c.args.reply.now.close) ++ ((length_line c.args.reply.now) ++ line_end)) c.in_ok-write_echo_line.ensures.bytes (part_front _ _ (close_line c.args.reply.now.close) ((length_line c.args.reply.now) ++ line_end) c.in_err-write_close_line.ensures.bytes))

pub returns-in_err-write_length_line-clause-bytes : goal.returns-in_err-write_length_line-clause-bytes
unfolding end_text
returns-in_err-write_length_line-clause-bytes g c =
    let p = err_from_is_err_and c.from_residual-in_err-write_length_line.result c.from_residual-in_err-write_length_line.ensures.1 in rw p.1
    (part_behind _ _ _ (echo_line c.args.reply.now.echo) ((close_line c.args.reply.now.close) ++ ((length_line c.args.reply.now) ++ line_end)) c.in_ok-write_echo_line.ensures.bytes (part_behind _ _ _ (close_line c.args.reply.now.close) ((length_line c.args.reply.now) ++ line_end) c.in_ok-write_close_line.ensures.bytes (part_front _ _ (length_line c.args.reply.now) line_end c.in_err-write_length_line.ensures.bytes)))

pub returns-clause-bytes : goal.returns-clause-bytes
unfolding end_text
returns-clause-bytes g c =
    writes_then _ _ _ (echo_line c.args.reply.now.echo) ((close_line c.args.reply.now.close) ++ ((length_line c.args.reply.now) ++ line_end)) _ c.in_ok-write_echo_line.ensures.bytes (writes_then _ _ _ (close_line c.args.reply.now.close) ((length_line c.args.reply.now) ++ line_end) _ c.in_ok-write_close_line.ensures.bytes (writes_then _ _ _ (length_line c.args.reply.now) line_end _ c.in_ok-write_length_line.ensures.bytes (c.write_all.ensures.bytes)))
