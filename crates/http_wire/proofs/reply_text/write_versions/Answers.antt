use Rattle.std.proofs.Common.{◌++◌, codes}
use Rattle.std.proofs.lemmas.Result.{err_from_is_err_and}
use Rattle.http_wire.specs.Replies.{versions_text, number_line}
use Rattle.outside_ports.proofs.Appending.{part_behind, part_front, writes_then}
use Rattle.http_wire.proofs.reply_text.write_versions.Goals as goal

pub returns-in_err-write_number_line-clause-bytes : goal.returns-in_err-write_number_line-clause-bytes
unfolding versions_text
returns-in_err-write_number_line-clause-bytes g c =
    let p = err_from_is_err_and c.from_residual.result c.from_residual.ensures.1 in rw p.1
    (part_front _ _ (number_line (codes "X-Hub-Version: ") c.args.reply.now.version) ((number_line (codes "X-Hub-Oldest: ") c.args.reply.now.oldest) ++ (number_line (codes "X-Hub-Mark: ") c.args.reply.now.mark)) c.in_err-write_number_line.ensures.bytes)

pub returns-in_err-write_number_line-2-clause-bytes : goal.returns-in_err-write_number_line-2-clause-bytes
unfolding versions_text
returns-in_err-write_number_line-2-clause-bytes g c =
    let p = err_from_is_err_and c.from_residual-in_err-write_number_line-2.result c.from_residual-in_err-write_number_line-2.ensures.1 in rw p.1
    (part_behind _ _ _ (number_line (codes "X-Hub-Version: ") c.args.reply.now.version) ((number_line (codes "X-Hub-Oldest: ") c.args.reply.now.oldest) ++ (number_line (codes "X-Hub-Mark: ") c.args.reply.now.mark)) c.in_ok-write_number_line.ensures.bytes (part_front _ _ (number_line (codes "X-Hub-Oldest: ") c.args.reply.now.oldest) (number_line (codes "X-Hub-Mark: ") c.args.reply.now.mark) c.in_err-write_number_line-2.ensures.bytes))

pub returns-clause-bytes : goal.returns-clause-bytes
unfolding versions_text
returns-clause-bytes g c =
    writes_then _ _ _ (number_line (codes "X-Hub-Version: ") c.args.reply.now.version) ((number_line (codes "X-Hub-Oldest: ") c.args.reply.now.oldest) ++ (number_line (codes "X-Hub-Mark: ") c.args.reply.now.mark)) _ c.in_ok-write_number_line.ensures.bytes (writes_then _ _ _ (number_line (codes "X-Hub-Oldest: ") c.args.reply.now.oldest) (number_line (codes "X-Hub-Mark: ") c.args.reply.now.mark) _ c.in_ok-write_number_line-2.ensures.bytes (c.write_number_line-3.ensures.bytes))
