use Rattle.std.proofs.Common.{codes}
use Rattle.std.proofs.lemmas.Result.{err_from_is_err_and}
use Rattle.http_wire.specs.Replies.{link_text}
use Rattle.outside_ports.proofs.Appending.{part_front, writes_then}
use Rattle.http_wire.proofs.reply_text.write_next_link.Goals as goal

pub returns-in_err-write_all-clause-bytes : goal.returns-in_err-write_all-clause-bytes
returns-in_err-write_all-clause-bytes g c =
    let p = err_from_is_err_and c.from_residual.result c.from_residual.ensures.1 in rw p.1
    (part_front _ _ (codes ", <") (link_text c.args.link.now) c.in_err-write_all.ensures.bytes)

pub returns-clause-bytes : goal.returns-clause-bytes
returns-clause-bytes g c =
    writes_then _ _ _ (codes ", <") (link_text c.args.link.now) _ c.in_ok-write_all.ensures.bytes (c.write_link.ensures.bytes)
