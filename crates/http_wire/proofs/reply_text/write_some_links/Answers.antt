use Rattle.std.proofs.Common.{◌++◌, codes}
use Rattle.std.proofs.lemmas.Result.{err_from_is_err_and}
use Rattle.http_wire.specs.Replies.{some_links, link_text, more_links, line_end}
use Rattle.outside_ports.proofs.Appending.{part_behind, part_front, writes_then}
use Rattle.http_wire.proofs.reply_text.write_some_links.Goals as goal

pub returns-in_err-write_all-clause-bytes : goal.returns-in_err-write_all-clause-bytes
unfolding some_links
returns-in_err-write_all-clause-bytes g c =
    let p = err_from_is_err_and c.from_residual.result c.from_residual.ensures.1 in rw p.1
    (part_front _ _ (codes "Link: <") ((link_text c.args.first.now) ++ ((more_links c.args.rest.now) ++ line_end)) c.in_err-write_all.ensures.bytes)

pub returns-in_err-write_link-clause-bytes : goal.returns-in_err-write_link-clause-bytes
unfolding some_links
returns-in_err-write_link-clause-bytes g c =
    let p = err_from_is_err_and c.from_residual-in_err-write_link.result c.from_residual-in_err-write_link.ensures.1 in rw p.1
    (part_behind _ _ _ (codes "Link: <") ((link_text c.args.first.now) ++ ((more_links c.args.rest.now) ++ line_end)) c.in_ok-write_all.ensures.bytes (part_front _ _ (link_text c.args.first.now) ((more_links c.args.rest.now) ++ line_end) c.in_err-write_link.ensures.bytes))

pub returns-in_err-write_more_links-clause-bytes : goal.returns-in_err-write_more_links-clause-bytes
unfolding some_links
returns-in_err-write_more_links-clause-bytes g c =
    let p = err_from_is_err_and c.from_residual-in_err-write_more_links.result c.from_residual-in_err-write_more_links.ensures.1 in rw p.1
    (part_behind _ _ _ (codes "Link: <") ((link_text c.args.first.now) ++ ((more_links c.args.rest.now) ++ line_end)) c.in_ok-write_all.ensures.bytes (part_behind _ _ _ (link_text c.args.first.now) ((more_links c.args.rest.now) ++ line_end) c.in_ok-write_link.ensures.bytes (part_front _ _ (more_links c.args.rest.now) line_end c.in_err-write_more_links.ensures.bytes)))

pub returns-clause-bytes : goal.returns-clause-bytes
unfolding some_links
returns-clause-bytes g c =
    writes_then _ _ _ (codes "Link: <") ((link_text c.args.first.now) ++ ((more_links c.args.rest.now) ++ line_end)) _ c.in_ok-write_all.ensures.bytes (writes_then _ _ _ (link_text c.args.first.now) ((more_links c.args.rest.now) ++ line_end) _ c.in_ok-write_link.ensures.bytes (writes_then _ _ _ (more_links c.args.rest.now) line_end _ c.in_ok-write_more_links.ensures.bytes (c.write_all-2.ensures.bytes)))
