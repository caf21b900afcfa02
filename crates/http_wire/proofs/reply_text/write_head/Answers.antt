use Rattle.std.proofs.Common.{List, ℕ, ◌++◌}
use Rattle.std.proofs.lemmas.Result.{err_from_is_err_and}
use Rattle.status_info.specs.declared.reply.Reply.{Reply}
use Rattle.http_wire.specs.Replies.{front_text, links_line, warning_line, versions_text, end_text}
use Rattle.outside_ports.proofs.Appending.{part_behind, part_front, writes_then}
use Rattle.http_wire.proofs.reply_text.write_head.Goals as goal

-- what stands in the head behind each of its parts
module _ (reply : Reply) where
  abbrev behind_warning : List ℕ
  behind_warning = versions_text reply ++ end_text reply

  abbrev behind_links : List ℕ
  behind_links = warning_line reply.warnings ++ behind_warning

  abbrev behind_front : List ℕ
  behind_front = links_line reply.links ++ behind_links

pub returns-in_err-write_front-clause-bytes : goal.returns-in_err-write_front-clause-bytes
returns-in_err-write_front-clause-bytes g c =
    let reply = c.args.reply.now in
    let p = err_from_is_err_and c.from_residual.result c.from_residual.ensures.1 in
    rw p.1 (part_front _ _ (front_text reply) (behind_front reply) c.in_err-write_front.ensures.bytes)

pub returns-in_err-write_links-clause-bytes : goal.returns-in_err-write_links-clause-bytes
returns-in_err-write_links-clause-bytes g c =
    let reply = c.args.reply.now in
    let residual = c.from_residual-in_err-write_links in
    let p = err_from_is_err_and residual.result residual.ensures.1 in
    rw p.1
    (part_behind _ _ _ (front_text reply) (behind_front reply) c.in_ok-write_front.ensures.bytes
    (part_front _ _ (links_line reply.links) (behind_links reply)
    (rw c.as_slice.ensures at c.in_err-write_links.ensures.bytes)))

pub returns-in_err-write_warning_line-clause-bytes : goal.returns-in_err-write_warning_line-clause-bytes
returns-in_err-write_warning_line-clause-bytes g c =
    let reply = c.args.reply.now in
    let residual = c.from_residual-in_err-write_warning_line in
    let p = err_from_is_err_and residual.result residual.ensures.1 in
    rw p.1
    (part_behind _ _ _ (front_text reply) (behind_front reply) c.in_ok-write_front.ensures.bytes
    (part_behind _ _ _ (links_line reply.links) (behind_links reply)
    (rw c.as_slice.ensures at c.in_ok-write_links.ensures.bytes)
    (part_front _ _ (warning_line reply.warnings) (behind_warning reply) c.in_err-write_warning_line.ensures.bytes)))

pub returns-in_err-write_versions-clause-bytes : goal.returns-in_err-write_versions-clause-bytes
returns-in_err-write_versions-clause-bytes g c =
    let reply = c.args.reply.now in
    let residual = c.from_residual-in_err-write_versions in
    let p = err_from_is_err_and residual.result residual.ensures.1 in
    rw p.1
    (part_behind _ _ _ (front_text reply) (behind_front reply) c.in_ok-write_front.ensures.bytes
    (part_behind _ _ _ (links_line reply.links) (behind_links reply)
    (rw c.as_slice.ensures at c.in_ok-write_links.ensures.bytes)
    (part_behind _ _ _ (warning_line reply.warnings) (behind_warning reply) c.in_ok-write_warning_line.ensures.bytes
    (part_front _ _ (versions_text reply) (end_text reply) c.in_err-write_versions.ensures.bytes))))

pub returns-clause-bytes : goal.returns-clause-bytes
returns-clause-bytes g c =
    let reply = c.args.reply.now in
    writes_then _ _ _ (front_text reply) (behind_front reply) _ c.in_ok-write_front.ensures.bytes
    (writes_then _ _ _ (links_line reply.links) (behind_links reply) _
    (rw c.as_slice.ensures at c.in_ok-write_links.ensures.bytes)
    (writes_then _ _ _ (warning_line reply.warnings) (behind_warning reply) _ c.in_ok-write_warning_line.ensures.bytes
    (writes_then _ _ _ (versions_text reply) (end_text reply) _ c.in_ok-write_versions.ensures.bytes
    c.write_end.ensures.bytes)))
