use Rattle.std.proofs.Common.{ℕ, List, ◌++◌, codes}
use Rattle.http_wire.specs.Replies.{echo_line, line_end, number_line}
use Rattle.http_wire.specs.Sending.{mark_number, path_text, put_length, query_text, token_line, verb_text}
use Rattle.http_wire.proofs.WriteLemmas.{grown}
use Rattle.http_wire.proofs.request_text.send.Goals as goal

pub returns : goal.returns
returns c =
    let r = c.args.request.now in
    let mark = number_line (codes "X-Hub-Mark: ") (mark_number r.mark) in
    let length = number_line (codes "Content-Length: ") (put_length r.verb r.body) in
    let body : List ℕ = line_end ++ r.body in
    let stated : List ℕ = length ++ body in
    let echo : List ℕ = echo_line r.echo ++ stated in
    let marked : List ℕ = mark ++ echo in
    let token : List ℕ = token_line r.token ++ marked in
    let query : List ℕ = query_text r.query ++ token in
    grown c.args.text.now.bytes.items (verb_text r.verb) (path_text r.path r.query ++ query) c.in_ok-write_verb.ensures.bytes
    (grown c.write_verb.new.sink.bytes.items (path_text r.path r.query) query (rw (c.as_str.ensures, c.as_str-2.ensures) at c.in_ok-write_path.ensures.bytes)
    (grown c.write_path.new.sink.bytes.items (query_text r.query) token (rw c.as_str-3.ensures at c.in_ok-write_query.ensures.bytes)
    (grown c.write_query.new.sink.bytes.items (token_line r.token) marked c.in_ok-write_token_line.ensures.bytes
    (grown c.write_token_line.new.sink.bytes.items mark echo c.in_ok-write_mark.ensures.bytes
    (grown c.write_mark.new.sink.bytes.items (echo_line r.echo) stated c.in_ok-write_echo_line.ensures.bytes
    (grown c.write_echo_line.new.sink.bytes.items length body (rw c.as_slice.ensures at c.in_ok-write_put_length.ensures.bytes)
    (grown c.write_put_length.new.sink.bytes.items line_end r.body c.in_ok-write_all.ensures.bytes (rw c.as_slice-2.ensures at c.in_ok-write_all-2.ensures.bytes))))))))
