use Rattle.std.proofs.Common.{◌≡◌, ◌≤◌, length, min, arith}
use Rattle.http_wire.specs.Answers.{max_reply_head}
use Rattle.http_wire.proofs.AnswerLemmas.{answer_found, head_refused, part_refused}
use Rattle.http_wire.proofs.reply_reading.parse_reply.Goals as goal

pub behind_head-requires : goal.behind_head-requires
behind_head-requires c =
    let small : c.min.result ≤ max_reply_head = omega arith in
    answer_found c.min.result c.args.bytes.now c.parse_response.new.headers c.in-Ok-Complete.spans small (omega (arith, c.parse_response.auto.headers))
    (rw c.in-Ok-Complete.field-0-is at c.in-Ok-Complete.ensures.within) (rw c.in-Ok-Complete.field-0-is at c.in-Ok-Complete.ensures.complete)

pub returns-in-Ok-Partial : goal.returns-in-Ok-Partial
returns-in-Ok-Partial c =
    let is : c.min.result ≡ min (length c.args.bytes.now) max_reply_head = omega arith in
    rw c.fault_of_part.ensures (part_refused c.min.result c.args.bytes.now is
    (rw c.in-Ok-Partial.field-0-is at c.in-Ok-Partial.ensures.partial) (rw c.in-Ok-Partial.field-0-is at c.in-Ok-Partial.ensures.unfinished))

pub returns-in-Err : goal.returns-in-Err
returns-in-Err c = rw c.head_fault.ensures (head_refused c.min.result c.args.bytes.now c.in-Err.error c.in-Err.ensures.invalid c.in-Err.ensures.no_room)
