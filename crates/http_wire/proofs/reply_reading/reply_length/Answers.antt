use Rattle.std.proofs.Common.{◌≡◌, ◌≤◌, length, take, arith, sym, ◌∙◌}
use Rattle.std.proofs.lemmas.Result.{err_from_is_err_and}
use Rattle.http_wire.specs.Answers.{FindsAnswer, max_reply_head}
use Rattle.http_wire.proofs.AnswerLemmas.{answer_found, faulty, head_refused, length_stated, never_room, never_short}
use Rattle.http_wire.proofs.AnswerLemmas.{never_stated, reply_fits, short_refused}
use Rattle.http_wire.proofs.reply_reading.reply_length.Goals.{After-stated_body_length}
use Rattle.http_wire.proofs.reply_reading.reply_length.Goals as goal

-- the bytes begin with a whole head, and these are its spans
head_found : (c : After-stated_body_length) → FindsAnswer c.args.bytes.now (take c.min.result c.args.bytes.now)
    c.in-Ok-Complete.spans (take c.in-Ok-Complete.spans.headers c.parse_response.new.headers)
head_found c =
    let small : c.min.result ≤ max_reply_head = omega arith in
    answer_found c.min.result c.args.bytes.now c.parse_response.new.headers c.in-Ok-Complete.spans small
    (omega (arith, c.parse_response.auto.headers)) (rw c.in-Ok-Complete.field-0-is at c.in-Ok-Complete.ensures.within)
    (rw c.in-Ok-Complete.field-0-is at c.in-Ok-Complete.ensures.complete)

pub returns-in_err-length-in-Ok-Complete : goal.returns-in_err-length-in-Ok-Complete
returns-in_err-length-in-Ok-Complete c =
    let found = head_found (goal.at.returns-in_err-length-in-Ok-Complete c).After-stated_body_length in
    let p = err_from_is_err_and c.from_residual.result c.from_residual.ensures.1 in
    let states = sym c.stated_body_length.ensures ∙ c.in_err-length-in-Ok-Complete.was in
    rw (p.1, p.2) (never_stated _ found states, faulty _ found states)

pub overflow_add-result : goal.overflow_add-result
overflow_add-result c =
    let found = head_found (goal.at.overflow_add-result c).After-stated_body_length in
    omega (arith, reply_fits _ _ (length_stated c.in_ok-length-in-Ok-Complete.length found (sym c.stated_body_length.ensures ∙ c.in_ok-length-in-Ok-Complete.was)))

pub returns-in_ok-length-in-Ok-Complete : goal.returns-in_ok-length-in-Ok-Complete
returns-in_ok-length-in-Ok-Complete c =
    let found = head_found (goal.at.returns-in_ok-length-in-Ok-Complete c).After-stated_body_length in
    length_stated c.in_ok-length-in-Ok-Complete.length found (sym c.stated_body_length.ensures ∙ c.in_ok-length-in-Ok-Complete.was)

pub returns-else-bytes-lt-MAX_REPLY_HEAD : goal.returns-else-bytes-lt-MAX_REPLY_HEAD
returns-else-bytes-lt-MAX_REPLY_HEAD c =
    let long : max_reply_head ≤ length c.args.bytes.now = omega arith in
    let same : c.min.result ≡ max_reply_head = omega arith in
    let none = rw c.in-Ok-Partial.field-0-is at c.in-Ok-Partial.ensures.partial in
    (never_short c.min.result c.args.bytes.now same long none, short_refused c.min.result c.args.bytes.now same long none)

pub returns-in-Err : goal.returns-in-Err
returns-in-Err c =
    rw c.head_fault.ensures (
      never_room c.min.result c.args.bytes.now c.in-Err.ensures.no_room,
      head_refused c.min.result c.args.bytes.now c.in-Err.error c.in-Err.ensures.invalid c.in-Err.ensures.no_room,
    )
