use Rattle.std.proofs.Common.{◌≡◌, ℕ, List, arith, sym, ap, ◌∙◌, length, drop}
use Rattle.std.proofs.lemmas.Result.{err_from_is_err_and}
use Rattle.http_wire.specs.Answers.{answered, parts_in}
use Rattle.http_wire.proofs.FrontLemmas.{rest_of}
use Rattle.http_wire.proofs.AnswerLemmas.{faulty, fewer_bytes, more_bytes, whole_answer}
use Rattle.http_wire.proofs.reply_reading.behind_head.Goals as goal

pub returns-in_err-length : goal.returns-in_err-length
returns-in_err-length c =
    let p = err_from_is_err_and c.from_residual.result c.from_residual.ensures.1 in
    rw (p.1, p.2) (faulty _ c.requires (sym c.stated_body_length.ensures ∙ c.in_err-length.was))

pub returns-then-after-length : goal.returns-then-after-length
returns-then-after-length c =
    let is = sym c.stated_body_length.ensures ∙ c.in_ok-length.was in
    fewer_bytes c.in_ok-length.length c.requires is
    (omega (arith, ap length (rest_of c.args.spans.len c.args.bytes.now), c.if-after-length.true))

pub returns-then-after-length-2 : goal.returns-then-after-length-2
returns-then-after-length-2 c =
    let is = sym c.stated_body_length.ensures ∙ c.in_ok-length.was in
    more_bytes c.in_ok-length.length c.requires is
    (omega (arith, ap length (rest_of c.args.spans.len c.args.bytes.now), c.if-after-length-2.true))

pub returns : goal.returns
returns c =
    let is = sym c.stated_body_length.ensures ∙ c.in_ok-length.was in
    let rest = rest_of c.args.spans.len c.args.bytes.now in
    let count : length (drop c.args.spans.len c.args.bytes.now) ≡ c.in_ok-length.length =
    omega (arith, ap length rest, c.if-after-length.false, c.if-after-length-2.false) in
    whole_answer c.in_ok-length.length _ c.requires is count
    (c.reply_of.ensures ∙ ap (λ (xs : List ℕ). answered (parts_in c.args.front.now c.args.spans.code c.args.fields.now) xs)
    (c.in_ok-body.ensures ∙ rest))
