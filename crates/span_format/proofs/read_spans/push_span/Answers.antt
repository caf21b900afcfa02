use Rattle.std.proofs.Common.{rules, ◌≡◌, ◌∷◌, ◌++◌, [], ◌<◌, ◌^◌, sym, ap, ◌∙◌}
use Rattle.hub_format.specs.Format.{Entry}
use Rattle.hub_format.specs.Pieces.{row_body}
use Rattle.span_format.specs.Format.{span_key, span_label}
use Rattle.span_format.proofs.SpanReading.{same_key, within_is}
use Rattle.span_format.proofs.read_spans.push_span.Goals as goal

pub returns-then-not-is_within-clause-taken : goal.returns-then-not-is_within-clause-taken
returns-then-not-is_within-clause-taken c s fits same within =
    let small : c.in-Some.first < 2 ^ 64 = search rules in
    let label = sym c.as_slice.ensures ∙ c.in-Some.ensures in
    let is = within_is c.args.low c.args.high c.in-Some.first c.in-Some.key.now c.args.item.now.label small label in
    let test = sym is ∙ within in
    absurd cc

pub returns-in_ok-push-in-Some-2-clause-other : goal.returns-in_ok-push-in-Some-2-clause-other
returns-in_ok-push-in-Some-2-clause-other c off done =
    let small : c.in-Some.first < 2 ^ 64 = search rules in
    let label = sym c.as_slice.ensures ∙ c.in-Some.ensures in
    let is = within_is c.args.low c.args.high c.in-Some.first c.in-Some.key.now c.args.item.now.label small label in
    let test = sym is ∙ off in
    absurd cc

pub returns-in_ok-push-in-Some-2-clause-taken : goal.returns-in_ok-push-in-Some-2-clause-taken
returns-in_ok-push-in-Some-2-clause-taken c s fits same within done =
    let label = sym c.as_slice.ensures ∙ c.in-Some.ensures in
    let labels : c.args.item.now.label ≡ span_label (span_key s) s.first = ap (λ (e : Entry). e.0) same in
    let key = same_key c.in-Some.key.now c.args.item.now.label c.in-Some.first s label labels in
    let body : c.as_slice-2.result.now ≡ row_body s.change = c.as_slice-2.ensures ∙ ap (λ (e : Entry). e.1) same in
    let row : c.in-Some-2.row ≡ s.change = rw c.in-Some-2.is at (c.in_ok-row.ensures s.change fits.back key body) in
    c.in_ok-push-in-Some-2.ensures.items ∙ ap (λ r. c.args.found.now.items ++ r ∷ []) row
