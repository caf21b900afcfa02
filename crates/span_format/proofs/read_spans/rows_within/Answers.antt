use Rattle.std.proofs.Common.{rules, ◌≡◌, [], IsTrue}
use Rattle.span_format.specs.Reading.{came_within}
use Rattle.span_format.proofs.SpanReading.{all_found, none_found, one_found}
use Rattle.span_format.proofs.read_spans.rows_within.Goals as goal

pub loop-item-init : goal.loop-item-init
loop-item-init c spans fits same =
    let none : c.new-found.result.items ≡ [] = search rules in
    none_found (came_within c.args.low c.args.high) c.args.items.now c.new-found.result.items spans none fits same

pub loop-item-preserved : goal.loop-item-preserved
loop-item-preserved c spans fits same =
    let done : IsTrue c.in_ok-push_span.field-0 = search rules in
    one_found (came_within c.args.low c.args.high) c.args.items.now c.loop-item.item-index c.item-item.result c.loop-item.found.items c.push_span.new.found.items spans c.loop-item-test.true c.item-item.is
    (λ off. c.in_ok-push_span.ensures.other off done) (λ s s_fits entry on. c.in_ok-push_span.ensures.taken s s_fits entry on done) (c.loop-item.invariant spans fits same)

pub returns : goal.returns
returns c spans fits same = all_found (came_within c.args.low c.args.high) c.args.items.now c.loop-item.item-index c.loop-item.found.items spans c.loop-item-test.false (c.loop-item.invariant spans fits same)
