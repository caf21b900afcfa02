use Rattle.std.proofs.Common.{rules, ◌<◌, ◌^◌, subst, ◌∙◌}
use Rattle.keeper_sqlite.specs.hub.Rows.{TellBase, TellChange}
use Rattle.keeper_sqlite.proofs.RowsLemmas.{base_in_spans, laid_later}
use Rattle.keeper_sqlite.proofs.hub.rows.base_rows.Goals as goal

pub returns-in-Some-in_order-clause-rows : goal.returns-in-Some-in_order-clause-rows
returns-in-Some-in_order-clause-rows g c m base stands back numbers told sure =
    let small : c.args.number < 2 ^ 64 = search rules in
    let there = subst (λ laid. TellBase laid m base) c.in-Spans.is told in
    let read = c.in_ok-rows-in-Spans.ensures.read m stands sure in
    c.in-Some-in_order.ensures ∙ base_in_spans m base c.args.number c.in_ok-rows-in-Spans.field-0.rows.items small numbers back there read.rows

pub returns-in-Some-in_order-clause-later : goal.returns-in-Some-in_order-clause-later
returns-in-Some-in_order-clause-later g c m stands sure change lt told =
    let there = subst (λ laid. TellChange laid m change) c.in-Spans.is told in
    let read = c.in_ok-rows-in-Spans.ensures.read m stands sure in
    laid_later m c.args.number c.in_ok-rows-in-Spans.field-0.later read.later change lt there
