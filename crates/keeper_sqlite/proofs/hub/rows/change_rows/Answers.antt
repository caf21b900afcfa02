use Rattle.std.proofs.Common.{rules, ◌<◌, ◌^◌, subst, ◌∙◌}
use Rattle.span_format.specs.Format.{spans_from}
use Rattle.keeper_sqlite.specs.hub.Rows.{TellLater}
use Rattle.keeper_sqlite.proofs.RowsLemmas.{change_in_spans}
use Rattle.keeper_sqlite.proofs.hub.rows.change_rows.Goals as goal

pub returns-in-Some-2-clause-rows : goal.returns-in-Some-2-clause-rows
returns-in-Some-2-clause-rows g c m change stands back versions told sure =
    let small : c.args.version < 2 ^ 64 = search rules in
    let there = subst (λ laid. TellLater laid m change) c.in-Laid.is told in
    let found = change_in_spans c.in-Laid.laid c.laid_in.result.now m change c.args.version small versions c.laid_in.ensures back there in
    (rw c.in-Some-2.is at (c.in_ok-rows-in-Laid.ensures (spans_from c.args.version change.rows) found.0 found.1)) ∙ found.2
