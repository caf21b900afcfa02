use Rattle.std.proofs.Common.{◌∙◌, ap, arith, length}
use Rattle.std.proofs.lemmas.List.{length-map, length-take, map-append}
use Rattle.std.proofs.lemmas.Result.{on_ok_weaker}
use Rattle.query_pages.proofs.Firsts.{first_again}
use Rattle.query_pages.specs.Firsts.{first}
use Rattle.query_pages.specs.Placed.{row_of, rows_placed}
use Rattle.query_pages.specs.Sortings.{sorting_shown}
use Rattle.filter_grammar.specs.rows.Orders.{arranged}
use Rattle.query_pages.proofs.in_order.add.Goals as goal

pub returns-clause-rows : goal.returns-clause-rows
returns-clause-rows c =
    let sorting = sorting_shown c.args.sorting in
    let old = c.args.found.now.items in
    let firsts = first c.args.count sorting in
    on_ok_weaker c.cut.result (λ cut.
    ap firsts cut
    ∙ first_again sorting c.args.count (rows_placed c.push.new.self.items)
    ∙ ap (λ ps. firsts (rows_placed ps)) c.in_ok-push.ensures.items
    ∙ ap firsts (map-append row_of old _)) c.cut.ensures.rows

pub returns-clause-few : goal.returns-clause-few
returns-clause-few c =
    let whole = arranged (sorting_shown c.args.sorting) (rows_placed c.push.new.self.items) in
    on_ok_weaker c.cut.result (λ cut. omega (arith, ap length cut, length-map c.cut.new.rows.items row_of, length-take c.args.count whole)) c.cut.ensures.rows
