use Rattle.std.proofs.Common.{◌≡◌, ◌∙◌, ap, sym, take}
use Rattle.std.proofs.lemmas.List.{take-map}
use Rattle.std.proofs.lemmas.List.Elements.{All-take}
use Rattle.query_pages.specs.Placed.{row_of, rows_placed}
use Rattle.query_pages.specs.Sortings.{sorting_shown}
use Rattle.query_pages.specs.declared.in_order.Placed.{Placed}
use Rattle.query_pages.proofs.in_order.cut.Goals as goal

pub returns-clause-rows : goal.returns-clause-rows
returns-clause-rows c = ap rows_placed c.truncate.ensures.items ∙ sym (take-map row_of c.args.count c.sort.new.rows.items) ∙ ap (take c.args.count) c.in_ok-sort.ensures.rows

pub returns-clause-keys : goal.returns-clause-keys
returns-clause-keys c =
    rw c.truncate.ensures.items (All-take (λ (p : Placed). p.key ≡ (sorting_shown c.args.sorting).key p.row.now) c.args.count c.sort.new.rows.items c.in_ok-sort.ensures.keys)
