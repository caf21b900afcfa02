use Rattle.std.proofs.Common.{arith, drop, length, map, take, sym, ap, ◌∙◌}
use Rattle.std.proofs.lemmas.List.{drop-map, length-drop, length-map, length-take, take_rest}
use Rattle.consumer_deltas.proofs.staged.page_from.Goals as goal

pub returns-clause-rows : goal.returns-clause-rows
returns-clause-rows c =
    c.first_rows.ensures.rows ∙ ap (λ rows. take 1000 (map (λ row. row.now) rows)) (take_rest c.args.rows.now c.args.from) ∙ ap (take 1000) (sym (drop-map (λ row. row.now) c.args.from c.args.rows.now))

pub returns-clause-count : goal.returns-clause-count
returns-clause-count c =
    let many = length-map c.first_rows.result.now (λ row. row.now) in
    let rows = ap length (c.first_rows.ensures.rows ∙ ap (λ rows. take 1000 (map (λ row. row.now) rows)) (take_rest c.args.rows.now c.args.from)) in
    let part = length-take 1000 (map (λ row. row.now) (drop c.args.from c.args.rows.now)) in
    let left = length-map (drop c.args.from c.args.rows.now) (λ row. row.now) in
    omega (arith, many, rows, part, left, length-drop c.args.from c.args.rows.now)
