use Rattle.std.proofs.Common.{◌∙◌, ap, map, take}
use Rattle.consumer_deltas.specs.DeltaStaging.{above}
use Rattle.consumer_deltas.proofs.staged.rows_following.Goals as goal

pub returns-clause-rows : goal.returns-clause-rows
returns-clause-rows c =
    let all = map (λ row. row.now) c.args.rows.now in
    let behind = c.rows_above-behind.ensures ∙ ap (λ last. above last all) c.last.ensures in
    c.first_rows.ensures.rows ∙ (λ i. take (c.missing-most.ensures.missing i) (behind i))
