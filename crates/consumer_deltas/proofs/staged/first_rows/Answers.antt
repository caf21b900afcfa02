use Rattle.std.proofs.Common.{◌≡◌, ◌∙◌, ℕ, ap, arith, length, map, min, take}
use Rattle.consumer_deltas.proofs.DeltaStageLemmas.{cut_shown}
use Rattle.consumer_deltas.proofs.staged.first_rows.Goals as goal

pub returns-clause-rows : goal.returns-clause-rows
returns-clause-rows c =
    let is : c.min.result ≡ min (length c.args.rows.now) c.args.most = omega arith in
    ap (λ (n : ℕ). map (λ row. row.now) (take n c.args.rows.now)) is ∙ cut_shown (λ row. row.now) c.args.most c.args.rows.now
