use Rattle.std.proofs.Common.{◌≡◌}
use Rattle.std.proofs.lemmas.List.Elements.{All-push}
use Rattle.roster_types.specs.Records.{Record}
use Rattle.row_json.proofs.guess.next_rows.Goals as goal

pub rows-preserved : goal.rows-preserved
rows-preserved c =
    let kind : c.in-Some.row.kind ≡ c.args.kind = rw c.in-Some.is at c.in_ok-row.ensures.kind in
    rw c.in_ok-push.ensures.items (All-push (λ (r : Record). r.kind ≡ c.args.kind) _ c.in-Some.row c.rows.invariant kind)
