use Rattle.std.proofs.Common.{◌≡◌, length}
use Rattle.std.specs.List.{All}
use Rattle.row_json.proofs.guess.next_rows.Given as goal

abbrev pub invariant-rows : goal.invariant-rows
invariant-rows l = All (λ r. r.kind ≡ l.kind) l.rows.items

abbrev pub decreases-rows : goal.decreases-rows
decreases-rows l = length l.reader
