use Rattle.std.proofs.Common.{sym}
use Rattle.std.proofs.lemmas.Bool.Decides.{same_from_decides}
use Rattle.row_deltas.proofs.SameLemmas.{row_decides}
use Rattle.row_deltas.specs.Sameness.{same_row}
use Rattle.bulk_export.proofs.changes.is_same.Goals as goal

pub returns : goal.returns
returns c = sym (same_from_decides (same_row c.args.one.now c.args.other.now) c.is_same.result (row_decides c.args.one.now c.args.other.now) c.is_same.ensures)
