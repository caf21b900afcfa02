use Rattle.std.proofs.Common.{◌<◌, length}
use Rattle.row_json.proofs.guess.fill_cells.Given as goal

abbrev pub invariant-loop-place : goal.invariant-loop-place
invariant-loop-place l = length l.reader < length l.fn.reader
