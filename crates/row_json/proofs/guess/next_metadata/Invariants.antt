use Rattle.std.proofs.Common.{◌<◌, length}
use Rattle.row_json.proofs.guess.next_metadata.Given as goal

abbrev pub invariant-entries : goal.invariant-entries
invariant-entries l = length l.reader < length l.fn.reader

abbrev pub decreases-entries : goal.decreases-entries
decreases-entries l = length l.reader
