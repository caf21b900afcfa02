use Rattle.std.proofs.Common.{◌<◌, length}
use Rattle.row_json.proofs.guess.next_list.Given as goal

abbrev pub invariant-items : goal.invariant-items
invariant-items l = length l.reader < length l.fn.reader

abbrev pub decreases-items : goal.decreases-items
decreases-items l = length l.reader
