use Rattle.std.proofs.Common.{◌≡◌, None, length}
use Rattle.http_wire.specs.Reading.{bytes_due}
use Rattle.sync_world.specs.Walks.{Walks}
use Rattle.sync_world.proofs.AskLemmas.{SoFar}
use Rattle.sync_world.proofs.asking.ask.Given as goal

abbrev pub invariant-asking : goal.invariant-asking
invariant-asking l = record { walks : Walks l.fn.world l.world; so_far : SoFar l.at l.fn.bytes l.source l.reader.kept l.taken l.fn.world l.world l.fn.said.items l.said.items; fresh : l.reader.fault ≡ None }

abbrev pub decreases-asking : goal.decreases-asking
decreases-asking l = bytes_due (length l.source) (length l.reader.kept)
