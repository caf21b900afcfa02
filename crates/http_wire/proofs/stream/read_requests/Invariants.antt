use Rattle.std.proofs.Common.{◌≡◌, None}
use Rattle.std.specs.Io.KnownBytes.{prepend_known}
use Rattle.http_wire.specs.Reading.{bytes_due}
use Rattle.std.proofs.Common.{length}
use Rattle.http_wire.proofs.RunLemmas.{Continues}
use Rattle.http_wire.proofs.stream.read_requests.Given as goal

abbrev pub invariant-reading : goal.invariant-reading
invariant-reading g l = record {
  fresh : l.reader.fault ≡ None;
  done : Continues (prepend_known l.fn.reader.kept (g.S.Source.left l.fn.source)) (prepend_known l.reader.kept (g.S.Source.left l.source)) l.requests.items;
}

abbrev pub decreases-reading : goal.decreases-reading
decreases-reading g l = bytes_due (g.S.Source.budget l.source) (length l.reader.kept)
