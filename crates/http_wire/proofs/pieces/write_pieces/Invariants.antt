use Rattle.std.proofs.Common.{◌≡◌, take}
use Rattle.std.specs.List.{flat_map}
use Rattle.std.specs.Io.KnownBytes.{Appends}
use Rattle.http_wire.proofs.pieces.write_pieces.Given as goal

abbrev pub invariant-loop-piece : goal.invariant-loop-piece
invariant-loop-piece g l = record {
  bytes : Appends (g.W.Sink.written l.fn.sink) (g.W.Sink.written l.sink) (flat_map (λ p. p.now) (take l.piece-index l.pieces));
  faults : g.W.Sink.faults l.sink ≡ g.W.Sink.faults l.fn.sink;
}
