use Rattle.std.proofs.Common.{ℕ, List, [], subst}
use Rattle.std.proofs.lemmas.Result.{err_from_is_err_and}
use Rattle.outside_ports.specs.Written.{AppendsPart}
use Rattle.http_wire.proofs.WriteLemmas.{part_at_item}
use Rattle.http_wire.proofs.pieces.write_pieces.Goals as goal

pub returns-in_err-write_all-clause-bytes : goal.returns-in_err-write_all-clause-bytes
returns-in_err-write_all-clause-bytes g c =
    let p = err_from_is_err_and c.from_residual.result c.from_residual.ensures.1 in
    let piece = subst (λ (bs : List ℕ). AppendsPart (g.W.Sink.written c.loop-piece.sink) (g.W.Sink.written c.write_all.new.self) bs) c.as_bytes.ensures.value c.in_err-write_all.ensures.bytes in
    rw p.1 (part_at_item (λ p. p.now) c.args.pieces.now c.loop-piece.piece-index (record { ref_ptr = (0, 0); now = [] }) _ _ _ c.loop-piece-test.true c.loop-piece.invariant.bytes piece)
