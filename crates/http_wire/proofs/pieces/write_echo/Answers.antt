use Rattle.http_wire.specs.Replies.{echo_text}
use Rattle.http_wire.proofs.pieces.write_echo.Goals as goal

pub returns-clause-bytes : goal.returns-clause-bytes
unfolding echo_text
returns-clause-bytes g c = rw (c.format.ensures.text, c.format-2.ensures.text) at c.write_pieces.ensures.bytes
