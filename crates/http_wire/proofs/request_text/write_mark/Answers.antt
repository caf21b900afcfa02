use Rattle.http_wire.proofs.request_text.write_mark.Goals as goal

pub returns-clause-bytes : goal.returns-clause-bytes
returns-clause-bytes g c = rw c.number_of_mark.ensures at c.write_number_line.ensures.bytes
