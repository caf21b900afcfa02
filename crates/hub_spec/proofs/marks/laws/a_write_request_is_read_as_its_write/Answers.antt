use Rattle.std.proofs.lemmas.Str.{IsUtf8-from_is_utf8}
use Rattle.hub_spec.proofs.SendLemmas.{request_read}
use Rattle.hub_spec.proofs.marks.laws.a_write_request_is_read_as_its_write.Goals as goal

pub returns : goal.returns
returns c token marked echo kind text good = request_read token marked echo kind (IsUtf8-from_is_utf8 marked.write.id text) good
