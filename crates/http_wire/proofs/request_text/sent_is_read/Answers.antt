use Rattle.http_wire.proofs.SendLemmas.{sent_is_read}
use Rattle.http_wire.proofs.request_text.sent_is_read.Goals as goal

pub returns : goal.returns
returns c = sent_is_read
