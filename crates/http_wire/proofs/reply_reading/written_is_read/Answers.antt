use Rattle.http_wire.proofs.AnswerLemmas.{one_answer}
use Rattle.http_wire.proofs.WrittenLemmas.{answer_is, written_is_read}
use Rattle.http_wire.proofs.reply_reading.written_is_read.Goals as goal

pub returns : goal.returns
returns c = record { read = written_is_read; one = one_answer; answer = answer_is }
