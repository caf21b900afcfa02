use Rattle.roster_texts.proofs.NumberTexts.{number_read}
use Rattle.roster_texts.proofs.number.numbers_read_back.Goals as goal

pub returns : goal.returns
returns c = number_read
