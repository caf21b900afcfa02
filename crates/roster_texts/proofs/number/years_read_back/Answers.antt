use Rattle.roster_texts.proofs.NumberTexts.{year_read}
use Rattle.roster_texts.proofs.number.years_read_back.Goals as goal

pub returns : goal.returns
returns c = year_read
