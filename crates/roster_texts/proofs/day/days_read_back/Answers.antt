use Rattle.roster_texts.proofs.RoundTrip.{day_reads_back}
use Rattle.roster_texts.proofs.day.days_read_back.Goals as goal

pub returns : goal.returns
returns c = day_reads_back
