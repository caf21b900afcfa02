use Rattle.roster_texts.proofs.RoundTrip.{moment_reads_back}
use Rattle.roster_texts.proofs.moment.moments_read_back.Goals as goal

pub returns : goal.returns
returns c = moment_reads_back
