use Rattle.roster_values.proofs.KindLaws.{word_reads}
use Rattle.roster_values.proofs.kind.kinds_read_back.Goals as goal

pub returns : goal.returns
returns c = word_reads
