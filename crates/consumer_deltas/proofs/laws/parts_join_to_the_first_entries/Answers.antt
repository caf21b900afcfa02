use Rattle.consumer_deltas.proofs.DeltaToldLemmas.{first_on}
use Rattle.consumer_deltas.proofs.laws.parts_join_to_the_first_entries.Goals as goal

pub returns : goal.returns
returns c = first_on
