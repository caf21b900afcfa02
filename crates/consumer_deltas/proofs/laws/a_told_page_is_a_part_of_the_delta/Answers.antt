use Rattle.consumer_deltas.proofs.DeltaJudgeLemmas.{part_taken}
use Rattle.consumer_deltas.proofs.DeltaToldLemmas.{part_told}
use Rattle.consumer_deltas.proofs.laws.a_told_page_is_a_part_of_the_delta.Goals as goal

pub returns : goal.returns
returns c state later grew token place sofar w pin page total taken tells = part_told state later grew token place sofar w pin page total (part_taken place sofar w pin page total taken) tells
