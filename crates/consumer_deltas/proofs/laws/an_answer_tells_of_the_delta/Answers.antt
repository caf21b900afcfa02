use Rattle.consumer_deltas.proofs.DeltaTellLemmas.{delta_told_of}
use Rattle.consumer_deltas.proofs.laws.an_answer_tells_of_the_delta.Goals as goal

pub returns : goal.returns
returns c state hub page base can small echo at reply left utf8 answers = delta_told_of state hub page base echo at reply left can small utf8 answers
