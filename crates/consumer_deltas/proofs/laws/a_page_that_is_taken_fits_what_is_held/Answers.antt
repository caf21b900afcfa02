use Rattle.consumer_deltas.proofs.DeltaJudgeLemmas.{part_taken}
use Rattle.consumer_deltas.proofs.laws.a_page_that_is_taken_fits_what_is_held.Goals as goal

pub returns : goal.returns
returns c place sofar w pin page total e = (part_taken place sofar w pin page total e).fits
