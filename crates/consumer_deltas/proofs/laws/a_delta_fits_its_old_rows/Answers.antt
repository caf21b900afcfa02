use Rattle.consumer_deltas.proofs.DeltaFitLemmas.{fits_delta}
use Rattle.consumer_deltas.proofs.laws.a_delta_fits_its_old_rows.Goals as goal

pub returns : goal.returns
returns c = fits_delta
