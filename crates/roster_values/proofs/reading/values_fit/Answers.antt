use Rattle.roster_values.proofs.FitLaws.{value_fits}
use Rattle.roster_values.proofs.reading.values_fit.Goals as goal

pub returns : goal.returns
returns c = value_fits
