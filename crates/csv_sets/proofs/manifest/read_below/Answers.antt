use Rattle.roster_values.specs.Kinds.{all_kinds}
use Rattle.roster_values.proofs.KindLaws.{kind_places_rise}
use Rattle.csv_sets.proofs.ManifestSteps.{said_rise}
use Rattle.csv_sets.proofs.manifest.read_below.Goals as goal

pub returns-clause-rise : goal.returns-clause-rise
returns-clause-rise c = rw (c.from_vec.ensures, c.in_ok-files.ensures) (said_rise _ all_kinds kind_places_rise)
