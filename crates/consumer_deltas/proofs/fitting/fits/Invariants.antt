use Rattle.std.proofs.Common.{◌≡◌, drop}
use Rattle.consumer_deltas.specs.DeltaFits.{fits}
use Rattle.consumer_deltas.proofs.fitting.fits.Given as goal

abbrev pub invariant-loop-id : goal.invariant-loop-id
invariant-loop-id l = fits l.kind l.held l.puts (drop l.id-index l.gone) ≡ fits l.kind l.held l.puts l.gone
