use Rattle.csv_sets.proofs.SetSteps.{parts_fit, spelled_by}
use Rattle.csv_sets.proofs.set.set_among.Goals as goal

pub new-requires : goal.new-requires
new-requires g c = rw c.from_vec.ensures (parts_fit c.in_ok-parts.parts.items c.as_slice-listed.result.now c.in_ok-manifest.manifest.files c.in_ok-parts.ensures.listed c.as_slice-listed.ensures c.in_ok-manifest.ensures.rise c.in_ok-parts.ensures.good)

pub returns-clause-some : goal.returns-clause-some
returns-clause-some g c =
    rw (c.new.ensures, c.from_vec.ensures) (spelled_by c.in_ok-parts.parts.items c.as_slice-listed.result.now c.in_ok-manifest.manifest.files c.in_ok-parts.ensures.listed c.as_slice-listed.ensures c.in_ok-manifest.ensures.some c.in_ok-parts.ensures.some)
