use Rattle.std.proofs.Common.{◌≡◌, drop}
use Rattle.rest_paths.proofs.IdLemmas.{onto}
use Rattle.rest_paths.specs.Paths.{ids_at}
use Rattle.rest_paths.proofs.path.read_ids.Given as goal

abbrev pub invariant-loop-place : goal.invariant-loop-place
invariant-loop-place l = ids_at l.places l.text ≡ onto l.ids (ids_at (drop l.place-index l.places) l.text)
