use Rattle.rest_paths.proofs.FoundLemmas.{gradebook_object}
use Rattle.rest_paths.proofs.laws.gradebook_objects_are_found.Goals as goal

pub returns : goal.returns
returns c = gradebook_object
