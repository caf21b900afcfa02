use Rattle.rest_paths.proofs.FoundLemmas.{collection_found}
use Rattle.rest_paths.proofs.laws.collections_are_found.Goals as goal

pub returns : goal.returns
returns c = collection_found
