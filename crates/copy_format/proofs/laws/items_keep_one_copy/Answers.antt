use Rattle.copy_format.proofs.Unique.{kept_once}
use Rattle.copy_format.proofs.laws.items_keep_one_copy.Goals as goal

pub returns : goal.returns
returns c = kept_once
