use Rattle.copy_format.proofs.Changing.{first_kept}
use Rattle.copy_format.proofs.laws.first_edits_keep_the_empty_copy.Goals as goal

pub returns : goal.returns
returns c = first_kept
