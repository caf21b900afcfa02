use Rattle.copy_format.proofs.Changing.{Keep-change}
use Rattle.copy_format.proofs.laws.edits_keep_the_copy_after_a_change.Goals as goal

pub returns : goal.returns
returns c = Keep-change
