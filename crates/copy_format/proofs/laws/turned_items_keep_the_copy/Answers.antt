use Rattle.copy_format.proofs.Changing.{turned_kept}
use Rattle.copy_format.proofs.laws.turned_items_keep_the_copy.Goals as goal

pub returns : goal.returns
returns c = turned_kept
