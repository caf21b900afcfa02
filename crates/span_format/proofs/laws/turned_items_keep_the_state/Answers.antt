use Rattle.span_format.proofs.Turning.{turned}
use Rattle.span_format.proofs.laws.turned_items_keep_the_state.Goals as goal

pub returns : goal.returns
returns c = turned
