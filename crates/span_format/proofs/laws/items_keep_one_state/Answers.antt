use Rattle.span_format.proofs.Unique.{kept_once}
use Rattle.span_format.proofs.laws.items_keep_one_state.Goals as goal

pub returns : goal.returns
returns c = kept_once
