use Rattle.span_format.proofs.Naming.{oldest_named}
use Rattle.span_format.proofs.laws.items_tell_the_oldest_names.Goals as goal

pub returns : goal.returns
returns c = oldest_named
