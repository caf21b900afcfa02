use Rattle.span_format.proofs.Keeping.{Keep-commit}
use Rattle.span_format.proofs.laws.edits_keep_the_state_after_a_commit.Goals as goal

pub returns : goal.returns
returns c = Keep-commit
