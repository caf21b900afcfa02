use Rattle.span_format.proofs.Keeping.{first_kept}
use Rattle.span_format.proofs.laws.first_edits_keep_version_0.Goals as goal

pub returns : goal.returns
returns c = first_kept
