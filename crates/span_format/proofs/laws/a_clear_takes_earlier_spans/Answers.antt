use Rattle.span_format.proofs.Labels.{is_hidden}
use Rattle.span_format.proofs.laws.a_clear_takes_earlier_spans.Goals as goal

pub returns : goal.returns
returns c = is_hidden
