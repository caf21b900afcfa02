use Rattle.span_format.proofs.SpanListings.{base_told, changes_told}
use Rattle.span_format.proofs.laws.items_tell_the_spans.Goals as goal

pub returns-clause-base : goal.returns-clause-base
returns-clause-base c = base_told

pub returns-clause-changes : goal.returns-clause-changes
returns-clause-changes c = changes_told
