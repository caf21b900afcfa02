use Rattle.std.proofs.Common.{ap, ◌∙◌}
use Rattle.span_format.specs.Reading.{came}
use Rattle.keeper_sqlite.proofs.RowsLemmas.{laid_more, laid_same}
use Rattle.keeper_sqlite.proofs.hub.spans.lay_item.Goals as goal

pub returns-then-version-base : goal.returns-then-version-base
returns-then-version-base c seen laid done =
    laid_same c.args.base c.args.item seen c.args.laid.now laid c.in-Some.version (c.in-Some.ensures ∙ ap came c.as_slice.ensures) c.if-version-base.true

pub returns : goal.returns
returns c seen laid done =
    laid_more c.args.base c.args.item seen c.args.laid.now laid c.push_item.new.laid c.in-Some.version (c.in-Some.ensures ∙ ap came c.as_slice.ensures) c.in_ok-push_item.ensures.here c.in_ok-push_item.ensures.others
