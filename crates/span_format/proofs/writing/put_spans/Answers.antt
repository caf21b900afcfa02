use Rattle.std.proofs.Common.{◌<◌, ◌∙◌, length, arith}
use Rattle.hub_format.specs.Pieces.{IsReadBack}
use Rattle.hub_format.proofs.Steps.{more_all}
use Rattle.span_format.specs.Format.{HasPlainId}
use Rattle.span_format.proofs.Steps.{more_spans}
use Rattle.span_format.proofs.writing.put_spans.Goals as goal

pub loop-row-preserved : goal.loop-row-preserved
loop-row-preserved c =
    let rows = c.args.rows.now in
    let i = c.loop-row.row-index in
    let within : i < length rows = omega arith in
    record {
      edits = c.in_ok-push.ensures.items ∙ more_spans c.args.first c.args.edits.now.items c.loop-row.edits.items rows i c.row-item.result c.in_ok-put_span.field-0 c.loop-row.invariant.edits within c.row-item.is c.in_ok-put_span.ensures.edit;
      back = more_all IsReadBack rows i c.row-item.result c.loop-row.invariant.back within c.row-item.is c.in_ok-put_span.ensures.back;
      plain = more_all HasPlainId rows i c.row-item.result c.loop-row.invariant.plain within c.row-item.is c.in_ok-put_span.ensures.plain;
    }
