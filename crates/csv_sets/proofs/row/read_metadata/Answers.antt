use Rattle.std.proofs.Common.{◌≡◌, ◌<◌, ◌∙◌, ap, arith, length, sym, Some}
use Rattle.csv.specs.Records.{fields_of}
use Rattle.roster_texts.specs.Trim.{trimmed}
use Rattle.csv_sets.specs.Cells.{cell_at}
use Rattle.roster_base.proofs.ListSteps.{next_item}
use Rattle.csv_sets.proofs.MetadataSteps.{entry_rises, gathers_blank, gathers_end, gathers_one, plain_from}
use Rattle.csv_sets.proofs.row.read_metadata.Goals as goal
use Rattle.csv_sets.proofs.row.read_metadata.Goals.{then-not-is_empty+in_ok-copy+in_ok-new+in_ok-push}
use Rattle.csv_sets.proofs.row.read_metadata.Goals.{else-not-is_empty}

pub push-requires-clause-order : goal.push-requires-clause-order
push-requires-clause-order c =
    let within : c.loop-column.column-index < length c.args.columns.now = omega arith in
    entry_rises c.column-item.result _ c.loop-column.invariant (next_item _ _ _ _ within c.column-item.is) c.in_ok-copy.ensures

pub push-requires-clause-plain : goal.push-requires-clause-plain
push-requires-clause-plain c =
    plain_from c.in_ok-new.field-0 c.cell_at.result.now (c.in_ok-new.ensures ∙ c.trim_spaces-text.ensures) (rw c.in_ok-new.ensures (sym c.is_empty.ensures ∙ c.if-not-is_empty.true))

pub loop-column-preserved : goal.loop-column-preserved
loop-column-preserved c =
    let within : c.loop-column.column-index < length c.args.columns.now = omega arith in
    let next = next_item c.args.columns.now c.loop-column.column-index c.column-item.result c.column-item.result within c.column-item.is in
    let text : c.trim_spaces-text.result.now ≡ trimmed (cell_at (fields_of c.args.cells.now) (Some c.column-item.result.place)) = c.trim_spaces-text.ensures ∙ ap trimmed c.cell_at.ensures in
    elim c.if-not-is_empty.branch [
      | then-not-is_empty+in_ok-copy+in_ok-new+in_ok-push w ↦
          rw (w.metadata-is, w.in_ok-push.ensures.ok)
          (gathers_one c.column-item.result _ c.loop-column.invariant next w.in_ok-copy.ensures (w.in_ok-new.ensures ∙ text) (rw w.in_ok-new.ensures (sym c.is_empty.ensures ∙ w.if-not-is_empty.true)))
      | else-not-is_empty w ↦ rw w.metadata-is (gathers_blank c.column-item.result c.loop-column.invariant next (rw (← text) (sym c.is_empty.ensures ∙ w.if-not-is_empty.false)))
    ]

pub returns : goal.returns
returns c = gathers_end c.loop-column.invariant (omega arith)
