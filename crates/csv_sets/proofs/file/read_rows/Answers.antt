use Rattle.std.proofs.Common.{List, subst, sym}
use Rattle.std.proofs.lemmas.Result.{err_from_is_err_and}
use Rattle.csv.specs.Records.{fields_of}
use Rattle.csv_sets.proofs.RepeatSteps.{Leads, leads_end, leads_fail, leads_on, leads_start}
use Rattle.roster_types.specs.declared.set_row.SetRow.{SetRow}
use Rattle.csv_sets.proofs.RisingIds.{none_rise}
use Rattle.csv_sets.proofs.RecordSteps.{found_first, found_none}
use Rattle.csv_sets.proofs.file.read_rows.Goals as goal

pub loop-values-init : goal.loop-values-init
loop-values-init c = record {
  leads = subst (λ (rows : List SetRow). Leads c.args.kind c.args.mode c.args.header.now rows 2 c.args.reader.now c.args.reader.now) (sym c.requires.none)
      (leads_start c.args.kind c.args.mode c.args.header.now c.args.reader.now c.requires.text);
  rise = λ _. none_rise c.args.rows.now.items c.requires.none;
}

pub returns-in_err-row-clause-whole : goal.returns-in_err-row-clause-whole
returns-in_err-row-clause-whole c =
    let first = found_first c.loop-values.reader c.read.new.self c.in_ok-read.field-0 (fields_of c.read.new.cells) c.in_ok-read.ensures.ok c.if-branch.true in
    let p = err_from_is_err_and c.from_residual-in_err-row.result c.from_residual-in_err-row.ensures.1 in
    rw (p.1, p.2) (leads_fail (fields_of c.read.new.cells) c.read.new.self c.in_err-row.field-0.0 c.loop-values.invariant.leads first c.in_err-row.ensures)

pub loop-values-preserved : goal.loop-values-preserved
loop-values-preserved c =
    let first = found_first c.loop-values.reader c.read.new.self c.in_ok-read.field-0 (fields_of c.read.new.cells) c.in_ok-read.ensures.ok c.if-branch.true in
    record {
      leads = rw c.in_ok-add.ensures.rows (leads_on (fields_of c.read.new.cells) c.read.new.self c.in_ok-row.row c.loop-values.invariant.leads first c.in_ok-row.ensures);
      rise = c.in_ok-add.ensures.rise;
    }

pub returns-clause-whole : goal.returns-clause-whole
returns-clause-whole c = leads_end c.loop-values.invariant.leads (found_none c.loop-values.reader c.read.new.self c.in_ok-read.field-0 (fields_of c.read.new.cells) c.in_ok-read.ensures.ok c.if-branch.false)
