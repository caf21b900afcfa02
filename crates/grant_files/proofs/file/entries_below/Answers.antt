use Rattle.std.proofs.Common.{arith}
use Rattle.std.proofs.lemmas.Result.{err_from_is_err_and}
use Rattle.csv.specs.Records.{fields_of}
use Rattle.csv_sets.proofs.RecordSteps.{found_first, found_none}
use Rattle.grant_files.proofs.GrantSteps.{entries_good, few_kept, leads_end, leads_fail, leads_many, leads_on}
use Rattle.grant_files.proofs.file.entries_below.Goals as goal

pub add_record-requires-clause-few : goal.add_record-requires-clause-few
add_record-requires-clause-few c = few_kept c.loop-cells.invariant

pub returns-in_err-add_record-clause-entries : goal.returns-in_err-add_record-clause-entries
returns-in_err-add_record-clause-entries c =
    let l = c.loop-cells.invariant in
    let first = found_first c.loop-cells.reader c.read.new.self c.in_ok-read.field-0 (fields_of c.read.new.cells) c.in_ok-read.ensures.ok c.if-branch.true in
    let p = err_from_is_err_and c.from_residual-in_err-add_record.result c.from_residual-in_err-add_record.ensures.1 in
    rw (p.1, p.2) (leads_fail (fields_of c.read.new.cells) c.read.new.self c.in_err-add_record.field-0.0 l first (c.in_err-add_record.ensures l.front l.stands))

pub loop-cells-preserved : goal.loop-cells-preserved
loop-cells-preserved c =
    let l = c.loop-cells.invariant in
    let first = found_first c.loop-cells.reader c.read.new.self c.in_ok-read.field-0 (fields_of c.read.new.cells) c.in_ok-read.ensures.ok c.if-branch.true in
    let added = c.in_ok-add_record.ensures l.front l.stands in
    leads_on (fields_of c.read.new.cells) c.read.new.self added.0 l first added.1 added.2

pub returns-then-number-gt-END_NUMBER-clause-entries : goal.returns-then-number-gt-END_NUMBER-clause-entries
returns-then-number-gt-END_NUMBER-clause-entries c =
    leads_many c.loop-cells.invariant (found_none c.loop-cells.reader c.read.new.self c.in_ok-read.field-0 (fields_of c.read.new.cells) c.in_ok-read.ensures.ok c.if-branch.false) (omega arith)

pub returns-clause-entries : goal.returns-clause-entries
returns-clause-entries c =
    leads_end c.loop-cells.invariant (found_none c.loop-cells.reader c.read.new.self c.in_ok-read.field-0 (fields_of c.read.new.cells) c.in_ok-read.ensures.ok c.if-branch.false) (omega arith)

pub returns-clause-apart : goal.returns-clause-apart
returns-clause-apart c = entries_good c.args.reader.now c.loop-cells.entries.items (returns-clause-entries c)
