use Rattle.csv.specs.Records.{fields_of}
use Rattle.std.proofs.lemmas.Result.{err_from_is_err_and}
use Rattle.csv_sets.proofs.RecordSteps.{found_first, found_none}
use Rattle.csv_sets.proofs.ManifestSteps.{says_end, says_fail, says_on}
use Rattle.csv_sets.proofs.manifest.read_said.Goals as goal

pub returns-in_err-note_record : goal.returns-in_err-note_record
returns-in_err-note_record c =
    let first = found_first c.loop-cells.reader c.read.new.self c.in_ok-read.field-0 (fields_of c.read.new.cells) c.in_ok-read.ensures.ok c.if-branch.true in
    let p = err_from_is_err_and c.from_residual-in_err-note_record.result c.from_residual-in_err-note_record.ensures.1 in
    rw (p.1, p.2) (says_fail (fields_of c.read.new.cells) c.read.new.self c.in_err-note_record.field-0.0 c.loop-cells.invariant first c.in_err-note_record.ensures)

pub loop-cells-preserved : goal.loop-cells-preserved
loop-cells-preserved c =
    let first = found_first c.loop-cells.reader c.read.new.self c.in_ok-read.field-0 (fields_of c.read.new.cells) c.in_ok-read.ensures.ok c.if-branch.true in
    says_on (fields_of c.read.new.cells) c.read.new.self c.note_record.new.said.items c.loop-cells.invariant first c.in_ok-note_record.ensures

pub returns : goal.returns
returns c = says_end c.loop-cells.invariant (found_none c.loop-cells.reader c.read.new.self c.in_ok-read.field-0 (fields_of c.read.new.cells) c.in_ok-read.ensures.ok c.if-branch.false)
