use Rattle.std.proofs.Common.{◌++◌, ◌∷◌, []}
use Rattle.std.proofs.lemmas.Result.{err_from_is_err_and}
use Rattle.csv.specs.Records.{fields_of}
use Rattle.grant_files.proofs.GrantSteps.{adds_none, adds_one, adds_stood, stands_more}
use Rattle.grant_files.proofs.KnownLaws.{knows_more}
use Rattle.grant_files.proofs.file.add_record.Goals as goal

pub returns-in_err-entry : goal.returns-in_err-entry
returns-in_err-entry c = λ front s.
    let p = err_from_is_err_and c.from_residual.result c.from_residual.ensures.1 in
    rw (p.1, p.2) (adds_none front c.args.number (fields_of c.args.cells.now) c.in_err-entry.field-0.0 c.in_err-entry.ensures)

pub returns-in_err-add : goal.returns-in_err-add
returns-in_err-add c = λ front s.
    let p = err_from_is_err_and c.from_residual-in_err-add.result c.from_residual-in_err-add.ensures.1 in
    let entry = c.in_ok-entry.entry in
    rw (p.1, p.2) (adds_stood front c.args.number (fields_of c.args.cells.now) entry c.in_err-add.field-0.0 c.in_ok-entry.ensures
    (rw (s.knows.callers entry.caller, s.knows.tokens entry.token) at c.in_err-add.ensures.new))

pub returns : goal.returns
returns c = λ front s.
    let entry = c.in_ok-entry.entry in
    let new = rw (s.knows.callers entry.caller, s.knows.tokens entry.token) at c.in_ok-add.ensures.new in (
      front ++ entry ∷ [],
      adds_one front c.args.number (fields_of c.args.cells.now) entry c.in_ok-entry.ensures new,
      stands_more entry s (knows_more c.args.known.now c.add.new.self front entry s.knows c.in_ok-add.ensures.callers c.in_ok-add.ensures.tokens) c.in_ok-keep.ensures,
    )
