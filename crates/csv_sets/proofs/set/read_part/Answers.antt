use Rattle.std.proofs.lemmas.Result.{err_from_is_err_and}
use Rattle.csv_sets.proofs.SetSteps.{part_refused, part_some}
use Rattle.csv_sets.proofs.set.read_part.Goals as goal

pub returns-in_err-rows-clause-part : goal.returns-in_err-rows-clause-part
returns-in_err-rows-clause-part g c =
    let p = err_from_is_err_and c.from_residual-in_err-rows.result c.from_residual-in_err-rows.ensures.1 in
    rw (p.1, p.2)
    (part_refused c.args.dir.now c.args.listed.now (g.F.Folder.files c.args.folder.now) (g.F.Folder.faults c.args.folder.now) (g.F.Folder.faults c.read_bytes.new.folder) c.in_ok-bytes.bytes c.in_err-rows.field-0.0 c.in_ok-bytes.ensures.bytes
    (rw c.as_slice.ensures at c.in_err-rows.ensures.file))

pub returns-clause-some : goal.returns-clause-some
returns-clause-some g c = rw c.from_vec.ensures (part_some c.args.listed.now _ c.in_ok-rows.rows.items c.in_ok-rows.ensures.file)
