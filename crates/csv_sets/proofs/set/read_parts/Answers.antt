use Rattle.std.proofs.Common.{◌<◌, arith, get_or, length, refl}
use Rattle.std.proofs.lemmas.Result.{err_from_is_err_and}
use Rattle.roster_base.proofs.ListSteps.{next_item}
use Rattle.csv_sets.proofs.SetSteps.{listed_end, parts_end, parts_fail, parts_on}
use Rattle.csv_sets.proofs.set.read_parts.Goals as goal

pub returns-in_err-read_part-clause-parts : goal.returns-in_err-read_part-clause-parts
returns-in_err-read_part-clause-parts g c =
    let within : c.loop-file.file-index < length c.args.listed.now = omega arith in
    let p = err_from_is_err_and c.from_residual.result c.from_residual.ensures.1 in
    rw (p.1, p.2) (parts_fail (g.F.Folder.faults c.read_part.new.folder) (get_or c.args.listed.now c.loop-file.file-index _) c.in_err-read_part.field-0.0 c.loop-file.invariant (next_item _ _ _ _ within refl) c.in_err-read_part.ensures.part)

pub loop-file-preserved : goal.loop-file-preserved
loop-file-preserved g c =
    let within : c.loop-file.file-index < length c.args.listed.now = omega arith in
    rw c.in_ok-push.ensures.items
    (parts_on (g.F.Folder.files c.read_part.new.folder) (g.F.Folder.faults c.read_part.new.folder) (get_or c.args.listed.now c.loop-file.file-index _) c.in_ok-read_part.field-0 c.loop-file.invariant (next_item _ _ _ _ within refl)
    c.in_ok-read_part.ensures.part c.in_ok-read_part.ensures.files c.in_ok-read_part.ensures.listed c.in_ok-read_part.ensures.good c.in_ok-read_part.ensures.some)

pub returns-clause-parts : goal.returns-clause-parts
returns-clause-parts g c = parts_end c.loop-file.invariant (omega arith)

pub returns-clause-listed : goal.returns-clause-listed
returns-clause-listed g c = listed_end c.loop-file.invariant (omega arith)
