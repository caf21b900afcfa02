use Rattle.std.proofs.Common.{◌<◌, arith, get_or, length, refl}
use Rattle.std.proofs.lemmas.Result.{err_from_is_err_and}
use Rattle.roster_base.proofs.ListSteps.{next_item}
use Rattle.csv_sets.proofs.SetSteps.{looks_end, looks_fail, looks_on}
use Rattle.csv_sets.proofs.set.check_files.Goals as goal

pub returns-in_err-check_file-clause-stand : goal.returns-in_err-check_file-clause-stand
returns-in_err-check_file-clause-stand g c =
    let within : c.loop-kind.kind-index < length c.args.kinds.now = omega arith in
    let p = err_from_is_err_and c.from_residual.result c.from_residual.ensures.1 in
    rw (p.1, p.2) (looks_fail (g.F.Folder.faults c.check_file.new.folder) (get_or c.args.kinds.now c.loop-kind.kind-index _) c.in_err-check_file.field-0.0 c.loop-kind.invariant (next_item _ _ _ _ within refl) c.in_err-check_file.ensures.stands)

pub loop-kind-preserved : goal.loop-kind-preserved
loop-kind-preserved g c =
    let within : c.loop-kind.kind-index < length c.args.kinds.now = omega arith in
    looks_on (g.F.Folder.files c.check_file.new.folder) (g.F.Folder.faults c.check_file.new.folder) (get_or c.args.kinds.now c.loop-kind.kind-index _) c.loop-kind.invariant (next_item _ _ _ _ within refl) c.in_ok-check_file.ensures.stands c.in_ok-check_file.ensures.files

pub returns-clause-stand : goal.returns-clause-stand
returns-clause-stand g c = looks_end c.loop-kind.invariant (omega arith)
