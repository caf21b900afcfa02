use Rattle.exchange_link.specs.Between.{copy_between}
use Rattle.hub_commands.specs.ExportAnswers.{HasTooMany, IsChangesExport, rows_in}
use Rattle.hub_commands.proofs.Exporting.{export-done, export-stopped}
use Rattle.hub_commands.proofs.export.changes_file.Goals as goal

pub returns-in-Ok : goal.returns-in-Ok
returns-in-Ok g c =
    rw c.from_vec.ensures
    (export-done (IsChangesExport c.args.at (rows_in c.args.kind c.args.earlier.now.parts) c.args.kind) (HasTooMany c.args.at (rows_in c.args.kind c.args.earlier.now.parts) c.args.kind) c.args.kind
    (copy_between g.C.CopyKeeper.stands_for g.C.CopyKeeper.fault_count c.args.copy.now c.export_changes.new.copy) c.export_changes.ensures.same _ c.in-Ok.ensures.text c.in-Ok.ensures.stood)

pub returns-in-Err : goal.returns-in-Err
returns-in-Err g c =
    rw c.end_of_export.ensures
    (export-stopped (IsChangesExport c.args.at (rows_in c.args.kind c.args.earlier.now.parts) c.args.kind) (HasTooMany c.args.at (rows_in c.args.kind c.args.earlier.now.parts) c.args.kind) c.args.kind
    (copy_between g.C.CopyKeeper.stands_for g.C.CopyKeeper.fault_count c.args.copy.now c.export_changes.new.copy) c.export_changes.ensures.same _ c.in-Err.ensures.cause)
