use Rattle.std.proofs.Common.{◌≡◌, length}
use Rattle.csv_sets.specs.Written.{written_text}
use Rattle.keeper_memory.specs.copy.Copies.{held_list}
use Rattle.exchange_link.specs.Between.{copy_between}
use Rattle.hub_commands.specs.ExportAnswers.{IsExport}
use Rattle.hub_commands.proofs.Exporting.{export-done, export-stopped}
use Rattle.hub_commands.proofs.export.export.Goals as goal

pub returns-in-Ok : goal.returns-in-Ok
returns-in-Ok g c =
    rw c.from_vec.ensures
    (export-done (IsExport c.args.kind) (λ held bytes. bytes ≡ length (written_text c.args.kind (held_list held c.args.kind))) c.args.kind (copy_between g.C.CopyKeeper.stands_for g.C.CopyKeeper.fault_count c.args.copy.now c.export_file.new.copy) c.export_file.ensures.same _ c.in-Ok.ensures.text c.in-Ok.ensures.stood)

pub returns-in-Err : goal.returns-in-Err
returns-in-Err g c =
    rw c.end_of_export.ensures
    (export-stopped (IsExport c.args.kind) (λ held bytes. bytes ≡ length (written_text c.args.kind (held_list held c.args.kind))) c.args.kind (copy_between g.C.CopyKeeper.stands_for g.C.CopyKeeper.fault_count c.args.copy.now c.export_file.new.copy) c.export_file.ensures.same _ c.in-Err.ensures.cause)
