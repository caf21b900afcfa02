use Rattle.std.proofs.Common.{inl, inr, refl}
use Rattle.hub_commands.proofs.export.export_since.Goals as goal

pub returns-in-Ok : goal.returns-in-Ok
returns-in-Ok g c keeper = inr (c.in-Ok.earlier, c.moment_of.result, c.in-Ok.ensures, c.moment_of.ensures, c.changes_file-file.ensures)

pub returns-in-Err : goal.returns-in-Err
returns-in-Err g c keeper = inl (c.in-Err.end, refl, c.in-Err.ensures, refl)
