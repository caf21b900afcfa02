use Rattle.std.proofs.Common.{inl, inr, refl}
use Rattle.hub_commands.proofs.export.manifest.Goals as goal

pub returns-in-Ok : goal.returns-in-Ok
returns-in-Ok c = rw c.from_vec.ensures (inl (c.in-Ok.ensures, refl))

pub returns-in-Err : goal.returns-in-Err
returns-in-Err c = inr (refl, refl)
