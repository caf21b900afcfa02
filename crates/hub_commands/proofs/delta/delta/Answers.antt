use Rattle.std.proofs.Common.{inl, refl}
use Rattle.hub_commands.proofs.delta.delta.Goals as goal

pub returns : goal.returns
returns g c = rw c.nothing_done.ensures (refl, c.synchronise_delta-answer.result, c.synchronise_delta-answer.ensures.delta, inl refl)
