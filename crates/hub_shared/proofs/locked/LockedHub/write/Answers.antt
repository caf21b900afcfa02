use Rattle.hub_shared.proofs.locked.LockedHub.write.Goals as goal

pub returns-clause-worked : goal.returns-clause-worked
returns-clause-worked g c = rw c.replied.ensures c.carry_out-done.ensures.worked
