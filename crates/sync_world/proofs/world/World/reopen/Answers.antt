use Rattle.std.proofs.Common.{◌≡◌, refl, sym, ap, subst}
use Rattle.hub_core.specs.Standing.{HeldHub, KeeperFits}
use Rattle.keeper_memory.specs.Kept.{KeptState}
use Rattle.sync_world.specs.Worlds.{IsWhole, whole_state}
use Rattle.sync_world.proofs.world.World.reopen.Goals as goal

pub invariant_of-self : goal.invariant_of-self
invariant_of-self c =
    let kept = c.in-Ok.ensures.told c.open.new.keeper.kept refl in
    record {
      whole = subst (λ (k : KeptState). IsWhole c.self.inside.gone.items k) (sym kept) c.self.invariant.whole;
      fits = subst (λ (h : HeldHub). KeeperFits (λ k. k ≡ c.open.new.keeper.kept) h) (sym c.replace.ensures.after) c.in-Ok.ensures.fits;
    }

pub returns-in-Ok-clause-state : goal.returns-in-Ok-clause-state
returns-in-Ok-clause-state c = rw (← c.self.view_is) (ap (whole_state c.self.inside.gone.items) (c.in-Ok.ensures.told c.open.new.keeper.kept refl))

pub returns-in-Ok-clause-calls : goal.returns-in-Ok-clause-calls
returns-in-Ok-clause-calls c = rw (← c.self.view_is) c.in-Ok.ensures.leads

pub returns-in-Err-clause-calls : goal.returns-in-Err-clause-calls
returns-in-Err-clause-calls c = rw (← c.self.view_is) c.in-Err.ensures.leads
