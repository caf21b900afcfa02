-- A copy that fits a state of a hub: at each later state, and with its stage let go.
use Rattle.std.proofs.Common.{Option, None, Some, sym, subst, arith}
use Rattle.std.specs.Prelude.{IfSome}
use Rattle.keeper_memory.specs.copy.Copies.{Copy, Held, Stage}
use Rattle.exchange_link.specs.Agreement.{AreSeen, CopyFits, FitsVersion, HeldFitsIf, StageFits, StageFitsIf}
use Rattle.hub_spec.specs.rules.Growth.{Grew}
use Rattle.version_core.specs.HubStates.{HubState}
use Rattle.version_core.specs.declared.change.BaseVersion.{BaseVersion}

stage_on : (s : Stage) (a b : HubState) → Grew a b → StageFits s a → StageFits s b
stage_on s a b grew h = record {
  standing = let longer = grew.longer in let stands = h.standing in omega (arith, longer, stands);
  fits = subst (λ (v : BaseVersion). FitsVersion s v) (sym (grew.same s.pin h.standing)) h.fits;
}

pub stage_if_on : (o : Option Stage) (a b : HubState) → Grew a b → StageFitsIf o a → StageFitsIf o b
stage_if_on None a b grew h = tt
stage_if_on (Some s) a b grew h = stage_on s a b grew h

held_if_on : (o : Option Held) (stage : Option Stage) (a b : HubState) → Grew a b → HeldFitsIf o stage a → HeldFitsIf o stage b
held_if_on None stage a b grew h = tt
held_if_on (Some held) stage a b grew h = record {
  standing = let longer = grew.longer in let stands = h.standing in omega (arith, longer, stands);
  below = h.below;
  seen = subst (λ (v : BaseVersion). IfSome held.token (AreSeen held.lists v)) (sym (grew.same held.version h.standing)) h.seen;
}

pub copy_on : (c : Copy) (a b : HubState) → Grew a b → CopyFits c a → CopyFits c b
copy_on c a b grew h = record { stage = stage_if_on c.stage a b grew h.stage; held = held_if_on c.held c.stage a b grew h.held }

pub held_alone : (o : Option Held) (stage : Option Stage) (h : HubState) → HeldFitsIf o stage h → HeldFitsIf o None h
held_alone None stage h x = tt
held_alone (Some held) stage h x = record { standing = x.standing; below = tt; seen = x.seen }
