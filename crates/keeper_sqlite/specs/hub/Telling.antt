-- What a keeper over a store of items tells. The store says nothing once its disk can't be trusted.
use Rattle.std.specs.Prelude.{◌≡◌, ℕ}
use Rattle.item_maps.specs.Items.{Items}
use Rattle.keeper_memory.specs.Kept.{KeptState}
use Rattle.keeper_sqlite.specs.Trust.{Sign}
use Rattle.keeper_sqlite.specs.hub.Keeping.{KeepOrNew, Keeps, Stay}

-- a store that stands for items which keep a state
pub record KeepSome {X : Type 0} (keep : Items → X → Type 0) (stand : Items → Type 0) : Type 0 where
  pub state : X
  pub this : Keeps keep stand state

-- where the items kept a state at first, they still do as long as they are trusted
abbrev pub StillKeep : {X : Type 0} → (Items → X → Type 0) → (Items → Type 0) → (Items → Type 0) → Type 0 → Type 0
StillKeep keep at_first now trusted = KeepSome keep at_first → trusted → KeepSome keep now

-- the items kept a state at first, and those that an open may find keep this one
pub record Tells {X : Type 0} (keep : Items → X → Type 0) (at_first may_hold : Items → Type 0)
    (state : X) : Type 0 where
  pub first : KeepSome keep at_first
  pub items : Items
  pub found : may_hold items
  pub kept : keep items state

-- what the keeper of a hub's state tells: of its store, of the store as it was handed in, and of how many versions a
-- new one keeps
abbrev pub HubTells : {Store : Type 0} → (Store → Items → Type 0) → (Store → Items → Type 0) → Store × Store × ℕ
    → KeptState → Type 0
HubTells stands_for may_hold hub state = Tells (KeepOrNew hub.2) (stands_for hub.1) (may_hold hub.0) state

-- what calls make of the keeper of a hub: what was handed in stays known, and the store shows its past
abbrev pub HubLeads : {Store : Type 0} → (Store → Sign → Type 0) → Store × Store × ℕ → Store × Store × ℕ → Type 0
HubLeads shows one two = (two.1 ≡ one.1) × (two.2 ≡ one.2) × Stay (shows two.0) (shows one.0)
