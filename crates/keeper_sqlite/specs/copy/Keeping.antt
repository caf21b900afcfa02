-- Stores whose items keep a copy, by what they stand for.
use Rattle.std.specs.Prelude.{◌≡◌, ◌⊎◌, ℕ, List}
use Rattle.item_maps.specs.Items.{Items, no_items}
use Rattle.item_maps.specs.declared.item.Edit.{Edit}
use Rattle.keeper_memory.specs.copy.Copies.{Copy, IsCopy}
use Rattle.keeper_memory.specs.copy.HeldCopy.{empty_copy}
use Rattle.keeper_memory.specs.declared.copy.change.CopyChange.{CopyChange}
use Rattle.copy_format.specs.Edits.{FitsChange, edits}
use Rattle.copy_format.specs.Format.{AreItemsOf, Fit, Keep, KeepOne}
use Rattle.keeper_sqlite.specs.Trust.{Sign}
use Rattle.keeper_sqlite.specs.hub.Keeping.{Stay}
use Rattle.keeper_sqlite.specs.hub.Telling.{Tells}

-- items of either format
abbrev pub KeepEither : Items → Copy → Type 0
KeepEither items c = Keep items c ⊎ KeepOne items c

-- and no items keep the copy that holds nothing
abbrev pub KeepOrNew : Items → Copy → Type 0
KeepOrNew items c = Keep items c ⊎ (KeepOne items c ⊎ ((items ≡ no_items) × (c ≡ empty_copy)))

-- a store that stands for the items of this copy, whose held rows stand on this side
pub record HasCopy (stand : Items → Type 0) (side : ℕ) (c : Copy) : Type 0 where
  pub items : Items
  pub stands : stand items
  pub stored : AreItemsOf 2 side c items
  pub is : IsCopy c
  pub fit : Fit c

-- these are the edits of the change, which is found again
abbrev pub AreEditsOf : ℕ → Copy → CopyChange → List Edit → Type 0
AreEditsOf side c change es = (es ≡ edits side c change) × FitsChange change c

-- what the keeper of a copy tells: of its store, and of the store as it was handed in
abbrev pub CopyTells : {Store : Type 0} → (Store → Items → Type 0) → (Store → Items → Type 0) → Store × Store → Copy
    → Type 0
CopyTells stands_for may_hold keeper c = Tells KeepOrNew (stands_for keeper.1) (may_hold keeper.0) c

-- what calls make of the keeper of a copy: what was handed in stays known, and the store shows its past
abbrev pub CopyLeads : {Store : Type 0} → (Store → Sign → Type 0) → Store × Store → Store × Store → Type 0
CopyLeads shows one two = (two.1 ≡ one.1) × Stay (shows two.0) (shows one.0)
