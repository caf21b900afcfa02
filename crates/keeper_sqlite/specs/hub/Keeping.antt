-- Stores whose items keep a state, by what they stand for.
use Rattle.std.specs.Prelude.{◌≡◌, ◌≢◌, ◌⊎◌, ℕ, List, [], ◌∷◌, Result, Ok, Err}
use Rattle.roster_base.specs.declared.keeper.KeeperError.{KeeperError}
use Rattle.roster_base.specs.declared.keeper.KeeperError.TheVariants.{Failed, NoMemory}
use Rattle.item_maps.specs.Edits.{after}
use Rattle.item_maps.specs.declared.item.Edit.{Edit}
use Rattle.item_maps.specs.Items.{Items, listed, no_items}
use Rattle.keeper_memory.specs.Kept.{KeptState, kept_by}
use Rattle.hub_format.specs.Areas.{format_area}
use Rattle.hub_format.specs.Format.{Entry, Keep, new_tables}
use Rattle.hub_format.specs.Pieces.{number}
use Rattle.span_format.specs.Format.{KeepSpans}

-- items of either format
abbrev pub KeepEither : Items → KeptState → Type 0
KeepEither items state = KeepSpans items state ⊎ Keep items state

-- and no items keep version 0 alone, with so many versions to be kept beside the newest
abbrev pub KeepOrNew : ℕ → Items → KeptState → Type 0
KeepOrNew keep items state =
    KeepSpans items state ⊎ (Keep items state ⊎ ((items ≡ no_items) × (state ≡ kept_by (new_tables keep))))

-- a store that stands for items which keep this state
pub record Keeps {X : Type 0} (keep : Items → X → Type 0) (stand : Items → Type 0) (state : X) : Type 0 where
  pub items : Items
  pub stands : stand items
  pub kept : keep items state

-- of whatever a store keeps that is trusted behind a call, this holds
abbrev pub IfKeeps : {X : Type 0} → (Items → X → Type 0) → (Items → Type 0) → Type 0 → (X → Type 0) → Type 0
IfKeeps {X} keep stand trusted P = (state : X) → Keeps keep stand state → trusted → P state

-- what the one has, the other has
abbrev pub Stay : {T : Type 0} → (T → Type 0) → (T → Type 0) → Type 0
Stay {T} old new = (x : T) → old x → new x

-- what became of items by edits whose commit ended so: `NoMemory` leaves them, and a failure leaves it open
abbrev pub CameOf : Result (Unit {0}) KeeperError → List Edit → Items → Items → Type 0
CameOf (Ok done) edits items now = now ≡ after edits items
CameOf (Err Failed) edits items now = (now ≡ items) ⊎ (now ≡ after edits items)
CameOf (Err NoMemory) edits items now = now ≡ items

-- what items keep once a commit that makes this of a state ended so
abbrev pub Became : {X : Type 0} → (Items → X → Type 0) → (X → X) → Result (Unit {0}) KeeperError → X → Items → Type 0
Became keep next (Ok done) state now = keep now (next state)
Became keep next (Err Failed) state now = keep now state ⊎ keep now (next state)
Became keep next (Err NoMemory) state now = keep now state

-- The items that an open may find were there before the call, or the store was trusted and they are what became of what
-- it kept.
abbrev pub ComeOf : {X : Type 0} → (Items → Type 0) → Type 0 → (Items → Type 0) → (Items → X → Type 0)
    → (X → Items → Type 0) → Items → Type 0
ComeOf {X} there trusted stand keep became now =
    there now ⊎ (trusted × ((state : X) → Keeps keep stand state → became state now))

-- the items of the format say another number than 1 and 2
pub record HasOtherFormat (items : Items) : Type 0 where
  pub entry : Entry
  pub only : listed format_area [] (0 ∷ []) items ≡ entry ∷ []
  pub first : entry.1 ≢ number 1
  pub second : entry.1 ≢ number 2
