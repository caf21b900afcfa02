-- What copies hold, cascaded.
use Rattle.std.specs.Prelude.{◌≡◌, ℕ, ℤ, List, None}
use Rattle.std.specs.List.{flat_map}
use Rattle.keeper_memory.specs.copy.Copies.{Copy, held_list}
use Rattle.roster_types.specs.Keys.{Ascends, row_key}
use Rattle.roster_types.specs.Records.{Record}
use Rattle.roster_values.specs.Kinds.{all_kinds}
use Rattle.version_changes.specs.sets.Applying.{Outcome}
use Rattle.version_core.specs.declared.change.BaseVersion.{BaseVersion}
use Rattle.hub_cascade.specs.Cascading.{Cascades}

-- the rows that a copy holds, in the order of kinds and ids
abbrev pub held_rows : Copy → List Record
held_rows copy = flat_map (held_list copy) all_kinds

-- each of these copies holds something, and nothing
abbrev pub HoldSomething : (Copy → Type 0) → Type 0
HoldSomething copies = (copy : Copy) → copies copy → copy.held ≡ None → ⊥

abbrev pub HoldNothing : (Copy → Type 0) → Type 0
HoldNothing copies = (copy : Copy) → copies copy → copy.held ≡ None

-- the rows, in their order, are those that each of these copies holds
pub record AreHeld (copies : Copy → Type 0) (rows : List Record) : Type 0 where
  pub order : Ascends row_key rows
  pub held : (copy : Copy) → copies copy → rows ≡ held_rows copy

-- cascading what each of these copies holds into a version
abbrev pub CascadesHeld : (Copy → Type 0) → List ℕ → ℤ → BaseVersion → Outcome → Type 0
CascadesHeld copies feed at version outcome = (held : List Record) × AreHeld copies held × Cascades version feed held at outcome
