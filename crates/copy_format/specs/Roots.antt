-- What the item of a copy's state says.
use Rattle.std.specs.Prelude.{◌≤◌, ℕ, [], IfSome, option_map}
use Rattle.keeper_memory.specs.copy.Copies.{Copy}
use Rattle.keeper_memory.specs.declared.copy.state.TheConstants.{LAST}
use Rattle.hub_format.specs.Format.{Entry}
use Rattle.copy_format.specs.Bodies.{state_body}
use Rattle.copy_format.specs.declared.root.CopyRoot.{CopyRoot}

-- of a copy whose held rows stand on this side
abbrev pub root_in : ℕ → Copy → CopyRoot
root_in side c = record {
  run = c.run;
  held = option_map (λ h. h.version) c.held;
  side = side;
  last_number = c.last_number;
}

abbrev pub root_entry : CopyRoot → Entry
root_entry r = ([], state_body r.run r.held r.side r.last_number)

-- what a copy can have
pub record CanBeRoot (r : CopyRoot) : Type 0 where
  pub run : r.run ≤ LAST
  pub held : IfSome r.held (λ version. version ≤ LAST)
  pub side : r.side ≤ 1
  pub last : r.last_number ≤ LAST
