-- The small part of a copy, and what a keeper may answer at all.
use Rattle.std.specs.Prelude.{◌≡◌, ◌<◌, ◌≤◌, ℕ, true, List, length, Option, None, IfSome, is_some, option_map}
use Rattle.roster_types.specs.Records.{Record}
use Rattle.roster_values.specs.declared.kind.Kind.{Kind}
use Rattle.keeper_memory.specs.declared.copy.entry.OutEntry.{OutEntry}
use Rattle.keeper_memory.specs.declared.copy.state.CopyState.{CopyState}
use Rattle.keeper_memory.specs.declared.copy.state.StageState.{StageState}
use Rattle.keeper_memory.specs.declared.copy.state.TheConstants.{LAST}
use Rattle.keeper_memory.specs.copy.Copies.{Copy, IsOutWrite, Stage, held_token}
use Rattle.keeper_memory.specs.copy.Lists.{IsList, kind_count, last_from}

-- the small part of a stage: all that it has but its rows
abbrev pub state_of : Stage → StageState
state_of s = record {
  pin = s.pin;
  token = s.token;
  kinds_done = length s.done;
  staged = length s.present;
  total = s.total;
  last = last_from None s.present;
}

-- the small part of the stage, where there is one
abbrev pub stage_of : Copy → Option StageState
stage_of c = option_map state_of c.stage

-- the small part of a copy: all that it has but its rows and its entries
abbrev pub small_part : Copy → CopyState
small_part c = record {
  run = c.run;
  held = option_map (λ h. h.version) c.held;
  held_token = held_token c;
  stage = stage_of c;
  last_number = c.last_number;
}

-- the state is the small part of the copy
abbrev pub Shows : Copy → CopyState → Type 0
Shows c s = s ≡ small_part c

-- ---- what a copy can have

-- the small part of a stage that may be: a last id is there just where a row of the next kind is
pub record CanBeStage (s : StageState) : Type 0 where
  pub pin : s.pin ≤ LAST
  pub kinds : s.kinds_done ≤ kind_count
  pub first : s.staged ≡ 0 → s.last ≡ None
  pub some : (s.staged ≡ 0 → ⊥) → is_some s.last ≡ true
  pub whole : s.kinds_done ≡ kind_count → (s.staged ≡ 0) × (s.total ≡ None)

-- the small part of a copy that may be: it has no token where nothing is held
pub record CanBe (s : CopyState) : Type 0 where
  pub run : s.run ≤ LAST
  pub held : IfSome s.held (λ version. version ≤ LAST)
  pub token : s.held ≡ None → s.held_token ≡ None
  pub stage : IfSome s.stage CanBeStage
  pub last : s.last_number ≤ LAST

-- what a keeper may answer as the held rows of a kind
abbrev pub CanBeList : Kind → List Record → Type 0
CanBeList kind rows = IsList kind rows

-- what a keeper may answer as the first entry above a number
pub record CanBeEntry (after : ℕ) (entry : OutEntry) : Type 0 where
  pub above : after < entry.number
  pub last : entry.number ≤ LAST
  pub write : IsOutWrite entry.write
