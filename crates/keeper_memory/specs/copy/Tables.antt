-- What tables tell of a copy.
use Rattle.std.specs.Prelude.{◌≡◌, ℕ, ◌+◌, List, [], length, take, drop, get_or, Option, None, option_map, IfSome}
use Rattle.std.specs.List.{All}
use Rattle.keeper_memory.specs.copy.Copies.{Copy, Held, IsCopy, Stage}
use Rattle.keeper_memory.specs.copy.Lists.{kind_count}
use Rattle.keeper_memory.specs.copy.States.{state_of}
use Rattle.keeper_memory.specs.declared.copy.tables.CopyTables.{CopyTables}
use Rattle.keeper_memory.specs.declared.copy.tables.HeldRows.{HeldRows}
use Rattle.keeper_memory.specs.declared.copy.tables.StagedRows.{StagedRows}

-- what is held by these rows, under the token
abbrev pub held_in : Option (List ℕ) → HeldRows → Held
held_in token h = record { version = h.version; token = token; lists = h.rows.items }

-- the stage of these rows
abbrev pub stage_in : StagedRows → Stage
stage_in s = record {
  pin = s.state.pin;
  token = s.state.token;
  done = take s.state.kinds_done s.rows.items;
  present = get_or s.rows.items s.state.kinds_done [];
  total = s.state.total;
}

-- the copy of these tables
abbrev pub copy_in : CopyTables → Copy
copy_in t = record {
  run = t.run;
  held = option_map (held_in t.held_token) t.held;
  stage = option_map stage_in t.stage;
  entries = t.entries.items;
  last_number = t.last_number;
}

-- a list for each kind, of which those behind the next kind are empty, and the small part is that of the lists
pub record AreStaged (s : StagedRows) : Type 0 where
  pub all : length s.rows.items ≡ kind_count
  pub rest : All (λ rows. rows ≡ []) (drop (s.state.kinds_done + 1) s.rows.items)
  pub state : s.state ≡ state_of (stage_in s)

-- tables that stand for a copy: it has no token where nothing is held
pub record AreCopyTables (t : CopyTables) : Type 0 where
  pub copy : IsCopy (copy_in t)
  pub token : t.held ≡ None → t.held_token ≡ None
  pub stage : IfSome t.stage AreStaged
