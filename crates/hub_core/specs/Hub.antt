-- What a hub keeps of its fields.
use Rattle.std.specs.Prelude.{◌≡◌, IsTrue, List, Option, Some}
use Rattle.version_changes.specs.sets.Steps.{IsSound}
use Rattle.version_core.specs.Version.{Versions}
use Rattle.version_core.specs.declared.mark.MarkRow.{MarkRow}
use Rattle.keeper_memory.specs.Commits.{CanCommit}
use Rattle.keeper_memory.specs.Kept.{IsKept, KeptState, newest_kept}
use Rattle.keeper_memory.specs.declared.hub_commit.HubCommit.{HubCommit}
use Rattle.hub_core.specs.Standing.{HeldHub}
use Rattle.hub_core.specs.declared.hub.Hub.TheInside.{Inside}

-- the state of a table and marks
abbrev pub kept_in : Versions → List MarkRow → KeptState
kept_in table marks = record { keep = table.keep; versions = table.versions; marks = marks }

-- a hub as a clause sees it
abbrev pub held_of : Inside → HeldHub
held_of hub = record { kept = kept_in hub.table hub.marks.marks; last = hub.last; commit_open = hub.commit_open; keeps = hub.keeps }

-- a commit that was handed to the keeper, and may be made of this state
pub record MayBeMade (kept : KeptState) (handed : Option HubCommit) : Type 0 where
  pub commit : HubCommit
  pub last : handed ≡ Some commit
  pub can : CanCommit kept commit

-- what always holds of a hub's fields
pub record IsHub (hub : Inside) : Type 0 where
  pub kept : IsKept (kept_in hub.table hub.marks.marks)
  pub left_open : IsTrue hub.commit_open → MayBeMade (kept_in hub.table hub.marks.marks) hub.last
  pub sound : IsTrue hub.is_sound → IsSound (newest_kept hub.table.versions)
