-- Room for a commit.
use Rattle.std.specs.Prelude.{◌≡◌, IsTrue, Some, map}
use Rattle.std.specs.Option.{ForSome}
use Rattle.version_core.specs.Changes.{change_key}
use Rattle.version_core.specs.HeldMarks.{HeldMarks}
use Rattle.version_core.specs.Version.{Versions}
use Rattle.keeper_memory.specs.declared.hub_commit.HubCommit.{HubCommit}

-- a table and marks have room for what a commit adds
pub record HasRoomFor (commit : HubCommit) (table : Versions) (marks : HeldMarks) : Type 0 where
  pub change : ForSome commit.change (λ change. table.room ≡ Some (map change_key change.rows))
  pub mark : IsTrue marks.has_room

-- what room is made in stays as it is
pub record StaysAsItIs (table table' : Versions) (held held' : HeldMarks) : Type 0 where
  pub keep : table'.keep ≡ table.keep
  pub versions : table'.versions ≡ table.versions
  pub marks : held'.marks ≡ held.marks
