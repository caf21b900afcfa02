-- What a table keeps of its fields.
use Rattle.std.specs.Prelude.{◌≡◌, ℕ, ◌+◌, ◌-◌, ◌≤◌, List, [], ◌∷◌, length, suc}
use Rattle.version_core.specs.declared.change.Change.{Change}
use Rattle.version_core.specs.declared.change.BaseVersion.{BaseVersion}
use Rattle.version_core.specs.declared.table.Table.TheInside.{Inside}
use Rattle.version_core.specs.HubStates.{AreVersionsFrom}
use Rattle.version_core.specs.Version.{Versions, empty_version, first_or, last_or}

abbrev pub versions_of : Inside → Versions
versions_of table = record { keep = table.keep; versions = table.log.versions; room = table.log.room }

-- each change leads to the number after the one before
abbrev pub LeadOn : ℕ → List Change → Type 0
LeadOn number [] = Unit {0}
LeadOn number (change ∷ changes) = (change.version ≡ number + 1) × LeadOn change.version changes

-- versions one after another up to the newest, with those that are kept beside it, or all from number 0 on
pub record AreKept (keep : ℕ) (versions : List BaseVersion) : Type 0 where
  pub run : AreVersionsFrom (first_or empty_version versions).number versions
  pub some : 1 ≤ length versions
  pub few : length versions ≤ suc keep
  pub oldest : (first_or empty_version versions).number ≡ (last_or empty_version versions).number - keep

abbrev pub IsTable : Inside → Type 0
IsTable table = AreKept table.keep table.log.versions
