-- A version of the roster, and the versions that changes lead to.
use Rattle.roster_values.specs.declared.kind.Kind.{Kind}
use Rattle.std.specs.Prelude.{ℕ, pos, suc, ◌-◌, ◌≤◌, List, [], ◌∷◌, ◌++◌, length, drop, Option, None, unwrap_or}
use Rattle.version_core.specs.Order.{overlaid}
use Rattle.version_core.specs.Changes.{change_key, rows_of, AreChanges}
use Rattle.version_core.specs.Grants.{AreGrants}
use Rattle.roster_types.specs.Keys.{Key, count_of}
use Rattle.version_core.specs.declared.change.Change.{Change}
use Rattle.version_core.specs.declared.change.BaseVersion.{BaseVersion}

-- the greatest number of a version
abbrev pub last_version : ℕ
last_version = 1000000000000000

-- how many rows a kind may have
abbrev pub row_limit : ℕ
row_limit = 1000000

-- a version that meets all that is asked of one
pub record IsVersion (version : BaseVersion) : Type 0 where
  pub number : version.number ≤ last_version
  pub rows : AreChanges version.rows
  pub few : (kind : Kind) → count_of kind (rows_of version.rows) ≤ row_limit
  pub grants : AreGrants version.number version.grants

-- the version that a change leads to; the grants stay where the change has none
abbrev pub after : BaseVersion → Change → BaseVersion
after version change = record { number = change.version; moment = change.moment; rows = overlaid change_key version.rows change.rows; grants = unwrap_or change.grants version.grants }

-- a version, and those that changes lead to, one after another
abbrev pub versions_from : BaseVersion → List Change → List BaseVersion
versions_from base [] = base ∷ []
versions_from base (change ∷ changes) = base ∷ versions_from (after base change) changes

-- the kept versions, from the oldest to the newest; how many are kept beside the newest; for rows of which kinds and
-- ids room is reserved
pub record Versions : Type 0 where
  pub keep : ℕ
  pub versions : List BaseVersion
  pub room : Option (List Key)

-- versions one after another, and for rows of which kinds and ids room is reserved
pub record Log : Type 0 where
  pub versions : List BaseVersion
  pub room : Option (List Key)

abbrev pub empty_version : BaseVersion
empty_version = record { number = 0; moment = pos 0; rows = []; grants = [] }

-- the last item, or else the given one
abbrev pub last_or : {X : Type 0} → X → List X → X
last_or x [] = x
last_or x (y ∷ ys) = last_or y ys

-- the first item, or else the given one
abbrev pub first_or : {X : Type 0} → X → List X → X
first_or x [] = x
first_or x (y ∷ ys) = y

abbrev pub oldest_of : Versions → BaseVersion
oldest_of table = first_or empty_version table.versions

abbrev pub newest_of : Versions → BaseVersion
newest_of table = last_or empty_version table.versions

-- one version more, of which those beyond `keep` are let go
abbrev pub with_version : Versions → BaseVersion → Versions
with_version table version =
    let versions = table.versions ++ version ∷ [] in
    record { keep = table.keep; versions = drop (length versions - suc table.keep) versions; room = None }
