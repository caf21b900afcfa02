-- A hub that has published the rows of a small district, and then two grants.
use Rattle.std.specs.Prelude.{pos, [], ◌∷◌, codes, map}
use Rattle.grant_scopes.specs.declared.schools.Schools.TheVariants.{All, Listed}
use Rattle.hub_spec.specs.examples.Lake.{lake, noon}
use Rattle.roster_types.specs.Records.{Record}
use Rattle.roster_types.specs.declared.owner.Owner.TheVariants.{Feed}
use Rattle.version_core.specs.HubStates.{HubState}
use Rattle.version_core.specs.Version.{empty_version}
use Rattle.version_core.specs.declared.change.BaseVersion.{BaseVersion}
use Rattle.version_core.specs.declared.grant_row.GrantRow.{GrantRow}
use Rattle.version_core.specs.declared.row_change.RowChange.{RowChange}

-- a row of the one feed
abbrev pub of_feed : Record → RowChange
of_feed row = record { row = row; owner = Feed (codes "sis") }

-- version 1: the rows, and no grants
abbrev pub first : BaseVersion
first = record { number = 1; moment = pos noon; rows = map of_feed lake; grants = [] }

-- a caller that reads the roster (scope 1) and the gradebook (scope 8) of all schools
abbrev pub all : GrantRow
all = record { caller = codes "all"; grant = record { token = codes "tok-a"; scopes = 9; schools = All; since = 2 } }

-- a caller that reads both of one school, and puts (scope 16) and deletes (scope 32) there
abbrev pub east : GrantRow
east = record { caller = codes "east"; grant = record { token = codes "tok-e"; scopes = 57; schools = Listed (codes "s1" ∷ []); since = 2 } }

-- version 2: the rows with both grants
abbrev pub second : BaseVersion
second = record first { number = 2; grants = all ∷ east ∷ [] }

-- the hub with both versions
abbrev pub hub : HubState
hub = record { keep = 10000; published = empty_version ∷ first ∷ second ∷ []; marks = [] }
