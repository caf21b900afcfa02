-- What a log of versions keeps of its fields.
use Rattle.std.specs.Prelude.{◌≡◌, true, ℕ, ℤ, ◌+◌, ◌<◌, ◌≤◌, List, [], ◌∷◌, Option, length, map, option_map, unwrap_or}
use Rattle.std.specs.Prelude.{vec_len, vec_capacity}
use Rattle.std.specs.Option.{ForSome}
use Rattle.std.specs.List.{AllByRecursion}
use Rattle.roster_types.specs.Keys.{Key}
use Rattle.version_core.specs.History.{AreFresh, ArePasts, AreUpTo, Past, history_key, pasts_of, rows_at}
use Rattle.version_core.specs.RefIndex.{AreIndexed}
use Rattle.version_core.specs.Room.{key_of}
use Rattle.version_core.specs.Changes.{rows_of}
use Rattle.version_core.specs.Since.{standing}
use Rattle.version_core.specs.declared.change.BaseVersion.{BaseVersion}
use Rattle.version_core.specs.declared.grant_row.GrantRow.{GrantRow}
use Rattle.version_core.specs.declared.ref_index.RefEntry.{RefEntry}
use Rattle.version_core.specs.declared.since.Since.{Since}
use Rattle.version_core.specs.declared.version_log.VersionLog.TheInside.{Inside}
use Rattle.version_core.specs.Version.{Log, IsVersion}

-- what stands at a version
abbrev pub version_at : ℕ → ℤ → List Past → List (Since (List GrantRow)) → BaseVersion
version_at number moment pasts grants = record { number = number; moment = moment; rows = rows_at number pasts; grants = unwrap_or (standing number grants) [] }

-- a version for each moment, the first of that number
abbrev pub versions_at : ℕ → List ℤ → List Past → List (Since (List GrantRow)) → List BaseVersion
versions_at number [] pasts grants = []
versions_at number (moment ∷ moments) pasts grants = version_at number moment pasts grants ∷ versions_at (number + 1) moments pasts grants

abbrev pub kept_of : Inside → List BaseVersion
kept_of log = versions_at log.number (log.moment ∷ log.moments.items) (pasts_of log.histories.items) log.grants.items

abbrev pub room_of : Inside → Option (List Key)
room_of log = option_map (λ keys. map key_of keys.items) log.room

abbrev pub log_of : Inside → Log
log_of log = record { versions = kept_of log; room = room_of log }

-- the number of the newest version
abbrev pub last_number : Inside → ℕ
last_number log = log.number + vec_len log.moments

-- room for one version more, with rows of these kinds and ids
pub record HasRoom (log : Inside) (keys : List Key) : Type 0 where
  pub moments : vec_len log.moments < vec_capacity log.moments
  pub grants : vec_len log.grants < vec_capacity log.grants
  pub histories : vec_len log.histories + length keys ≤ vec_capacity log.histories
  pub spare : vec_len log.histories + length keys ≤ vec_capacity log.spare
  pub fresh : length keys ≤ vec_len log.fresh
  pub grown : AllByRecursion (λ key. AllByRecursion (λ history. history_key history ≡ key → vec_len history.entries < vec_capacity history.entries) log.histories.items) keys

-- the index has all that the version's rows name
abbrev pub IsVersionIndexed : List (List RefEntry) → BaseVersion → Type 0
IsVersionIndexed runs version = AreIndexed runs (rows_of version.rows)

-- versions that are sound, read from histories in their order, with room for the rows that it is reserved for, and where
-- the log is indexed, with an index of all that their rows name
pub record IsLog (log : Inside) : Type 0 where
  pub versions : AllByRecursion IsVersion (kept_of log)
  pub pasts : ArePasts (pasts_of log.histories.items)
  pub up_to : AreUpTo (last_number log) (pasts_of log.histories.items)
  pub grants : AllByRecursion (λ entry. entry.version ≤ last_number log) log.grants.items
  pub spare : log.spare.items ≡ []
  pub fresh : AreFresh log.fresh.items
  pub room : ForSome (room_of log) (HasRoom log)
  pub index : log.is_indexed ≡ true → AllByRecursion (IsVersionIndexed log.refs.items) (kept_of log)
