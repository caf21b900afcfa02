-- What a caller can tell of a state.
use Rattle.std.specs.Prelude.{◌≡◌, ℕ, true, List, None, Some, Ok, filter}
use Rattle.filter_grammar.specs.declared.query.Query.{Query}
use Rattle.rest_paths.specs.Paths.{PathParts as Path}
use Rattle.hub_spec.specs.rules.Answers.{write_of}
use Rattle.hub_spec.specs.rules.Checks.{grant_in, is_base, version_at, version_read}
use Rattle.hub_spec.specs.rules.Refusals.{is_of, is_of_other, is_one_too_many, stored_at}
use Rattle.hub_spec.specs.rules.Verdicts.{newest_in}
use Rattle.hub_spec.specs.rules.Wanted.{Wanted}
use Rattle.hub_spec.specs.views.Lists.{kind_of_path}
use Rattle.hub_spec.specs.views.Seen.{seen}
use Rattle.version_core.specs.Changes.{rows_of}
use Rattle.version_core.specs.HubStates.{HubState, newest_number, oldest_number}
use Rattle.version_core.specs.Marks.{mark_at}
use Rattle.version_core.specs.declared.change.BaseVersion.{BaseVersion}
use Rattle.version_core.specs.declared.grant_row.GrantRow.{GrantRow}
use Rattle.version_core.specs.declared.row_change.RowChange.{RowChange}

-- two states are one to the reader of a request: they have the same numbers and the same grant of its token, which sees
-- the same rows of the version that is read, and of the base that it asks for, where that may be read
pub record SameToReader (wanted : Wanted) (one other : HubState) : Type 0 where
  pub oldest : oldest_number one ≡ oldest_number other
  pub newest : newest_number one ≡ newest_number other
  pub grant : grant_in one wanted.token ≡ grant_in other wanted.token
  pub rows : (by : GrantRow) (version : ℕ) → grant_in one wanted.token ≡ Some by → version_read one by wanted wanted.pin ≡ Ok version
      → seen by.grant.schools (rows_of (version_at one version).rows) ≡ seen by.grant.schools (rows_of (version_at other version).rows)
  pub base : (by : GrantRow) (version base : ℕ) (query : Query) → grant_in one wanted.token ≡ Some by → version_read one by wanted wanted.pin ≡ Ok version
      → wanted.query ≡ Ok query → query.since ≡ Some base → is_base one by version base ≡ true
      → seen by.grant.schools (rows_of (version_at one base).rows) ≡ seen by.grant.schools (rows_of (version_at other base).rows)

-- the rows of a version that the caller owns
abbrev pub own_rows : GrantRow → BaseVersion → List RowChange
own_rows by version = filter (λ change. is_of by.caller change.owner) version.rows

-- two states are one to the writer of a request: they have the same newest number and the same grant of its token,
-- which sees the same rows of the newest version and owns the same; the marks of its caller are the same; and where the
-- write goes stands a row of another in both or in neither, and both have as many rows of the kind as they may, or
-- neither
pub record SameToWriter (wanted : Wanted) (one other : HubState) : Type 0 where
  pub newest : newest_number one ≡ newest_number other
  pub grant : grant_in one wanted.token ≡ grant_in other wanted.token
  pub rows : (by : GrantRow) → grant_in one wanted.token ≡ Some by
      → seen by.grant.schools (rows_of (newest_in one).rows) ≡ seen by.grant.schools (rows_of (newest_in other).rows)
  pub own : (by : GrantRow) → grant_in one wanted.token ≡ Some by → own_rows by (newest_in one) ≡ own_rows by (newest_in other)
  pub marks : (by : GrantRow) (number : ℕ) → grant_in one wanted.token ≡ Some by → mark_at (by.caller, number) one.marks ≡ mark_at (by.caller, number) other.marks
  pub owner : (by : GrantRow) (path : Path) → grant_in one wanted.token ≡ Some by → wanted.path ≡ Some path
      → is_of_other by.caller (stored_at (newest_in one) (write_of wanted path)) ≡ is_of_other by.caller (stored_at (newest_in other) (write_of wanted path))
  pub full : (path : Path) → wanted.path ≡ Some path
      → is_one_too_many (rows_of (newest_in one).rows) (kind_of_path path) None ≡ is_one_too_many (rows_of (newest_in other).rows) (kind_of_path path) None
