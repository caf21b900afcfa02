-- The replies to reads, from a table that stands for a hub's state.
use Rattle.std.specs.Prelude.{◌≡◌, ℕ, Some, Result, Ok}
use Rattle.rest_paths.specs.Paths.{PathParts as Path}
use Rattle.hub_spec.specs.rules.Answers.{sent}
use Rattle.hub_spec.specs.rules.Checks.{Entry, base_checked, check, grant_in, method_refused, refused, refused_at}
use Rattle.hub_spec.specs.views.Links.{base_for}
use Rattle.filter_grammar.specs.declared.query.Query.{Query}
use Rattle.hub_spec.specs.rules.Reads.{contents_at, read_result, shown}
use Rattle.hub_spec.specs.rules.States.{ReadsAs}
use Rattle.hub_spec.specs.rules.Wanted.{Wanted, allows, is_good_mark}
use Rattle.roster_base.specs.Reading.{◌>>=◌}
use Rattle.roster_texts.specs.Results.{found_or}
use Rattle.status_info.specs.declared.cause.Cause.TheVariants as cause
use Rattle.status_info.specs.declared.reply.Reply.{Reply}
use Rattle.version_core.specs.HubStates.{HubState, newest_number, oldest_number}
use Rattle.version_core.specs.Version.{Versions, newest_of, oldest_of}
use Rattle.version_core.specs.declared.grant_row.GrantRow.{GrantRow}

-- what is read of a state is read of the versions of a table
pub record IsReadOf (table : Versions) (state : HubState) : Type 0 where
  pub oldest : oldest_number state ≡ (oldest_of table).number
  pub newest : newest_number state ≡ (newest_of table).number
  pub reads : ReadsAs state table.versions

-- the reply that refuses a pin or a base
abbrev pub pin_reply : Wanted → ℕ → ℕ → Reply
pin_reply wanted version oldest = record (refused_at wanted version cause.VersionNotKept) { oldest = Some oldest }

-- a path that takes the method
abbrev pub path_allowed : Wanted → Path → Result Path Reply
path_allowed wanted path = do
  allowed ← check (allows path wanted.verb) (method_refused wanted path)
  Ok path

-- the checks of a request's path: that there is one, and that it takes the method
abbrev pub path_checked : Wanted → Result Path Reply
path_checked wanted = found_or (refused wanted cause.NoSuchPath) wanted.path >>= path_allowed wanted

-- where a request goes, and who asks
abbrev pub entry : Path → GrantRow → Entry
entry path by = record { path = path; by = by }

-- the checks behind those of the path
abbrev pub read_by_token : HubState → Wanted → Path → Result Reply Reply
read_by_token state wanted path = do
  by ← found_or (refused wanted cause.NoKnownToken) (grant_in state wanted.token)
  read_result state wanted (entry path by)

-- the checks of a read, one after another
abbrev pub read_in_turn : HubState → Wanted → Result Reply Reply
read_in_turn state wanted = path_checked wanted >>= read_by_token state wanted

-- the reply where memory ran out
abbrev pub out_of_memory : Wanted → Reply
out_of_memory wanted = sent wanted (refused wanted cause.NoMemory)

-- the checks of a read behind its query's: base, mark, object
abbrev pub query_read : HubState → Wanted → Entry → ℕ → Query → Result Reply Reply
query_read state wanted entry version query = do
  based ← base_checked state entry.by wanted version (base_for entry.path.route query.since)
  marked ← check (is_good_mark wanted.mark) (refused_at wanted version cause.BadMark)
  contents ← found_or (refused_at wanted version cause.NoSuchObject) (contents_at state entry version query (base_for entry.path.route query.since))
  Ok (shown wanted version query contents)
