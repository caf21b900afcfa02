-- The checks that a request meets on its way: path, method, token, pin, query, base.
use Rattle.std.specs.Prelude.{ℕ, ◌&&◌, Bool, true, false, not, List, Option, Some, None, Result, Ok, Err, if◌then◌else◌}
use Rattle.std.specs.Prelude.{max, nat_lt, option_and_then, slice_index_or}
use Rattle.hub_spec.specs.rules.Verdicts.{newest_in}
use Rattle.hub_spec.specs.rules.Wanted.{Wanted, allows, takes_writes}
use Rattle.rest_paths.specs.Paths.{PathParts as Path}
use Rattle.filter_grammar.specs.declared.query.Query.{Query}
use Rattle.roster_base.specs.Reading.{◌>>=◌}
use Rattle.roster_texts.specs.Results.{found_or}
use Rattle.status_info.specs.Failing.{failing}
use Rattle.status_info.specs.declared.cause.Cause.{Cause}
use Rattle.status_info.specs.declared.cause.Cause.TheVariants as cause
use Rattle.status_info.specs.declared.reply.Reply.{Reply}
use Rattle.version_core.specs.Grants.{grant_of}
use Rattle.version_core.specs.HubStates.{HubState, newest_number, oldest_number}
use Rattle.version_core.specs.Version.{empty_version}
use Rattle.version_core.specs.declared.change.BaseVersion.{BaseVersion}
use Rattle.version_core.specs.declared.grant_row.GrantRow.{GrantRow}

-- the version of a number
abbrev pub version_at : HubState → ℕ → BaseVersion
version_at state number = slice_index_or state.published number empty_version

-- the reply that says a cause and nothing else
abbrev pub refused : Wanted → Cause → Reply
refused wanted why = failing why wanted.echo wanted.close

-- the reply that says a cause and the version that it speaks of
abbrev pub refused_at : Wanted → ℕ → Cause → Reply
refused_at wanted version why = record (refused wanted why) { version = Some version }

-- a check, and the reply where it fails
abbrev pub check : Bool → Reply → Result Bool Reply
check true reply = Ok true
check false reply = Err reply

-- the reply that refuses the method, and says whether the path takes writes
abbrev pub method_refused : Wanted → Path → Reply
method_refused wanted path = record (refused wanted cause.MethodNotAllowed) { allow_write = takes_writes path }

-- the grant of the token in the newest version
abbrev pub grant_in : HubState → Option (List ℕ) → Option GrantRow
grant_in state token = option_and_then (λ t. grant_of t (newest_in state).grants) token

-- where a request goes, and who asks
pub record Entry : Type 0 where
  pub path : Path
  pub by : GrantRow

-- the checks of path, method and token, in this order
abbrev pub entry_of : HubState → Wanted → Result Entry Reply
entry_of state wanted = do
  path ← found_or (refused wanted cause.NoSuchPath) wanted.path
  allowed ← check (allows path wanted.verb) (method_refused wanted path)
  by ← found_or (refused wanted cause.NoKnownToken) (grant_in state wanted.token)
  Ok (record { path = path; by = by })

-- the oldest version that a caller may ask for
abbrev pub first_open : HubState → GrantRow → ℕ
first_open state by = max (oldest_number state) by.grant.since

-- a pin may be read
abbrev pub may_read : HubState → GrantRow → ℕ → Bool
may_read state by pin = not (nat_lt pin (first_open state by)) && not (nat_lt (newest_number state) pin)

-- the reply that refuses a pin, with the newest version and the oldest that may be asked for
abbrev pub pin_refused : HubState → GrantRow → Wanted → Reply
pin_refused state by wanted = record (refused_at wanted (newest_number state) cause.VersionNotKept) { oldest = Some (first_open state by) }

-- the version that is read: the pin, or the newest without one
abbrev pub version_read : HubState → GrantRow → Wanted → Option ℕ → Result ℕ Reply
version_read state by wanted None = Ok (newest_number state)
version_read state by wanted (Some pin) = if may_read state by pin then Ok pin else Err (pin_refused state by wanted)

-- a base may be read: it is kept, not older than the grant, and not above the version that is read
abbrev pub is_base : HubState → GrantRow → ℕ → ℕ → Bool
is_base state by version base = not (nat_lt base (first_open state by)) && not (nat_lt version base)

-- the reply that refuses a base, with the version that is read and the oldest that may be asked for
abbrev pub base_refused : HubState → GrantRow → Wanted → ℕ → Reply
base_refused state by wanted version = record (refused_at wanted version cause.VersionNotKept) { oldest = Some (first_open state by) }

-- the check of a base, where there is one
abbrev pub base_checked : HubState → GrantRow → Wanted → ℕ → Option ℕ → Result Bool Reply
base_checked state by wanted version None = Ok true
base_checked state by wanted version (Some base) = check (is_base state by version base) (base_refused state by wanted version)

-- the query, or the reply to its first fault
abbrev pub query_or : Wanted → ℕ → Result Query Cause → Result Query Reply
query_or wanted version (Ok query) = Ok query
query_or wanted version (Err why) = Err (refused_at wanted version why)
