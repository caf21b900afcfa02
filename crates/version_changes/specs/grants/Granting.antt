-- What a list of grants makes of a version.
use Rattle.std.specs.Prelude.{◌≡◌, ℕ, ℤ, ◌+◌, ◌<◌, ◌==◌, ◌&&◌, Bool, true, false, List, Option, Some, None, bytes_eq}
use Rattle.std.specs.Prelude.{if◌then◌else◌, map}
use Rattle.std.specs.Cmp.Lexicographic.{pointwise}
use Rattle.grant_scopes.specs.declared.grant.Grant.{Grant}
use Rattle.grant_scopes.specs.declared.schools.Schools.{Schools}
use Rattle.grant_scopes.specs.declared.schools.Schools.TheVariants.{All, Listed}
use Rattle.grant_scopes.specs.declared.entry.GrantEntry.{GrantEntry}
use Rattle.roster_base.specs.Order.{in_order}
use Rattle.version_changes.specs.sets.Applying.{Leads, Outcome, Refuses, Unchanged}
use Rattle.version_changes.specs.declared.sets.publish_fault.PublishFault.TheVariants.{LastVersion}
use Rattle.version_core.specs.Grants.{caller_of, grant_row_of}
use Rattle.version_core.specs.Version.{last_version}
use Rattle.version_core.specs.declared.change.BaseVersion.{BaseVersion}
use Rattle.version_core.specs.declared.grant_row.GrantRow.{GrantRow}

-- both name all schools, or the same ones in the same order
abbrev pub same_schools : Schools → Schools → Bool
same_schools All All = true
same_schools All (Listed ids) = false
same_schools (Listed ids) All = false
same_schools (Listed ids) (Listed others) = pointwise bytes_eq ids others

-- the entry asks for what the grant says
abbrev pub asks_for : GrantEntry → Grant → Bool
asks_for entry grant = bytes_eq entry.token grant.token && (entry.scopes == grant.scopes) && same_schools entry.schools grant.schools

-- since when a caller has what it asks for: the next version, unless it has it already
abbrev pub since_of : ℕ → GrantEntry → Option GrantRow → ℕ
since_of next entry None = next
since_of next entry (Some row) = if asks_for entry row.grant then row.grant.since else next

-- what an entry is granted in the version after this one
abbrev pub granted : BaseVersion → GrantEntry → GrantRow
granted version entry = record {
  caller = entry.caller;
  grant = record {
    token = entry.token;
    scopes = entry.scopes;
    schools = entry.schools;
    since = since_of (version.number + 1) entry (grant_row_of entry.caller version.grants);
  };
}

-- the grants that a list leads to, in the order of the callers
abbrev pub grants_from : BaseVersion → List GrantEntry → List GrantRow
grants_from version entries = in_order caller_of (map (granted version) entries)

-- what a list of grants makes of a version
abbrev pub GrantsMake : BaseVersion → List GrantEntry → ℤ → Outcome → Type 0
GrantsMake version entries at (Refuses fault) =
    (version.grants ≡ grants_from version entries → ⊥) × (version.number ≡ last_version) × (fault ≡ LastVersion)
GrantsMake version entries at Unchanged = version.grants ≡ grants_from version entries
GrantsMake version entries at (Leads next) =
    (version.grants ≡ grants_from version entries → ⊥) × (version.number < last_version)
    × (next ≡ record version { number = version.number + 1; moment = at; grants = grants_from version entries })
