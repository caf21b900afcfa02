-- Lists of grants as they are asked for.
use Rattle.std.specs.Prelude.{ℕ, ◌≤◌, List, bytes_eq, length, map}
use Rattle.std.specs.List.{IsDistinct}
use Rattle.grant_scopes.specs.declared.entry.GrantEntry.{GrantEntry}

-- the caller of a grant that is asked for
abbrev pub entry_caller : GrantEntry → List ℕ
entry_caller entry = entry.caller

-- its token
abbrev pub entry_token : GrantEntry → List ℕ
entry_token entry = entry.token

-- how many grants a hub gives at most
abbrev pub grant_limit : ℕ
grant_limit = 10000

-- grants that may be asked for: no two are of one caller, no two have one token, and they aren't too many
pub record AreEntries (entries : List GrantEntry) : Type 0 where
  pub callers : IsDistinct bytes_eq (map entry_caller entries)
  pub tokens : IsDistinct bytes_eq (map entry_token entries)
  pub few : length entries ≤ grant_limit
