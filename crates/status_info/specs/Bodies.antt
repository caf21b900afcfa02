-- The status body of a cause.
use Rattle.std.specs.Prelude.{ℕ, List, ◌++◌, codes, if◌then◌else◌, nat_lt}
use Rattle.status_info.specs.Causes.{status_of, minor_of, description_of}
use Rattle.status_info.specs.declared.cause.Cause.{Cause}

-- success or failure: the statuses below 400 are those of success
abbrev pub major_of : Cause → List ℕ
major_of cause = if nat_lt (status_of cause) 400 then codes "success" else codes "failure"

-- how grave it is
abbrev pub severity_of : Cause → List ℕ
severity_of cause = if nat_lt (status_of cause) 400 then codes "status" else codes "error"

-- the status body as JSON
unfoldable pub status_body : Cause → List ℕ
status_body cause =
    codes "{\"imsx_codeMajor\":\"" ++ major_of cause ++ codes "\",\"imsx_codeMinor\":\"" ++ minor_of cause
    ++ codes "\",\"imsx_description\":\"" ++ description_of cause
    ++ codes "\",\"imsx_severity\":\"" ++ severity_of cause ++ codes "\"}"
