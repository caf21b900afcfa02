-- Writes under their marks, as a hub reads them of requests.
use Rattle.std.specs.Prelude.{ℕ, ◌&&◌, Option, Some, None, if◌then◌else◌}
use Rattle.keeper_memory.specs.declared.copy.entry.OutEntry.{OutEntry}
use Rattle.rest_paths.specs.Paths.{PathParts as Path}
use Rattle.hub_spec.specs.requests.Requests.{wanted_by}
use Rattle.hub_spec.specs.rules.Answers.{write_of}
use Rattle.hub_spec.specs.rules.Wanted.{Wanted, is_write, mark_number, takes_writes}
use Rattle.status_info.specs.declared.request.Request.{Request}
use Rattle.version_core.specs.declared.mark.Write.{Write}

-- a write under its number
pub record Marked : Type 0 where
  pub number : ℕ
  pub write : Write

-- an entry's mark
abbrev pub mark_of : OutEntry → Marked
mark_of entry = record { number = entry.number; write = entry.write }

-- the marked write of a request, once its mark and its path are read
abbrev pub marked_at : Wanted → Option ℕ → Option Path → Option Marked
marked_at wanted None path = None
marked_at wanted (Some number) None = None
marked_at wanted (Some number) (Some path) =
    if is_write wanted.verb && takes_writes path then Some (record { number = number; write = write_of wanted path }) else None

-- a PUT or a DELETE of an object that takes writes, under a good mark
unfoldable pub marked_in : Wanted → Option Marked
marked_in wanted = marked_at wanted (mark_number wanted.mark) wanted.path

-- the marked write that a hub reads of a request
abbrev pub marked_by : Request → Option Marked
marked_by request = marked_in (wanted_by request)
