-- The request that sends a marked write.
use Rattle.std.specs.Prelude.{ℕ, false, List, [], Option, Some, if◌then◌else◌}
use Rattle.roster_types.specs.Hrefs.{href}
use Rattle.status_info.specs.declared.request.Echo.{Echo}
use Rattle.status_info.specs.declared.request.MarkField.TheVariants.{Number}
use Rattle.status_info.specs.declared.request.Request.{Request}
use Rattle.status_info.specs.declared.request.Verb.{Verb}
use Rattle.status_info.specs.declared.request.Verb.TheVariants.{Delete, Put}
use Rattle.version_core.specs.declared.mark.Write.{Write}
use Rattle.hub_spec.specs.marks.Marked.{Marked}

-- the method that asks for a write
abbrev pub verb_of : Write → Verb
verb_of write = if write.delete then Delete else Put

-- the request, under the number of its exchange, or still without one
abbrev pub write_request : List ℕ → Marked → Option Echo → Request
write_request token marked echo = record {
  verb = verb_of marked.write;
  path = href marked.write.kind marked.write.id;
  query = [];
  token = Some token;
  mark = Number marked.number;
  echo = echo;
  close = false;
  body = marked.write.body;
}
