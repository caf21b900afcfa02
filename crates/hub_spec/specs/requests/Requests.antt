-- What a request wants.
use Rattle.std.specs.Prelude.{ℕ, ℤ, List, Option, Some, None, Result, Ok, Err}
use Rattle.filter_grammar.specs.Causes.{cause_of}
use Rattle.filter_grammar.specs.Queries.{pin_in, query_of}
use Rattle.filter_grammar.specs.declared.fault.QueryFault.{QueryFault}
use Rattle.filter_grammar.specs.declared.query.Query.{Query}
use Rattle.hub_spec.specs.rules.Answers as answers
use Rattle.hub_spec.specs.rules.Wanted.{Wanted}
use Rattle.rest_paths.specs.Paths.{PathParts as Path, path_of}
use Rattle.hub_spec.specs.views.Lists.{kind_of_path}
use Rattle.status_info.specs.declared.cause.Cause.{Cause}
use Rattle.status_info.specs.declared.cause.Cause.TheVariants.{NoSuchPath}
use Rattle.status_info.specs.declared.reply.Reply.{Reply}
use Rattle.status_info.specs.declared.request.Request.{Request}
use Rattle.version_core.specs.HubStates.{HubState}

-- the query, or the cause of the reply to its first fault
abbrev pub query_or_cause : Result Query QueryFault → Result Query Cause
query_or_cause (Ok query) = Ok query
query_or_cause (Err fault) = Err (cause_of fault)

-- a query is read for the kind of the rows that the path lists
abbrev pub query_for_path : List ℕ → Option Path → Result Query Cause
query_for_path text None = Err NoSuchPath
query_for_path text (Some path) = query_or_cause (query_of (kind_of_path path) text)

-- the request with its path and its query read
abbrev pub wanted_by : Request → Wanted
wanted_by request = record {
  verb = request.verb;
  path = path_of request.path;
  token = request.token;
  pin = pin_in request.query;
  query = query_for_path request.query (path_of request.path);
  mark = request.mark;
  echo = request.echo;
  close = request.close;
  body = request.body;
}

-- the hub's own answer to a request, with the state behind it
abbrev pub AnswersRequest : HubState → Request → ℤ → Reply → HubState → Type 0
AnswersRequest before request at reply after = answers.Answers before (wanted_by request) at reply after
