-- The consumer's requests for pages, as texts.
use Rattle.std.specs.Prelude.{◌≤◌, ◌<◌, ◌^◌, ◌++◌, ℕ, false, List, [], Option, Some, None, IfSome, codes, decimal}
use Rattle.filter_grammar.specs.Queries.{greatest_limit}
use Rattle.hub_spec.specs.rules.Asking.{Asking}
use Rattle.roster_values.specs.Kinds.{collections_root, plural_of}
use Rattle.roster_values.specs.declared.kind.Kind.{Kind}
use Rattle.status_info.specs.declared.request.Echo.{Echo}
use Rattle.status_info.specs.declared.request.MarkField.TheVariants.{Nothing}
use Rattle.status_info.specs.declared.request.Request.{Request}
use Rattle.status_info.specs.declared.request.Verb.TheVariants.{Get}

-- the path of all rows of a kind
unfoldable pub page_path : Kind → List ℕ
page_path kind = collections_root ++ plural_of kind

-- the parameter for the pin, where there is one
abbrev pub pin_text : Option ℕ → List ℕ
pin_text None = []
pin_text (Some pin) = codes "&hubVersion=" ++ decimal pin

-- the query for a page
unfoldable pub page_query : ℕ → ℕ → Option ℕ → List ℕ
page_query limit offset pin = codes "limit=" ++ (decimal limit ++ (codes "&offset=" ++ (decimal offset ++ pin_text pin)))

-- the request for a page
abbrev pub page_request : List ℕ → Asking → Option Echo → Request
page_request token ask echo = record {
  verb = Get;
  path = page_path ask.kind;
  query = page_query ask.limit ask.offset ask.pin;
  token = Some token;
  mark = Nothing;
  echo = echo;
  close = false;
  body = [];
}

-- an offset or a version in a query is below this one: a hub reads 18 digits at most
abbrev pub query_bound : ℕ
query_bound = 10 ^ 18

-- numbers that a query may have: a limit up to the greatest that is given, and others below the bound
pub record CanAsk (ask : Asking) : Type 0 where
  pub some : 1 ≤ ask.limit
  pub limit : ask.limit ≤ greatest_limit
  pub offset : ask.offset < query_bound
  pub pin : IfSome ask.pin (λ pin. pin < query_bound)
