-- The requests of a synchronisation.
use Rattle.std.specs.Prelude.{◌≡◌, ℕ, false, List, [], Some, None}
use Rattle.exchange_link.specs.Pages.{Page}
use Rattle.hub_spec.specs.requests.PageRequests.{page_path, page_query}
use Rattle.roster_values.specs.declared.kind.Kind.{Kind}
use Rattle.status_info.specs.declared.request.Request.{Request}
use Rattle.status_info.specs.declared.request.Verb.TheVariants as verb
use Rattle.status_info.specs.declared.request.MarkField.TheVariants as mark

-- the request that reads rows of a kind by a query, still without a number
abbrev pub read_request : List ℕ → Kind → List ℕ → Request
read_request token kind query = record {
  verb = verb.Get;
  path = page_path kind;
  query = query;
  token = Some token;
  mark = mark.Nothing;
  echo = None;
  close = false;
  body = [];
}

-- the request for a page
abbrev pub unnumbered : Page → Request
unnumbered p = read_request p.token p.kind (page_query p.limit p.offset p.pin)

-- no request for a write under a mark
abbrev pub IsUnmarked : Request → Type 0
IsUnmarked q = q.mark ≡ mark.Nothing
