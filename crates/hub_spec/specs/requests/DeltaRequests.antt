-- The consumer's requests for what differs from a version on, as texts.
use Rattle.std.specs.Prelude.{◌++◌, ℕ, false, List, [], Option, Some, codes, decimal}
use Rattle.hub_spec.specs.requests.PageRequests.{page_path, pin_text}
use Rattle.hub_spec.specs.rules.Asking.{Asking}
use Rattle.status_info.specs.declared.request.Echo.{Echo}
use Rattle.status_info.specs.declared.request.MarkField.TheVariants.{Nothing}
use Rattle.status_info.specs.declared.request.Request.{Request}
use Rattle.status_info.specs.declared.request.Verb.TheVariants.{Get}

-- the query for a page of what differs from a base on
unfoldable pub delta_query : ℕ → ℕ → ℕ → Option ℕ → List ℕ
delta_query limit offset base pin =
    codes "limit=" ++ (decimal limit ++ (codes "&offset=" ++ (decimal offset ++ (codes "&hubSince=" ++ (decimal base ++ pin_text pin)))))

-- the request for a page of what differs from a base on
abbrev pub delta_request : List ℕ → Asking → ℕ → Option Echo → Request
delta_request token ask base echo = record {
  verb = Get;
  path = page_path ask.kind;
  query = delta_query ask.limit ask.offset base ask.pin;
  token = Some token;
  mark = Nothing;
  echo = echo;
  close = false;
  body = [];
}
