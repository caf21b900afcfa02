-- The requests of an incremental synchronisation.
use Rattle.std.specs.Prelude.{◌≡◌, ℕ, List}
use Rattle.consumer_sync.specs.Requests.{read_request}
use Rattle.exchange_link.specs.DeltaPages.{delta_page_request}
use Rattle.exchange_link.specs.Pages.{Page}
use Rattle.hub_spec.specs.requests.DeltaRequests.{delta_query}
use Rattle.status_info.specs.declared.request.Echo.{Echo}
use Rattle.status_info.specs.declared.request.Request.{Request}
use Rattle.consumer_deltas.specs.declared.judging.Place.{Place}

-- the page that is asked for
abbrev pub page_asked : List ℕ → Place → ℕ → Page
page_asked token place offset = record { token = token; kind = place.kind; limit = place.limit; offset = offset; pin = place.pin }

-- the request for a page of what differs from a base on, still without a number
abbrev pub delta_unnumbered : Page → ℕ → Request
delta_unnumbered p base = read_request p.token p.kind (delta_query p.limit p.offset base p.pin)

-- a request for a page of what differs from this base on, under this number
abbrev pub IsDeltaUnder : List ℕ → ℕ → ℕ → Echo → Request → Type 0
IsDeltaUnder token limit base n q = (page : Page) × (page.token ≡ token) × (page.limit ≡ limit) × (q ≡ delta_page_request page base n)
