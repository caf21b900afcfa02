-- Requests for pages of what differs, under their numbers.
use Rattle.std.specs.Prelude.{ℕ, Some}
use Rattle.exchange_link.specs.Pages.{Page, asked_by}
use Rattle.hub_spec.specs.requests.DeltaRequests.{delta_request}
use Rattle.status_info.specs.declared.request.Echo.{Echo}
use Rattle.status_info.specs.declared.request.Request.{Request}

-- the request under this number, for what differs from a base on
abbrev pub delta_page_request : Page → ℕ → Echo → Request
delta_page_request page base echo = delta_request page.token (asked_by page) base (Some echo)
