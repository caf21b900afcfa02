-- Requests for pages of the collections, under their numbers.
use Rattle.std.specs.Prelude.{ℕ, List, Option, Some}
use Rattle.hub_spec.specs.rules.Asking.{Asking}
use Rattle.hub_spec.specs.requests.PageRequests.{page_request as request_of}
use Rattle.roster_values.specs.declared.kind.Kind.{Kind}
use Rattle.status_info.specs.declared.request.Echo.{Echo}
use Rattle.status_info.specs.declared.request.Request.{Request}

-- what is asked for, under a token: of a kind at most `limit` rows from the place `offset` on, at the pinned version or
-- the newest
pub record Page : Type 0 where
  pub token : List ℕ
  pub kind : Kind
  pub limit : ℕ
  pub offset : ℕ
  pub pin : Option ℕ

-- what is asked for, apart from the token
abbrev pub asked_by : Page → Asking
asked_by page = record { kind = page.kind; limit = page.limit; offset = page.offset; pin = page.pin }

-- the request under this number
abbrev pub page_request : Page → Echo → Request
page_request page echo = request_of page.token (asked_by page) (Some echo)
