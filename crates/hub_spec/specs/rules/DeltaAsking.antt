-- What a consumer that holds a version asks for, page by page, and what the hub says to it.
use Rattle.std.specs.Prelude.{◌≡◌, ◌<◌, ◌≤◌, ◌⊎◌, ℕ, true, false, List, [], Option, Some, None, Ok, length}
use Rattle.row_json.specs.Deltas.{delta_text}
use Rattle.filter_grammar.specs.declared.query.Query.{Query}
use Rattle.grant_scopes.specs.Opens.{opens}
use Rattle.grant_scopes.specs.declared.access.Access.TheVariants.{Read}
use Rattle.hub_spec.specs.rules.Asking.{Asking, IsRead, asking, query_for}
use Rattle.hub_spec.specs.rules.Checks.{first_open, version_at}
use Rattle.hub_spec.specs.rules.Verdicts.{newest_in}
use Rattle.hub_spec.specs.rules.Wanted.{Wanted}
use Rattle.hub_spec.specs.views.Cuts.{list_in}
use Rattle.hub_spec.specs.views.Deltas.{delta}
use Rattle.hub_spec.specs.views.Pages.{slice}
use Rattle.row_deltas.specs.Deltas.{ids_gone, rows_put}
use Rattle.status_info.specs.declared.cause.Cause.TheVariants as cause
use Rattle.status_info.specs.declared.reply.Reply.{Reply}
use Rattle.status_info.specs.declared.request.Echo.{Echo}
use Rattle.version_core.specs.Grants.{grant_of}
use Rattle.version_core.specs.HubStates.{HubState, newest_number}
use Rattle.version_core.specs.declared.grant_row.GrantRow.{GrantRow}

-- the query for a page of what differs from a base on, in the pinned version or in the newest
abbrev pub query_from : Asking → ℕ → Query
query_from ask base = record (query_for ask) { since = Some base }

-- the request for it
abbrev pub asking_from : List ℕ → Asking → ℕ → Option Echo → Wanted
asking_from token ask base echo = record (asking token ask echo) { query = Ok (query_from ask base) }

-- what the hub says: that no grant has the token, that the pin can't be read, that the scopes don't open the kind, that
-- the base can't be read, or a page of what differs of the kind between the cuts of both versions to the token
pub data IsDeltaReply (state : HubState) (token : List ℕ) (ask : Asking) (base : ℕ) (reply : Reply) : Type 0 where
  NotKnown : grant_of token (newest_in state).grants ≡ None → reply.cause ≡ cause.NoKnownToken → IsDeltaReply state token ask base reply
  PinGone : (by : GrantRow) (pin : ℕ) → grant_of token (newest_in state).grants ≡ Some by
      → ask.pin ≡ Some pin → (pin < first_open state by) ⊎ (newest_number state < pin)
      → reply.cause ≡ cause.VersionNotKept → reply.oldest ≡ Some (first_open state by) → reply.version ≡ Some (newest_number state)
      → IsDeltaReply state token ask base reply
  NotOpened : (by : GrantRow) (version : ℕ) → grant_of token (version_at state version).grants ≡ Some by
      → IsRead state by ask.pin version → opens by.grant.scopes ask.kind Read ≡ false
      → list_in (version_at state version) token ask.kind ≡ []
      → reply.cause ≡ cause.ScopeMissing → reply.version ≡ Some version
      → IsDeltaReply state token ask base reply
  BaseGone : (by : GrantRow) (version : ℕ) → grant_of token (version_at state version).grants ≡ Some by
      → IsRead state by ask.pin version → (base < first_open state by) ⊎ (version < base)
      → reply.cause ≡ cause.VersionNotKept → reply.oldest ≡ Some (first_open state by) → reply.version ≡ Some version
      → IsDeltaReply state token ask base reply
  Differs : (by : GrantRow) (version : ℕ) → grant_of token (version_at state version).grants ≡ Some by → grant_of token (version_at state base).grants ≡ Some by
      → IsRead state by ask.pin version → opens by.grant.scopes ask.kind Read ≡ true → first_open state by ≤ base → base ≤ version
      → reply.cause ≡ cause.Done → reply.version ≡ Some version
      → reply.total ≡ Some (length (delta (version_at state base) (version_at state version) token ask.kind))
      → reply.body ≡ delta_text ask.kind
      (rows_put (slice ask.limit ask.offset (delta (version_at state base) (version_at state version) token ask.kind)))
      (ids_gone (slice ask.limit ask.offset (delta (version_at state base) (version_at state version) token ask.kind)))
      → reply.headless ≡ false
      → IsDeltaReply state token ask base reply
