-- What a consumer asks for, page by page, and what the hub says to it.
use Rattle.std.specs.Prelude.{◌≡◌, ◌<◌, ◌≤◌, ◌⊎◌, ℕ, true, false, List, [], Option, Some, None, Ok, length, unwrap_or}
use Rattle.hub_spec.specs.rules.Checks.{first_open, version_at}
use Rattle.hub_spec.specs.rules.Verdicts.{newest_in}
use Rattle.hub_spec.specs.rules.Wanted.{Wanted}
use Rattle.hub_spec.specs.views.Cuts.{list_in}
use Rattle.hub_spec.specs.views.Pages.{slice}
use Rattle.grant_scopes.specs.Opens.{opens}
use Rattle.grant_scopes.specs.declared.access.Access.TheVariants.{Read}
use Rattle.filter_grammar.specs.declared.query.Query.{Query}
use Rattle.rest_paths.specs.declared.route.Collection.TheVariants.{Of}
use Rattle.rest_paths.specs.declared.route.Route.TheVariants.{All}
use Rattle.roster_values.specs.declared.kind.Kind.{Kind}
use Rattle.row_json.specs.Json.{collection_text}
use Rattle.status_info.specs.declared.cause.Cause.TheVariants as cause
use Rattle.status_info.specs.declared.reply.Reply.{Reply}
use Rattle.status_info.specs.declared.request.Echo.{Echo}
use Rattle.status_info.specs.declared.request.MarkField.TheVariants.{Nothing}
use Rattle.status_info.specs.declared.request.Verb.TheVariants.{Get}
use Rattle.version_core.specs.Grants.{grant_of}
use Rattle.version_core.specs.HubStates.{HubState, newest_number, oldest_number}
use Rattle.version_core.specs.declared.grant_row.GrantRow.{GrantRow}

-- a page of the rows of a kind, of the pinned version or of the newest
pub record Asking : Type 0 where
  pub kind : Kind
  pub limit : ℕ
  pub offset : ℕ
  pub pin : Option ℕ

-- the query that asks for such a page
abbrev pub query_for : Asking → Query
query_for ask = record {
  limit = ask.limit;
  offset = ask.offset;
  sort = None;
  order_by = None;
  filter = None;
  test = None;
  fields = None;
  only = None;
  version = ask.pin;
  since = None;
  warnings = record { sort = false; selection = false };
}

-- the request for it
abbrev pub asking : List ℕ → Asking → Option Echo → Wanted
asking token ask echo = record {
  verb = Get;
  path = Some (record { route = All (Of ask.kind); ids = [] });
  token = Some token;
  pin = ask.pin;
  query = Ok (query_for ask);
  mark = Nothing;
  echo = echo;
  close = false;
  body = [];
}

-- the version that is read: the pin, or the newest without one; it is kept, and not older than the grant
pub record IsRead (state : HubState) (by : GrantRow) (pin : Option ℕ) (version : ℕ) : Type 0 where
  pub pinned : version ≡ unwrap_or pin (newest_number state)
  pub kept : oldest_number state ≤ version
  pub since : by.grant.since ≤ version
  pub stands : version ≤ newest_number state

-- what the hub says: that no grant has the token, that the pin can't be read, that the scopes don't open the kind, or a
-- page of the kind's list in the cut of the version to the token
pub data IsPageReply (state : HubState) (token : List ℕ) (ask : Asking) (reply : Reply) : Type 0 where
  Unknown : grant_of token (newest_in state).grants ≡ None → reply.cause ≡ cause.NoKnownToken → IsPageReply state token ask reply
  Gone : (by : GrantRow) (pin : ℕ) → grant_of token (newest_in state).grants ≡ Some by
      → ask.pin ≡ Some pin → (pin < first_open state by) ⊎ (newest_number state < pin)
      → reply.cause ≡ cause.VersionNotKept → reply.oldest ≡ Some (first_open state by) → reply.version ≡ Some (newest_number state)
      → IsPageReply state token ask reply
  Shut : (by : GrantRow) (version : ℕ) → grant_of token (version_at state version).grants ≡ Some by
      → IsRead state by ask.pin version → opens by.grant.scopes ask.kind Read ≡ false
      → list_in (version_at state version) token ask.kind ≡ []
      → reply.cause ≡ cause.ScopeMissing → reply.version ≡ Some version
      → IsPageReply state token ask reply
  Listed : (by : GrantRow) (version : ℕ) → grant_of token (version_at state version).grants ≡ Some by
      → IsRead state by ask.pin version → opens by.grant.scopes ask.kind Read ≡ true
      → reply.cause ≡ cause.Done → reply.version ≡ Some version
      → reply.total ≡ Some (length (list_in (version_at state version) token ask.kind))
      → reply.body ≡ collection_text None ask.kind (slice ask.limit ask.offset (list_in (version_at state version) token ask.kind))
      → reply.headless ≡ false
      → IsPageReply state token ask reply
