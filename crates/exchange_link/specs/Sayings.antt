-- What the hub's answer to a request for a page tells a consumer.
use Rattle.std.specs.Prelude.{◌≡◌, ◌<◌, ◌⊎◌, ℕ, Bool, true, false, List, [], length, take, drop, get_or, is_some, max}
use Rattle.std.specs.Prelude.{Some, Ok, unwrap_or}
use Rattle.http_wire.specs.declared.reply_reading.WireReply.{WireReply}
use Rattle.hub_spec.specs.rules.Checks.{version_at}
use Rattle.hub_spec.specs.rules.Verdicts.{newest_in}
use Rattle.hub_spec.specs.views.Cuts.{cut, list_in}
use Rattle.roster_types.specs.Records.{Record}
use Rattle.row_json.specs.Reading.{rows_of as rows_in_text}
use Rattle.version_core.specs.Grants.{grant_of}
use Rattle.version_core.specs.HubStates.{HubState, newest_number, oldest_number}
use Rattle.version_core.specs.declared.change.BaseVersion.{BaseVersion}
use Rattle.version_core.specs.declared.grant_row.GrantRow.{GrantRow}
use Rattle.exchange_link.specs.Pages.{Page}

-- a caller has the token
abbrev pub knows : BaseVersion → List ℕ → Bool
knows version token = is_some (grant_of token version.grants)

-- what a token sees of a version, of the kind at this place
abbrev pub list_at : BaseVersion → List ℕ → ℕ → List Record
list_at version token place = get_or (cut version token) place []

-- the version that is read: the pin, or the newest without one; it stands, and knows the token
pub record IsRead (state : HubState) (page : Page) (version : ℕ) : Type 0 where
  pub standing : version < length state.published
  pub known : knows (version_at state version) page.token ≡ true
  pub pinned : version ≡ unwrap_or page.pin (newest_number state)

-- the answer as the consumer sees it: no caller has the token; the pin is kept no longer or is older than the grant, or
-- none such was published yet; the kind isn't opened; or the page
pub data Tells (state : HubState) (page : Page) (seen : WireReply) : Type 0 where
  Unknown : (seen.status ≡ 401) → knows (newest_in state) page.token ≡ false → Tells state page seen
  Gone : (pin : ℕ) (by : GrantRow) → page.pin ≡ Some pin → grant_of page.token (newest_in state).grants ≡ Some by
      → seen.status ≡ 404 → seen.oldest ≡ Some (max (oldest_number state) by.grant.since)
      → ((pin < oldest_number state) ⊎ ((pin < by.grant.since) ⊎ (newest_number state < pin))) → Tells state page seen
  Shut : (version : ℕ) → IsRead state page version → seen.status ≡ 403 → seen.version ≡ Some version
      → list_in (version_at state version) page.token page.kind ≡ [] → Tells state page seen
  Listed : (version : ℕ) → IsRead state page version → seen.status ≡ 200 → seen.version ≡ Some version
      → seen.total ≡ Some (length (list_in (version_at state version) page.token page.kind))
      → rows_in_text page.kind seen.body ≡ Ok (take page.limit (drop page.offset (list_in (version_at state version) page.token page.kind)))
      → Tells state page seen
