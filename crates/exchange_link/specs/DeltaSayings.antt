-- What the hub's answer to a request for what differs tells a consumer.
use Rattle.std.specs.Prelude.{◌≡◌, ◌<◌, ◌≤◌, ◌⊎◌, ℕ, Bool, true, false, List, [], length, max, Some, Ok}
use Rattle.std.specs.Option.{option_map_or}
use Rattle.grant_scopes.specs.Opens.{opens}
use Rattle.grant_scopes.specs.declared.access.Access.TheVariants.{Read}
use Rattle.http_wire.specs.declared.reply_reading.WireReply.{WireReply}
use Rattle.hub_spec.specs.rules.Checks.{version_at}
use Rattle.hub_spec.specs.rules.Verdicts.{newest_in}
use Rattle.hub_spec.specs.views.Deltas.{delta}
use Rattle.hub_spec.specs.views.Pages.{slice}
use Rattle.roster_values.specs.declared.kind.Kind.{Kind}
use Rattle.hub_spec.specs.Below.Deltas.{ids_gone, rows_put}
use Rattle.hub_spec.specs.Below.DeltaEntry.{DeltaEntry}
use Rattle.hub_spec.specs.views.Cuts.{list_in}
use Rattle.row_json.specs.Deltas.{gone_of}
use Rattle.row_json.specs.Reading.{rows_of as rows_in_text}
use Rattle.version_core.specs.Grants.{grant_of}
use Rattle.version_core.specs.HubStates.{HubState, newest_number, oldest_number}
use Rattle.version_core.specs.declared.change.BaseVersion.{BaseVersion}
use Rattle.version_core.specs.declared.grant_row.GrantRow.{GrantRow}
use Rattle.exchange_link.specs.Pages.{Page}
use Rattle.exchange_link.specs.Sayings.{IsRead, knows}

-- what differs of the page's kind between the cuts of both versions to its token
abbrev pub delta_at : HubState → Page → ℕ → ℕ → List DeltaEntry
delta_at state page base version = delta (version_at state base) (version_at state version) page.token page.kind

-- in that version the token has a grant whose scopes open the kind
abbrev pub opens_kind : BaseVersion → List ℕ → Kind → Bool
opens_kind version token kind = option_map_or (λ (by : GrantRow). opens by.grant.scopes kind Read) (grant_of token version.grants) false

-- what the consumer sees of the answer. One of these holds: no caller has the token; the pin isn't kept any more, is
-- older than the grant, or isn't published yet; the grant doesn't open the kind; the base isn't kept any more, is older
-- than the grant, or is newer than the version that is read; or the answer is a page of what differs
pub data TellsFrom (state : HubState) (page : Page) (base : ℕ) (seen : WireReply) : Type 0 where
  NotKnown : seen.status ≡ 401 → knows (newest_in state) page.token ≡ false → TellsFrom state page base seen
  PinGone : (pin : ℕ) (by : GrantRow) → page.pin ≡ Some pin → grant_of page.token (newest_in state).grants ≡ Some by
      → seen.status ≡ 404 → seen.oldest ≡ Some (max (oldest_number state) by.grant.since)
      → ((pin < oldest_number state) ⊎ ((pin < by.grant.since) ⊎ (newest_number state < pin))) → TellsFrom state page base seen
  NotOpened : (version : ℕ) → IsRead state page version → seen.status ≡ 403 → seen.version ≡ Some version
      → opens_kind (version_at state version) page.token page.kind ≡ false
      → list_in (version_at state version) page.token page.kind ≡ [] → TellsFrom state page base seen
  BaseGone : (version : ℕ) (by : GrantRow) → IsRead state page version → grant_of page.token (version_at state version).grants ≡ Some by
      → seen.status ≡ 404 → seen.oldest ≡ Some (max (oldest_number state) by.grant.since)
      → ((base < oldest_number state) ⊎ ((base < by.grant.since) ⊎ (version < base))) → TellsFrom state page base seen
  Differs : (version : ℕ) → IsRead state page version → seen.status ≡ 200 → seen.version ≡ Some version
      → opens_kind (version_at state version) page.token page.kind ≡ true
      → knows (version_at state base) page.token ≡ true → base ≤ version
      → seen.total ≡ Some (length (delta_at state page base version))
      → rows_in_text page.kind seen.body ≡ Ok (rows_put (slice page.limit page.offset (delta_at state page base version)))
      → gone_of seen.body ≡ Ok (ids_gone (slice page.limit page.offset (delta_at state page base version)))
      → TellsFrom state page base seen
