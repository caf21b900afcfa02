-- What the hub says to a consumer's request.
use Rattle.std.proofs.Common.{◌≡◌, ◌<◌, ◌≤◌, ◌⊎◌, inl, inr, arith, unwrap_or, nat_lt, not, ℕ, ℤ, List, [], Bool, true}
use Rattle.std.proofs.Common.{false, ◌&&◌, cond, filter, length, Option, None, Some, option_map, Ok, Err, refl, sym, ap}
use Rattle.std.proofs.Common.{◌∙◌}
use Rattle.std.proofs.lemmas.Bool.{ltb-false, not-true}
use Rattle.hub_spec.specs.rules.Answers.{Answered, Answers, either, sent}
use Rattle.hub_spec.specs.rules.Checks.{Entry, check, first_open, may_read, pin_refused, refused, refused_at}
use Rattle.hub_spec.specs.rules.Checks.{version_at}
use Rattle.hub_spec.specs.rules.Checks.{version_read}
use Rattle.hub_spec.specs.rules.Reads.{contents_of, page_shown, read_at, rows_seen_by, shown}
use Rattle.hub_spec.specs.rules.Asking.{Asking, IsRead, IsPageReply, Unknown, Gone, Shut, Listed, asking, query_for}
use Rattle.hub_spec.specs.rules.States.{IsHub}
use Rattle.hub_spec.proofs.Cutting.{known_at, rows_are_cut, since_newest}
use Rattle.hub_spec.proofs.Versions.{rows_ascend}
use Rattle.std.proofs.lemmas.Bool.Decides.{nat_tests}
use Rattle.hub_spec.specs.rules.Verdicts.{newest_in}
use Rattle.hub_spec.specs.rules.Wanted.{Wanted}
use Rattle.hub_spec.proofs.ListLemmas.{ascends_kept, list_of-whole}
use Rattle.hub_spec.specs.views.Cuts.{kind_cut, list_in}
use Rattle.hub_spec.specs.views.Lists.{list_of}
use Rattle.hub_spec.specs.views.Pages.{page_of_list, slice, whole}
use Rattle.hub_spec.specs.views.Rules.{rule_of}
use Rattle.grant_scopes.specs.Opens.{opens}
use Rattle.hub_spec.specs.views.Seen.{sees_row}
use Rattle.grant_scopes.specs.declared.access.Access.TheVariants.{Read}
use Rattle.reference_rules.proofs.KeyOrder.{and_first, and_second}
use Rattle.roster_base.specs.Reading.{◌>>=◌}
use Rattle.roster_texts.specs.Results.{found_or}
use Rattle.roster_types.specs.Keys.{Ascends, is_of_kind, row_key}
use Rattle.roster_types.specs.Records.{Record}
use Rattle.status_info.specs.declared.cause.Cause.TheVariants as cause
use Rattle.status_info.specs.declared.reply.Reply.{Reply}
use Rattle.status_info.specs.declared.request.Echo.{Echo}
use Rattle.row_json.specs.Json.{collection_text}
use Rattle.version_core.proofs.RowsOf.{is_sorted-rows_of}
use Rattle.version_core.specs.Changes.{rows_of}
use Rattle.version_core.specs.Grants.{grant_of}
use Rattle.version_core.specs.HubStates.{HubState, newest_number}
use Rattle.version_core.specs.declared.grant_row.GrantRow.{GrantRow}

-- what the test of a pin says
pub within : (pin low high : ℕ) → (not (nat_lt pin low) && not (nat_lt high pin)) ≡ true → (low ≤ pin) × (pin ≤ high)
within pin low high e =
    let one = and_first (not (nat_lt pin low)) _ e in
    let two = and_second (not (nat_lt pin low)) _ e in
    (ltb-false pin low (not-true _ one), ltb-false high pin (not-true _ two))

pub outside : (pin low high : ℕ) → (not (nat_lt pin low) && not (nat_lt high pin)) ≡ false → (pin < low) ⊎ (high < pin)
outside pin low high e =
    elim (nat_lt pin low) as (λ b. nat_lt pin low ≡ b → (not b && not (nat_lt high pin)) ≡ false → (pin < low) ⊎ (high < pin)) [
      | true ↦ λ f _. inl (grind (arith, nat_tests))
      | false ↦ λ _ g. inr (above high pin g)
    ] refl e
  where
    above : (n m : ℕ) → not (nat_lt n m) ≡ false → n < m
    above n m e = elim (nat_lt n m) as (λ b. nat_lt n m ≡ b → not b ≡ false → n < m) [ true ↦ λ f _. grind (arith, nat_tests) | false ↦ λ _ e. cc ] refl e

module _ (state : HubState) (by : GrantRow) (pin : ℕ) where
  pub open_read : {p : Option ℕ} → p ≡ Some pin → may_read state by pin ≡ true → IsRead state by p pin
  open_read asked opened =
      let facts = within pin (first_open state by) (newest_number state) opened in
      let low = facts.0 in
      record { pinned = sym (ap (λ o. unwrap_or o (newest_number state)) asked); kept = omega arith; since = omega arith; stands = facts.1 }

  pub closed_pin : may_read state by pin ≡ false → (pin < first_open state by) ⊎ (newest_number state < pin)
  closed_pin closed = outside pin (first_open state by) (newest_number state) closed

pub newest_read : (state : HubState) (by : GrantRow) {p : Option ℕ} → p ≡ None → by.grant.since ≤ newest_number state → IsRead state by p (newest_number state)
newest_read state by asked since =
    record { pinned = sym (ap (λ o. unwrap_or o (newest_number state)) asked); kept = omega arith; since = since; stands = omega arith }

module _ (state : HubState) (hub : IsHub state) (token : List ℕ) (ask : Asking) (echo : Option Echo) (reply : Reply) where
  wanted : Wanted
  wanted = asking token ask echo

  entry : GrantRow → Entry
  entry by = record { path = whole ask.kind; by = by }

  rows_at : GrantRow → ℕ → List Record
  rows_at by version = rows_seen_by state by version

  ascends_at : (by : GrantRow) (version : ℕ) → Ascends row_key (rows_at by version)
  unfolding rows_at
  ascends_at by version =
      let rows = (version_at state version).rows in
      ascends_kept (sees_row by.grant.schools (rows_of rows)) (rows_of rows) (is_sorted-rows_of rows ∙ rows_ascend state hub.state version)

  module _ (by : GrantRow) (known : grant_of token (newest_in state).grants ≡ Some by) where
    said_listed : (version : ℕ) → IsRead state by ask.pin version → opens by.grant.scopes ask.kind Read ≡ true
        → reply ≡ sent wanted (either (found_or (refused_at wanted version cause.NoSuchObject) (contents_of (rows_at by version) version (whole ask.kind) (query_for ask)) >>= λ contents. Ok (shown wanted version (query_for ask) contents)))
        → IsPageReply state token ask reply
    unfolding wanted rows_at rule_of kind_cut
    said_listed version reads opened said =
        let path = whole ask.kind in
        let query = query_for ask in
        let rows = filter (is_of_kind ask.kind) (rows_at by version) in
        let listed : list_of (rows_at by version) path query ≡ Some rows = list_of-whole ask.kind (rows_at by version) query (record { test = refl; sort = refl; order = refl }) (ascends_at by version) in
        let same : list_in (version_at state version) token ask.kind ≡ rows = rows_are_cut state hub token by known ask.kind version reads.since reads.stands ∙ ap (λ b. cond b rows []) opened in
        let f : Option (List Record) → Reply = λ l. sent wanted (either (found_or (refused_at wanted version cause.NoSuchObject)
        (option_map (page_shown ask.kind query) (option_map (page_of_list path query version) l)) >>= λ contents. Ok (shown wanted version query contents))) in
        let e : reply ≡ f (Some rows) = said ∙ ap f listed in
        Listed by version (known_at state hub token by known version reads.since reads.stands) reads opened (ap (λ (r : Reply). r.cause) e) (ap (λ (r : Reply). r.version) e)
        (ap (λ (r : Reply). r.total) e ∙ ap (λ xs. Some (length xs)) (sym same))
        (ap (λ (r : Reply). r.body) e ∙ ap (λ xs. collection_text None ask.kind (slice ask.limit ask.offset xs)) (sym same))
        (ap (λ (r : Reply). r.headless) e)

    said_at : (version : ℕ) → IsRead state by ask.pin version → reply ≡ sent wanted (either (read_at state wanted (entry by) version)) → IsPageReply state token ask reply
    unfolding wanted entry rows_at rule_of read_at kind_cut
    said_at version reads said =
        let rest : Bool → Reply = λ b. sent wanted (either (check b (refused_at wanted version cause.ScopeMissing) >>= λ _. found_or (refused_at wanted version cause.NoSuchObject) (contents_of (rows_at by version) version (whole ask.kind) (query_for ask)) >>= λ contents. Ok (shown wanted version (query_for ask) contents))) in
        elim (opens by.grant.scopes ask.kind Read) as (λ b. opens by.grant.scopes ask.kind Read ≡ b → reply ≡ rest b → IsPageReply state token ask reply) [
          | true ↦ λ opened e. said_listed version reads opened e
          | false ↦ λ shut e.
              let none : list_in (version_at state version) token ask.kind ≡ [] = rows_are_cut state hub token by known ask.kind version reads.since reads.stands ∙ ap (λ b. cond b (filter (is_of_kind ask.kind) (rows_at by version)) []) shut in
              Shut by version (known_at state hub token by known version reads.since reads.stands) reads shut none (ap (λ (r : Reply). r.cause) e) (ap (λ (r : Reply). r.version) e)
        ] refl said

    said_open : (pin : ℕ) → ask.pin ≡ Some pin → reply ≡ sent wanted (either (version_read state by wanted (Some pin) >>= read_at state wanted (entry by))) → IsPageReply state token ask reply
    unfolding wanted entry
    said_open pin asked said =
        elim (may_read state by pin) as (λ b. may_read state by pin ≡ b → reply ≡ sent wanted (either (cond b (Ok pin) (Err (pin_refused state by wanted)) >>= read_at state wanted (entry by))) → IsPageReply state token ask reply) [
          | true ↦ λ opened e. said_at pin (open_read state by pin asked opened) e
          | false ↦ λ closed e. Gone by pin known asked (closed_pin state by pin closed) (ap (λ (r : Reply). r.cause) e) (ap (λ (r : Reply). r.oldest) e) (ap (λ (r : Reply). r.version) e)
        ] refl said

    said_pinned : (p : Option ℕ) → ask.pin ≡ p → reply ≡ sent wanted (either (version_read state by wanted p >>= read_at state wanted (entry by))) → IsPageReply state token ask reply
    said_pinned None asked said = said_at (newest_number state) (newest_read state by asked (since_newest state hub token by known)) said
    said_pinned (Some pin) asked said = said_open pin asked said

  said_entered : (o : Option GrantRow) (at : ℤ) (after : HubState) → grant_of token (newest_in state).grants ≡ o
      → Answered state wanted at (found_or (refused wanted cause.NoKnownToken) o >>= λ by. Ok (entry by)) reply after
      → IsPageReply state token ask reply × (after ≡ state)
  unfolding wanted entry
  said_entered None at after is said = (Unknown is (ap (λ (r : Reply). r.cause) said.0), said.1)
  said_entered (Some by) at after is said = (said_pinned by is ask.pin refl said.0, said.1)

-- a consumer's request is answered with one of four, and leaves the state
pub says : (state : HubState) → IsHub state → (token : List ℕ) (ask : Asking) (echo : Option Echo) (at : ℤ) (reply : Reply) (after : HubState)
    → Answers state (asking token ask echo) at reply after → IsPageReply state token ask reply × (after ≡ state)
unfolding Answers wanted entry
says state hub token ask echo at reply after said = said_entered state hub token ask echo reply (grant_of token (newest_in state).grants) at after refl said
