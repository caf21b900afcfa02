-- What the hub says to a consumer that holds a version.
use Rattle.std.proofs.Common.{◌≡◌, ◌≤◌, arith, ℕ, ℤ, List, [], Bool, true, false, cond, filter, length, Option, None}
use Rattle.std.proofs.Common.{Some, Ok, Err, refl, sym, ap, ◌∙◌}
use Rattle.row_json.specs.Deltas.{delta_text}
use Rattle.grant_scopes.specs.Opens.{opens}
use Rattle.grant_scopes.specs.declared.access.Access.TheVariants.{Read}
use Rattle.hub_spec.proofs.Cutting.{known_at, rows_are_cut, since_newest}
use Rattle.hub_spec.proofs.Saying.{closed_pin, newest_read, open_read, outside, within}
use Rattle.hub_spec.specs.rules.Answers.{Answered, Answers, either, sent}
use Rattle.hub_spec.specs.rules.Asking.{Asking, IsRead}
use Rattle.hub_spec.specs.rules.Checks.{Entry, base_refused, check, first_open, is_base, may_read, pin_refused, refused}
use Rattle.hub_spec.specs.rules.Checks.{refused_at, version_at, version_read}
use Rattle.hub_spec.specs.rules.DeltaAsking.{IsDeltaReply, NotKnown, PinGone, NotOpened, BaseGone, Differs, asking_from}
use Rattle.hub_spec.specs.rules.DeltaAsking.{query_from}
use Rattle.hub_spec.specs.rules.Reads.{Contents, delta_shown, read_at, rows_seen_by, shown}
use Rattle.hub_spec.specs.rules.States.{IsHub}
use Rattle.hub_spec.specs.rules.Verdicts.{newest_in}
use Rattle.hub_spec.specs.rules.Wanted.{Wanted}
use Rattle.hub_spec.specs.views.Cuts.{kind_cut, list_in}
use Rattle.hub_spec.specs.views.Deltas.{delta, kind_delta, page_of_delta}
use Rattle.hub_spec.specs.views.Pages.{slice, whole}
use Rattle.hub_spec.specs.views.Rules.{rule_of}
use Rattle.roster_base.specs.Reading.{◌>>=◌}
use Rattle.roster_texts.specs.Results.{found_or}
use Rattle.roster_types.specs.Keys.{is_of_kind}
use Rattle.roster_types.specs.Records.{Record}
use Rattle.row_deltas.specs.Deltas.{delta_of, ids_gone, rows_put}
use Rattle.row_deltas.specs.declared.entry.DeltaEntry.{DeltaEntry}
use Rattle.status_info.specs.declared.cause.Cause.TheVariants as cause
use Rattle.status_info.specs.declared.reply.Reply.{Reply}
use Rattle.status_info.specs.declared.request.Echo.{Echo}
use Rattle.version_core.specs.Grants.{grant_of}
use Rattle.version_core.specs.HubStates.{HubState, newest_number}
use Rattle.version_core.specs.declared.grant_row.GrantRow.{GrantRow}

module _ (state : HubState) (hub : IsHub state) (token : List ℕ) (ask : Asking) (base : ℕ) (echo : Option Echo) (reply : Reply) where
  wanted : Wanted
  wanted = asking_from token ask base echo

  entry : GrantRow → Entry
  entry by = record { path = whole ask.kind; by = by }

  rows_at : GrantRow → ℕ → List Record
  rows_at by version = rows_seen_by state by version

  -- what a 200 has
  page_at : GrantRow → ℕ → Contents
  page_at by version = delta_shown ask.kind (page_of_delta (whole ask.kind) (query_from ask base) version (kind_delta ask.kind (rows_at by base) (rows_at by version)))

  module _ (by : GrantRow) (known : grant_of token (newest_in state).grants ≡ Some by) where
    kind_rows : (version : ℕ) → by.grant.since ≤ version → version ≤ newest_number state → opens by.grant.scopes ask.kind Read ≡ true → list_in (version_at state version) token ask.kind ≡ filter (is_of_kind ask.kind) (rows_at by version)
    unfolding rows_at kind_cut
    kind_rows version since stands opened = rows_are_cut state hub token by known ask.kind version since stands ∙ ap (λ b. cond b (filter (is_of_kind ask.kind) (rows_at by version)) []) opened

    said_differs : (version : ℕ) → IsRead state by ask.pin version → opens by.grant.scopes ask.kind Read ≡ true → first_open state by ≤ base → base ≤ version
        → reply ≡ sent wanted (shown wanted version (query_from ask base) (page_at by version)) → IsDeltaReply state token ask base reply
    unfolding wanted page_at rule_of
    said_differs version reads opened low high said =
        let until = reads.stands in
        let before = kind_rows base (omega (arith, low)) (omega (arith, high, until)) opened in
        let after = kind_rows version reads.since reads.stands opened in
        let same : delta (version_at state base) (version_at state version) token ask.kind ≡ kind_delta ask.kind (rows_at by base) (rows_at by version) = λ i. delta_of ask.kind (before i) (after i) in
        Differs by version (known_at state hub token by known version reads.since reads.stands) (known_at state hub token by known base (omega (arith, low)) (omega (arith, high, until))) reads opened low high
        (ap (λ (r : Reply). r.cause) said) (ap (λ (r : Reply). r.version) said)
        (ap (λ (r : Reply). r.total) said ∙ ap (λ es. Some (length es)) (sym same))
        (ap (λ (r : Reply). r.body) said ∙ ap (λ (es : List DeltaEntry). delta_text ask.kind (rows_put (slice ask.limit ask.offset es)) (ids_gone (slice ask.limit ask.offset es))) (sym same))
        (ap (λ (r : Reply). r.headless) said)

    said_opened : (version : ℕ) → IsRead state by ask.pin version → opens by.grant.scopes ask.kind Read ≡ true
        → reply ≡ sent wanted (either (check (is_base state by version base) (base_refused state by wanted version) >>= λ _. Ok (shown wanted version (query_from ask base) (page_at by version)))) → IsDeltaReply state token ask base reply
    unfolding wanted
    said_opened version reads opened said =
        let rest : Bool → Reply = λ b. sent wanted (either (check b (base_refused state by wanted version) >>= λ _. Ok (shown wanted version (query_from ask base) (page_at by version)))) in
        elim (is_base state by version base) as (λ b. is_base state by version base ≡ b → reply ≡ rest b → IsDeltaReply state token ask base reply) [
          | true ↦ λ passes e. let facts = within base (first_open state by) version passes in said_differs version reads opened facts.0 facts.1 e
          | false ↦ λ fails e. BaseGone by version (known_at state hub token by known version reads.since reads.stands) reads (outside base (first_open state by) version fails)
              (ap (λ (r : Reply). r.cause) e) (ap (λ (r : Reply). r.oldest) e) (ap (λ (r : Reply). r.version) e)
        ] refl said

    said_at : (version : ℕ) → IsRead state by ask.pin version → reply ≡ sent wanted (either (read_at state wanted (entry by) version)) → IsDeltaReply state token ask base reply
    unfolding wanted entry page_at rows_at rule_of read_at kind_cut
    said_at version reads said =
        let rest : Bool → Reply = λ b. sent wanted (either (check b (refused_at wanted version cause.ScopeMissing) >>= λ _. check (is_base state by version base) (base_refused state by wanted version) >>= λ _. Ok (shown wanted version (query_from ask base) (page_at by version)))) in
        elim (opens by.grant.scopes ask.kind Read) as (λ b. opens by.grant.scopes ask.kind Read ≡ b → reply ≡ rest b → IsDeltaReply state token ask base reply) [
          | true ↦ λ opened e. said_opened version reads opened e
          | false ↦ λ shut e.
              let none : list_in (version_at state version) token ask.kind ≡ [] = rows_are_cut state hub token by known ask.kind version reads.since reads.stands ∙ ap (λ b. cond b (filter (is_of_kind ask.kind) (rows_at by version)) []) shut in
              NotOpened by version (known_at state hub token by known version reads.since reads.stands) reads shut none (ap (λ (r : Reply). r.cause) e) (ap (λ (r : Reply). r.version) e)
        ] refl said

    said_open : (pin : ℕ) → ask.pin ≡ Some pin → reply ≡ sent wanted (either (version_read state by wanted (Some pin) >>= read_at state wanted (entry by))) → IsDeltaReply state token ask base reply
    unfolding wanted entry
    said_open pin asked said =
        elim (may_read state by pin) as (λ b. may_read state by pin ≡ b → reply ≡ sent wanted (either (cond b (Ok pin) (Err (pin_refused state by wanted)) >>= read_at state wanted (entry by))) → IsDeltaReply state token ask base reply) [
          | true ↦ λ opened e. said_at pin (open_read state by pin asked opened) e
          | false ↦ λ closed e. PinGone by pin known asked (closed_pin state by pin closed) (ap (λ (r : Reply). r.cause) e) (ap (λ (r : Reply). r.oldest) e) (ap (λ (r : Reply). r.version) e)
        ] refl said

    said_pinned : (p : Option ℕ) → ask.pin ≡ p → reply ≡ sent wanted (either (version_read state by wanted p >>= read_at state wanted (entry by))) → IsDeltaReply state token ask base reply
    said_pinned None asked said = said_at (newest_number state) (newest_read state by asked (since_newest state hub token by known)) said
    said_pinned (Some pin) asked said = said_open pin asked said

  said_entered : (o : Option GrantRow) (at : ℤ) (after : HubState) → grant_of token (newest_in state).grants ≡ o
      → Answered state wanted at (found_or (refused wanted cause.NoKnownToken) o >>= λ by. Ok (entry by)) reply after
      → IsDeltaReply state token ask base reply × (after ≡ state)
  unfolding wanted entry
  said_entered None at after is said = (NotKnown is (ap (λ (r : Reply). r.cause) said.0), said.1)
  said_entered (Some by) at after is said = (said_pinned by is ask.pin refl said.0, said.1)

-- a consumer's request for what differs is answered with one of five, and leaves the state
pub says_from : (state : HubState) → IsHub state → (token : List ℕ) (ask : Asking) (base : ℕ) (echo : Option Echo) (at : ℤ) (reply : Reply) (after : HubState)
    → Answers state (asking_from token ask base echo) at reply after → IsDeltaReply state token ask base reply × (after ≡ state)
unfolding Answers wanted entry
says_from state hub token ask base echo at reply after said = said_entered state hub token ask base echo reply (grant_of token (newest_in state).grants) at after refl said
