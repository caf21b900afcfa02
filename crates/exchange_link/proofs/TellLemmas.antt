-- What the hub answers to a request for a page, as the consumer reads it.
use Rattle.std.proofs.Common.{◌≡◌, ℕ, ℤ, ◌<◌, ◌==◌, ◌⊎◌, inl, inr, Bool, true, false, cond, List, [], ◌∷◌, drop, filter}
use Rattle.std.proofs.Common.{get_or, max, Option, None, Some, Ok, refl, sym, ap, subst, ◌∙◌, arith}
use Rattle.std.proofs.lemmas.Bool.{cases_lt}
use Rattle.std.specs.List.{AllByRecursion}
use Rattle.std.specs.Option.{option_map_or}
use Rattle.std.specs.Prelude.{is_some}
use Rattle.std.specs.Str.{is_utf8}
use Rattle.std.proofs.lemmas.Bool.Decides.{nat_tests}
use Rattle.std.proofs.lemmas.List.Elements.{All-from_recursion}
use Rattle.roster_values.proofs.KindLaws.{kind_from_place}
use Rattle.grant_scopes.specs.Opens.{opens}
use Rattle.grant_scopes.specs.declared.access.Access.TheVariants.{Read}
use Rattle.grant_scopes.specs.declared.grant.Grant.{Grant}
use Rattle.http_wire.specs.Replies.{body_text}
use Rattle.http_wire.specs.Seen.{seen_of}
use Rattle.hub_spec.proofs.PageRequestLemmas.{page_says}
use Rattle.hub_spec.specs.requests.Requests.{AnswersRequest}
use Rattle.hub_spec.specs.requests.PageRequests.{CanAsk}
use Rattle.hub_spec.specs.views.Cuts.{cut_of, kind_cut, list_in, no_rows}
use Rattle.hub_spec.specs.views.Seen.{seen, sees_row}
use Rattle.hub_spec.specs.views.Pages.{slice}
use Rattle.hub_spec.proofs.Cutting.{kind_in_cut}
use Rattle.hub_spec.proofs.Versions.{all_at, some_version}
use Rattle.hub_spec.specs.rules.Asking as asking
use Rattle.hub_spec.specs.rules.Checks.{version_at}
use Rattle.hub_spec.specs.rules.States.{HoldsRows, IsHub}
use Rattle.roster_types.specs.Keys.{is_of_kind}
use Rattle.roster_types.specs.Records.{Record}
use Rattle.roster_types.specs.Rows.{IsRow}
use Rattle.roster_values.specs.Kinds.{all_kinds, place_of_kind}
use Rattle.roster_values.specs.declared.kind.Kind.{Kind}
pub use Rattle.hub_spec.proofs.AgreeLemmas.{reads_keep}
use Rattle.hub_spec.proofs.CutDeltas.{none_at}
use Rattle.row_json.proofs.RowBack.{collection-back}
use Rattle.row_json.specs.Json.{collection_text}
use Rattle.row_json.specs.Reading.{IsHeld, rows_of as rows_in_text}
use Rattle.status_info.specs.Bodies.{status_body}
use Rattle.status_info.specs.Causes.{status_of}
use Rattle.status_info.specs.declared.cause.Cause.TheVariants as cause
use Rattle.status_info.specs.declared.reply.Reply.{Reply}
use Rattle.status_info.specs.declared.request.Echo.{Echo}
use Rattle.version_core.proofs.HistoryLemmas.{all_drop, all_take}
use Rattle.version_core.specs.Changes.{rows_of}
use Rattle.version_core.specs.Grants.{grant_of}
use Rattle.version_core.specs.HubStates.{HubState, newest_number, oldest_number}
use Rattle.version_core.specs.declared.change.BaseVersion.{BaseVersion}
use Rattle.version_core.specs.declared.grant_row.GrantRow.{GrantRow}
use Rattle.version_core.specs.declared.row_change.RowChange.{RowChange}
use Rattle.exchange_link.specs.Pages.{Page, asked_by, page_request}
use Rattle.exchange_link.specs.Sayings.{Gone, IsRead, Listed, Shut, Tells, Unknown}

-- ---- the rows of a list are rows of its kind

-- a row of this kind
pub record IsOf (kind : Kind) (row : Record) : Type 0 where
  pub is : IsHeld row
  pub of : row.kind ≡ kind

abbrev AreRows : List Record → Type 0
AreRows rows = AllByRecursion IsRow rows

held_rows : (changes : List RowChange) → AllByRecursion (λ (change : RowChange). IsRow change.row) changes → AreRows (rows_of changes)
held_rows [] all = tt
held_rows (change ∷ changes) all = (all.0, held_rows changes all.1)

kept_rows : (p : Record → Bool) (rows : List Record) → AreRows rows → AreRows (filter p rows)
kept_rows p [] all = tt
kept_rows p (row ∷ rows) all =
    elim (p row) as (λ b. AreRows (cond b (row ∷ filter p rows) (filter p rows))) [
      | true ↦ (all.0, kept_rows p rows all.1)
      | false ↦ kept_rows p rows all.1
    ]

is_of : (kind : Kind) (row : Record) → is_of_kind kind row ≡ true → IsRow row → IsOf kind row
is_of kind row e is = record { is = record { row = is; keys = is.fitting.metadata.keys }; of = kind_from_place row.kind kind (let same : place_of_kind row.kind ≡ place_of_kind kind = grind (arith, nat_tests, e) in same) }

of_kind : (kind : Kind) (rows : List Record) → AreRows rows → AllByRecursion (IsOf kind) (filter (is_of_kind kind) rows)
of_kind kind [] all = tt
of_kind kind (row ∷ rows) all =
    elim (is_of_kind kind row) as (λ b. is_of_kind kind row ≡ b → AllByRecursion (IsOf kind) (cond b (row ∷ filter (is_of_kind kind) rows) (filter (is_of_kind kind) rows))) [
      | true ↦ λ e. (is_of kind row e all.0, of_kind kind rows all.1)
      | false ↦ λ _. of_kind kind rows all.1
    ] refl

chosen : (kind : Kind) (b : Bool) (rows : List Record) → AllByRecursion (IsOf kind) rows → AllByRecursion (IsOf kind) (cond b rows [])
chosen kind true rows all = all
chosen kind false rows all = tt

cut_rows : (grant : Grant) (rows : List Record) (kind : Kind) → AreRows rows → AllByRecursion (IsOf kind) (kind_cut grant rows kind)
unfolding kind_cut
cut_rows grant rows kind all = chosen kind (opens grant.scopes kind Read) _ (of_kind kind (seen grant.schools rows) (kept_rows (sees_row grant.schools rows) rows all))

rows_for : (by : Option GrantRow) (rows : List Record) (kind : Kind) → AreRows rows
    → AllByRecursion (IsOf kind) (get_or (option_map_or (λ (row : GrantRow). cut_of row.grant rows) by no_rows) (place_of_kind kind) [])
rows_for None rows kind all = subst (AllByRecursion (IsOf kind)) (sym (none_at all_kinds (place_of_kind kind))) tt
rows_for (Some by) rows kind all = subst (AllByRecursion (IsOf kind)) (sym (kind_in_cut by.grant rows kind)) (cut_rows by.grant rows kind all)

pub list_rows : (version : BaseVersion) → HoldsRows version → (token : List ℕ) (kind : Kind) → AllByRecursion (IsOf kind) (list_in version token kind)
list_rows version holds token kind = rows_for (grant_of token version.grants) (rows_of version.rows) kind (held_rows version.rows holds)

pub are_held : (kind : Kind) (rows : List Record) → AllByRecursion (IsOf kind) rows → AllByRecursion IsHeld rows
are_held kind [] all = tt
are_held kind (row ∷ rows) all = (all.0.is, are_held kind rows all.1)

pub are_kind : (kind : Kind) (rows : List Record) → AllByRecursion (IsOf kind) rows → AllByRecursion (λ (row : Record). row.kind ≡ kind) rows
are_kind kind [] all = tt
are_kind kind (row ∷ rows) all = (all.0.of, are_kind kind rows all.1)

-- so the text of a part of it is read back as that part
read_back : (kind : Kind) (rows : List Record) (text : List ℕ) → AllByRecursion (IsOf kind) rows → text ≡ collection_text None kind rows → is_utf8 text ≡ true → rows_in_text kind text ≡ Ok rows
read_back kind rows text all is text_is =
    collection-back kind rows text (All-from_recursion IsHeld rows (are_held kind rows all)) (All-from_recursion (λ (row : Record). row.kind ≡ kind) rows (are_kind kind rows all)) is text_is

-- ---- the four answers

below_max : (n a b : ℕ) → n < max a b → (n < a) ⊎ (n < b)
below_max n a b lt = below n a b lt
  where
    below : (n a b : ℕ) → n < max a b → (n < a) ⊎ (n < b)
    below n a b lt = elim (cases_lt n a) as (λ _. (n < a) ⊎ (n < b)) [ inl here ↦ inl here | inr le ↦ inr (omega arith) ]

pub outside : (pin oldest since newest : ℕ) → (pin < max oldest since) ⊎ (newest < pin) → (pin < oldest) ⊎ ((pin < since) ⊎ (newest < pin))
outside pin oldest since newest (inl lt) = elim (below_max pin oldest since lt) as (λ _. (pin < oldest) ⊎ ((pin < since) ⊎ (newest < pin))) [ inl a ↦ inl a | inr b ↦ inr (inl b) ]
outside pin oldest since newest (inr lt) = inr (inr lt)

pub body_is : (reply : Reply) → reply.cause ≡ cause.Done → reply.headless ≡ false → body_text reply ≡ reply.body
unfolding body_text
body_is reply done whole = ap (λ c. cond reply.headless [] (cond (status_of c == 200) reply.body (cond (status_of c == 204) [] (status_body c)))) done ∙ ap (λ b. cond b [] reply.body) whole

module _ (state : HubState) (hub : IsHub state) (page : Page) where
  pub read_at : (by : GrantRow) (version : ℕ) → grant_of page.token (version_at state version).grants ≡ Some by → asking.IsRead state by page.pin version → IsRead state page version
  read_at by version found read = record {
    standing = (let le = read.stands in let some = some_version state hub.state in omega arith);
    known = ap is_some found;
    pinned = read.pinned;
  }

  tells : (reply : Reply) → is_utf8 (body_text reply) ≡ true → asking.IsPageReply state page.token (asked_by page) reply → Tells state page (seen_of reply)
  tells reply utf8 (asking.Unknown none is) = Unknown (ap status_of is) (ap is_some none)
  tells reply utf8 (asking.Gone by pin found asks out is oldest version) =
      Gone pin by asks found (ap status_of is) oldest (outside pin (oldest_number state) by.grant.since (newest_number state) out)
  tells reply utf8 (asking.Shut by version found read shut none is at) = Shut version (read_at by version found read) (ap status_of is) at none
  tells reply utf8 (asking.Listed by version found read opened is at total body whole) =
      let rows = list_in (version_at state version) page.token page.kind in
      let lt = (read_at by version found read).standing in
      let holds : HoldsRows (version_at state version) = all_at HoldsRows version state.published hub.rows lt in
      let part = all_take (IsOf page.kind) (drop page.offset rows) page.limit (all_drop (IsOf page.kind) rows page.offset (list_rows (version_at state version) holds page.token page.kind)) in
      Listed version (read_at by version found read) (ap status_of is) at total
      (read_back page.kind (slice page.limit page.offset rows) (body_text reply) part (body_is reply is whole ∙ body) utf8)

  -- a request for a page is told of the cut
  pub told_of : (echo : Echo) (at : ℤ) (reply : Reply) (left : HubState) → CanAsk (asked_by page) → is_utf8 (body_text reply) ≡ true
      → AnswersRequest state (page_request page echo) at reply left → Tells state page (seen_of reply)
  told_of echo at reply left can utf8 answers = tells reply utf8 (page_says state hub (asked_by page) can page.token (Some echo) at reply left answers).0
