-- What the hub answers to a request for what differs, as the consumer reads it.
use Rattle.std.proofs.Common.{◌≡◌, ◌<◌, ◌≤◌, ◌^◌, ℕ, ℤ, zero, suc, arith, length, true, false, List, [], ◌∷◌, drop}
use Rattle.std.proofs.Common.{take, Option, Some, Ok, ◌⊎◌, inl, inr, refl, sym, ap, ◌∙◌}
use Rattle.std.proofs.lemmas.Bool.{and_from}
use Rattle.std.specs.List.{AllByRecursion, list_all}
use Rattle.std.specs.Prelude.{is_some, max, unwrap_or}
use Rattle.std.specs.Str.{is_utf8}
use Rattle.std.proofs.lemmas.List.Elements.{All-from_recursion}
use Rattle.std.proofs.lemmas.Option.{same_Some}
use Rattle.std.specs.Option.{option_map_or}
use Rattle.grant_scopes.specs.Opens.{opens}
use Rattle.grant_scopes.specs.declared.access.Access.TheVariants.{Read}
use Rattle.http_wire.specs.Replies.{body_text}
use Rattle.http_wire.specs.Seen.{seen_of}
use Rattle.http_wire.specs.declared.reply_reading.WireReply.{WireReply}
use Rattle.hub_spec.proofs.DeltaRequestLemmas.{delta_says}
use Rattle.hub_spec.proofs.Versions.{all_at}
use Rattle.hub_spec.specs.requests.PageRequests.{CanAsk}
use Rattle.hub_spec.specs.requests.Requests.{AnswersRequest}
use Rattle.hub_spec.specs.rules.Checks.{version_at}
use Rattle.hub_spec.specs.rules.DeltaAsking as says
use Rattle.hub_spec.specs.rules.States.{HoldsRows, IsHub}
use Rattle.hub_spec.specs.rules.Verdicts.{newest_in}
use Rattle.hub_spec.specs.views.Cuts.{list_in}
use Rattle.hub_spec.specs.views.Pages.{slice}
use Rattle.roster_texts.specs.Texts.{is_id}
use Rattle.roster_types.specs.Records.{Record}
use Rattle.roster_values.specs.declared.kind.Kind.{Kind}
use Rattle.row_deltas.proofs.EntryLemmas.{all_entries}
use Rattle.row_deltas.specs.Deltas.{ids_gone, rows_put}
use Rattle.row_deltas.specs.declared.entry.DeltaEntry.{DeltaEntry}
use Rattle.row_deltas.specs.declared.entry.DeltaEntry.TheVariants.{Gone, Put}
use Rattle.row_json.proofs.DeltaBack.{gone-back, held-id, puts-back}
use Rattle.row_json.specs.Deltas.{delta_text, gone_of}
use Rattle.row_json.specs.Reading.{IsHeld, rows_of as rows_in_text}
use Rattle.status_info.specs.Causes.{status_of}
use Rattle.status_info.specs.declared.reply.Reply.{Reply}
use Rattle.status_info.specs.declared.request.Echo.{Echo}
use Rattle.version_core.specs.Grants.{grant_of}
use Rattle.version_core.specs.HubStates.{HubState, newest_number, oldest_number}
use Rattle.version_core.specs.declared.grant_row.GrantRow.{GrantRow}
use Rattle.exchange_link.proofs.TellLemmas.{IsOf, are_held, are_kind, body_is, list_rows, outside, read_at}
use Rattle.exchange_link.specs.DeltaPages.{delta_page_request}
use Rattle.exchange_link.specs.DeltaSayings.{BaseGone, Differs, NotKnown, NotOpened, PinGone, TellsFrom, delta_at}
use Rattle.exchange_link.specs.DeltaSayings.{opens_kind}
use Rattle.exchange_link.specs.Pages.{Page, asked_by}

-- nothing is below itself
first_two : (n a b : ℕ) → (n < a) ⊎ ((n < b) ⊎ (n < n)) → (n < a) ⊎ (n < b)
first_two n a b (inl lt) = inl lt
first_two n a b (inr (inl lt)) = inr lt
first_two n a b (inr (inr lt)) = absurd (omega (arith, lt))

-- the pin of a page is gone: it is kept no longer, or is older than the grant as it stands in the newest version
abbrev pub PinLaw : HubState → Page → WireReply → Type 0
PinLaw state page seen = (pin oldest : ℕ) → page.pin ≡ Some pin → seen.status ≡ 404 → seen.oldest ≡ Some oldest → pin < oldest
    → (by : GrantRow) × (grant_of page.token (newest_in state).grants ≡ Some by) × ((pin < oldest_number state) ⊎ (pin < by.grant.since))

-- an entry that a text says as it is: of a row of the kind, or of a good id
abbrev IsSaid : Kind → DeltaEntry → Type 0
IsSaid kind (Put row) = IsOf kind row
IsSaid kind (Gone id) = is_id id ≡ true

good_ids : (kind : Kind) (rows : List Record) → AllByRecursion (IsOf kind) rows → AllByRecursion (λ (row : Record). is_id row.id ≡ true) rows
good_ids kind [] all = tt
good_ids kind (row ∷ rows) all = (held-id row all.0.is, good_ids kind rows all.1)

dropped : (P : DeltaEntry → Type 0) (n : ℕ) (es : List DeltaEntry) → AllByRecursion P es → AllByRecursion P (drop n es)
dropped P zero es all = all
dropped P (suc n) [] all = tt
dropped P (suc n) (e ∷ es) all = dropped P n es all.1

taken : (P : DeltaEntry → Type 0) (n : ℕ) (es : List DeltaEntry) → AllByRecursion P es → AllByRecursion P (take n es)
taken P zero es all = tt
taken P (suc n) [] all = tt
taken P (suc n) (e ∷ es) all = (all.0, taken P n es all.1)

puts_said : (kind : Kind) (es : List DeltaEntry) → AllByRecursion (IsSaid kind) es → AllByRecursion (IsOf kind) (rows_put es)
puts_said kind [] all = tt
puts_said kind (Put row ∷ es) all = (all.0, puts_said kind es all.1)
puts_said kind (Gone id ∷ es) all = puts_said kind es all.1

gone_said : (kind : Kind) (es : List DeltaEntry) → AllByRecursion (IsSaid kind) es → list_all is_id (ids_gone es) ≡ true
gone_said kind [] all = refl
gone_said kind (Put row ∷ es) all = gone_said kind es all.1
gone_said kind (Gone id ∷ es) all = and_from (is_id id) (list_all is_id (ids_gone es)) all.0 (gone_said kind es all.1)

-- so the text of a part of a delta is read back as that part
module _ (kind : Kind) (es : List DeltaEntry) (said : AllByRecursion (IsSaid kind) es) (text : List ℕ) (is : text ≡ delta_text kind (rows_put es) (ids_gone es)) (text_is : is_utf8 text ≡ true) where
  are : AllByRecursion (IsOf kind) (rows_put es)
  are = puts_said kind es said

  rows_read : rows_in_text kind text ≡ Ok (rows_put es)
  rows_read =
      puts-back kind (rows_put es) (ids_gone es) text (All-from_recursion IsHeld (rows_put es) (are_held kind (rows_put es) are))
      (All-from_recursion (λ (row : Record). row.kind ≡ kind) (rows_put es) (are_kind kind (rows_put es) are)) is text_is

  ids_read : gone_of text ≡ Ok (ids_gone es)
  ids_read = gone-back kind (rows_put es) (ids_gone es) text (All-from_recursion IsHeld (rows_put es) (are_held kind (rows_put es) are)) (gone_said kind es said) is text_is

module _ (state : HubState) (hub : IsHub state) (page : Page) (base : ℕ) where
  abbrev list_at : ℕ → List Record
  list_at version = list_in (version_at state version) page.token page.kind

  rows_at : (version : ℕ) → version < length state.published → AllByRecursion (IsOf page.kind) (list_at version)
  rows_at version lt = list_rows (version_at state version) (all_at HoldsRows version state.published hub.rows lt) page.token page.kind

  abbrev part : ℕ → List DeltaEntry
  part version = slice page.limit page.offset (delta_at state page base version)

  part_said : (version : ℕ) → version < length state.published → base ≤ version → AllByRecursion (IsSaid page.kind) (part version)
  part_said version lt low =
      taken (IsSaid page.kind) page.limit (drop page.offset (delta_at state page base version)) (dropped (IsSaid page.kind) page.offset (delta_at state page base version)
      (all_entries page.kind (IsSaid page.kind) (list_at base) (list_at version) (good_ids page.kind (list_at base) (rows_at base (omega (arith, lt, low)))) (rows_at version lt)))

  opened_by : (by : GrantRow) (version : ℕ) → grant_of page.token (version_at state version).grants ≡ Some by → opens_kind (version_at state version) page.token page.kind ≡ opens by.grant.scopes page.kind Read
  opened_by by version found = ap (λ (o : Option GrantRow). option_map_or (λ (by : GrantRow). opens by.grant.scopes page.kind Read) o false) found

  tells_from : (reply : Reply) → is_utf8 (body_text reply) ≡ true → says.IsDeltaReply state page.token (asked_by page) base reply → TellsFrom state page base (seen_of reply)
  tells_from reply utf8 (says.NotKnown none is) = NotKnown (ap status_of is) (ap is_some none)
  tells_from reply utf8 (says.PinGone by pin found asks out is oldest version) =
      PinGone pin by asks found (ap status_of is) oldest (outside pin (oldest_number state) by.grant.since (newest_number state) out)
  tells_from reply utf8 (says.NotOpened by version found read shut none is at) = NotOpened version (read_at state hub page by version found read) (ap status_of is) at (opened_by by version found ∙ shut) none
  tells_from reply utf8 (says.BaseGone by version found read out is oldest at) =
      BaseGone version by (read_at state hub page by version found read) found (ap status_of is) oldest (outside base (oldest_number state) by.grant.since version out)
  tells_from reply utf8 (says.Differs by version found based read opened low high is at total body whole) =
      let reads = read_at state hub page by version found read in
      let said = part_said version reads.standing high in
      let text : body_text reply ≡ delta_text page.kind (rows_put (part version)) (ids_gone (part version)) = body_is reply is whole ∙ body in
      Differs version reads (ap status_of is) at (opened_by by version found ∙ opened) (ap is_some based) high total
      (rows_read page.kind (part version) said (body_text reply) text utf8) (ids_read page.kind (part version) said (body_text reply) text utf8)

  -- a request for what differs is told of the delta
  pub delta_told_of : (echo : Echo) (at : ℤ) (reply : Reply) (left : HubState) → CanAsk (asked_by page) → base < 10 ^ 18 → is_utf8 (body_text reply) ≡ true
      → AnswersRequest state (delta_page_request page base echo) at reply left → TellsFrom state page base (seen_of reply)
  delta_told_of echo at reply left can small utf8 answers = tells_from reply utf8 (delta_says state hub (asked_by page) can base small page.token (Some echo) at reply left answers).0

  -- the pin itself is gone only where it isn't kept, or the grant is younger
  law_from : (reply : Reply) → says.IsDeltaReply state page.token (asked_by page) base reply → (pin oldest : ℕ) → page.pin ≡ Some pin → status_of reply.cause ≡ 404 → reply.oldest ≡ Some oldest → pin < oldest
      → (by : GrantRow) × (grant_of page.token (newest_in state).grants ≡ Some by) × ((pin < oldest_number state) ⊎ (pin < by.grant.since))
  law_from reply (says.NotKnown none is) pin oldest asks status old lt = let s : status_of reply.cause ≡ 401 = ap status_of is in absurd (omega (arith, status, s))
  law_from reply (says.NotOpened by version found read shut none is at) pin oldest asks status old lt = let s : status_of reply.cause ≡ 403 = ap status_of is in absurd (omega (arith, status, s))
  law_from reply (says.Differs by version found based read opened low high is at total body whole) pin oldest asks status old lt = let s : status_of reply.cause ≡ 200 = ap status_of is in absurd (omega (arith, status, s))
  law_from reply (says.PinGone by p found asked out is tells version) pin oldest asks status old lt =
      let same : max (oldest_number state) by.grant.since ≡ oldest = same_Some _ _ (sym tells ∙ old) in
      let below : pin < max (oldest_number state) by.grant.since = omega (arith, lt, same) in
      (by, found, first_two pin (oldest_number state) by.grant.since (outside pin (oldest_number state) by.grant.since pin (inl below)))
  law_from reply (says.BaseGone by version found read out is tells at) pin oldest asks status old lt =
      let same : max (oldest_number state) by.grant.since ≡ oldest = same_Some _ _ (sym tells ∙ old) in
      let read_is : version ≡ pin = read.pinned ∙ ap (λ o. unwrap_or o (newest_number state)) asks in
      let kept : oldest_number state ≤ version = read.kept in
      let since : by.grant.since ≤ version = read.since in
      absurd (omega (arith, lt, same, read_is, kept, since))

  pub delta_law_of : (echo : Echo) (at : ℤ) (reply : Reply) (left : HubState) → CanAsk (asked_by page) → base < 10 ^ 18 → AnswersRequest state (delta_page_request page base echo) at reply left → PinLaw state page (seen_of reply)
  delta_law_of echo at reply left can small answers = law_from reply (delta_says state hub (asked_by page) can base small page.token (Some echo) at reply left answers).0
