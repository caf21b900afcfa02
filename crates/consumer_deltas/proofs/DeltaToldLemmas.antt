-- What is gathered over a link that tells is the delta.
use Rattle.std.proofs.Common.{◌≡◌, ◌≢◌, ◌+◌, ◌<◌, ◌≤◌, ℕ, List, [], ◌∷◌, ◌++◌, length, length-append, take, drop}
use Rattle.std.proofs.Common.{Result, Ok, refl, sym, ap, ◌∙◌, arith, append_assoc}
use Rattle.std.proofs.Math.Seq.{drop-append_seam}
use Rattle.std.proofs.lemmas.List.{take-append-drop}
use Rattle.std.proofs.lemmas.Option.{same_Some}
use Rattle.consumer_sync.proofs.AgreeLemmas.{ok_rows}
use Rattle.exchange_link.specs.DeltaSayings.{BaseGone, Differs, NotKnown, NotOpened, PinGone, TellsFrom}
use Rattle.exchange_link.specs.Sayings.{knows}
use Rattle.http_wire.specs.declared.reply_reading.WireReply.{WireReply}
use Rattle.hub_spec.specs.rules.Checks.{version_at}
use Rattle.hub_spec.specs.rules.Growth.{Grew}
use Rattle.hub_spec.proofs.CutDeltas.{cut_to_cut}
use Rattle.hub_spec.specs.views.Cuts.{list_in}
use Rattle.hub_spec.specs.views.Deltas.{delta}
use Rattle.hub_spec.specs.views.Pages.{slice}
use Rattle.row_deltas.proofs.MergeLemmas.{ids_gone-append, rows_put-append}
use Rattle.roster_values.specs.declared.kind.Kind.{Kind}
use Rattle.row_deltas.specs.Deltas.{ids_gone, merged, rows_put}
use Rattle.row_deltas.specs.declared.entry.DeltaEntry.{DeltaEntry}
use Rattle.row_deltas.specs.declared.entry.DeltaEntry.TheVariants.{Gone, Put}
use Rattle.row_json.specs.declared.fault.JsonFault.{JsonFault}
use Rattle.version_core.specs.HubStates.{HubState}
use Rattle.version_core.specs.Version.{IsVersion}
use Rattle.version_core.specs.declared.change.BaseVersion.{BaseVersion}
use Rattle.consumer_deltas.proofs.DeltaJudgeLemmas.{IsPart}
use Rattle.consumer_deltas.specs.DeltaGathering.{AreFirst, IsPartOf}
use Rattle.consumer_deltas.specs.DeltaJudging.{Sofar, count_in, with_page}
use Rattle.consumer_deltas.specs.DeltaRequests.{page_asked}
use Rattle.consumer_deltas.specs.declared.gathered.Entries.{Entries}
use Rattle.consumer_deltas.specs.declared.judging.Place.{Place}

-- an entry is a row that is put or an id that is gone
pub entry_count : (es : List DeltaEntry) → length (rows_put es) + length (ids_gone es) ≡ length es
entry_count [] = refl
entry_count (Put row ∷ es) = let e = entry_count es in omega (arith, e)
entry_count (Gone id ∷ es) = let e = entry_count es in omega (arith, e)

seen_count : (sofar : Sofar) (all : List DeltaEntry) (first : AreFirst sofar all) → count_in sofar ≡ length first.seen
seen_count sofar all first = (λ i. length (first.puts i) + length (first.gone i)) ∙ entry_count first.seen

-- behind them there are the others
pub rest_is : (sofar : Sofar) (all : List DeltaEntry) (first : AreFirst sofar all) → drop (count_in sofar) all ≡ first.rest
rest_is sofar all first = (λ i. drop (seen_count sofar all first i) (sym first.joined i)) ∙ drop-append_seam first.seen first.rest

-- with a page behind them
pub first_on : (sofar : Sofar) (page : Entries) (total limit : ℕ) (all : List DeltaEntry) → AreFirst sofar all
    → page.puts ≡ rows_put (slice limit (count_in sofar) all) → page.gone ≡ ids_gone (slice limit (count_in sofar) all) → AreFirst (with_page sofar page total) all
first_on sofar page total limit all first puts gone =
    let part : slice limit (count_in sofar) all ≡ take limit first.rest = ap (take limit) (rest_is sofar all first) in
    record {
      seen = first.seen ++ take limit first.rest;
      rest = drop limit first.rest;
      joined = append_assoc first.seen (take limit first.rest) (drop limit first.rest) ∙ ap (λ es. first.seen ++ es) (take-append-drop limit first.rest) ∙ first.joined;
      puts = (λ i. first.puts i ++ (puts ∙ ap rows_put part) i) ∙ sym (rows_put-append first.seen (take limit first.rest));
      gone = (λ i. first.gone i ++ (gone ∙ ap ids_gone part) i) ∙ sym (ids_gone-append first.seen (take limit first.rest));
    }

no_rest : (seen rest all : List DeltaEntry) → seen ++ rest ≡ all → length seen ≡ length all → seen ≡ all
no_rest seen [] all e f = sym (nothing seen) ∙ e
  where
    nothing : (es : List DeltaEntry) → es ++ [] ≡ es
    nothing [] = refl
    nothing (e ∷ es) = ap (λ xs. e ∷ xs) (nothing es)
no_rest seen (e ∷ rest) all h f = absurd (omega (arith, ap length h, length-append seen (e ∷ rest), f))

-- and all of them, once they are as many
pub first_whole : (sofar : Sofar) (all : List DeltaEntry) → AreFirst sofar all → count_in sofar ≡ length all → (sofar.puts ≡ rows_put all) × (sofar.gone ≡ ids_gone all)
first_whole sofar all first many =
    let same : first.seen ≡ all = no_rest first.seen first.rest all first.joined (sym (seen_count sofar all first) ∙ many) in
    (first.puts ∙ ap rows_put same, first.gone ∙ ap ids_gone same)

-- so they lead from the list at the base to that at the pin
pub first_leads : (before after : BaseVersion) → IsVersion before → IsVersion after → (token : List ℕ) (kind : Kind) (sofar : Sofar)
    → AreFirst sofar (delta before after token kind) → count_in sofar ≡ length (delta before after token kind) → merged (list_in before token kind) sofar.puts sofar.gone ≡ list_in after token kind
first_leads before after is is' token kind sofar first many =
    let same = first_whole sofar (delta before after token kind) first many in
    (λ i. merged (list_in before token kind) (same.0 i) (same.1 i)) ∙ cut_to_cut before after is is' token kind

ok_ids : {a b : List (List ℕ)} → (let x : Result (List (List ℕ)) JsonFault = Ok a in let y : Result (List (List ℕ)) JsonFault = Ok b in x ≡ y) → a ≡ b
ok_ids e = cc

module _ (mid b : HubState) (grew : Grew mid b) (token : List ℕ) (place : Place) (sofar : Sofar) (w : WireReply) (pin : ℕ) (page : Entries) (total : ℕ) (part : IsPart place sofar w pin page total) where
  other : (n : ℕ) → w.status ≡ n → n ≢ 200 → ⊥
  other n e differs = differs (sym e ∙ part.status)

  -- the versions stand in later states as they are
  same_delta : place.base ≤ pin → pin < length mid.published → delta (version_at mid place.base) (version_at mid pin) token place.kind ≡ delta (version_at b place.base) (version_at b pin) token place.kind
  same_delta low stands = λ i. delta (sym (grew.same place.base (omega (arith, low, stands))) i) (sym (grew.same pin stands) i) token place.kind

  pub part_told : TellsFrom mid (page_asked token place (count_in sofar)) place.base w → IsPartOf b token place sofar pin page total
  part_told (NotKnown status none) = absurd (other 401 status (λ n. omega (arith, n)))
  part_told (PinGone p by asked found status oldest out) = absurd (other 404 status (λ n. omega (arith, n)))
  part_told (NotOpened v read status version shut none) = absurd (other 403 status (λ n. omega (arith, n)))
  part_told (BaseGone v by read found status oldest out) = absurd (other 404 status (λ n. omega (arith, n)))
  part_told (Differs v read status version opened based low is_total rows ids) =
      let is : v ≡ pin = same_Some _ _ (sym version ∙ part.version) in
      let stands : pin < length mid.published = omega (arith, read.standing, is) in
      let below : place.base ≤ pin = omega (arith, low, is) in
      let D = same_delta below stands in
      let at : delta (version_at mid place.base) (version_at mid v) token place.kind ≡ delta (version_at b place.base) (version_at b pin) token place.kind =
      ap (λ n. delta (version_at mid place.base) (version_at mid n) token place.kind) is ∙ D in
      record {
        standing = omega (arith, stands, grew.longer);
        known = ap (λ version. knows version token) (grew.same pin stands) ∙ ap (λ n. knows (version_at mid n) token) (sym is) ∙ read.known;
        based = ap (λ version. knows version token) (grew.same place.base (omega (arith, below, stands))) ∙ based;
        low = below;
        total_is = same_Some _ _ (sym part.told ∙ is_total) ∙ ap length at;
        puts = ok_rows (sym part.rows ∙ rows) ∙ ap (λ es. rows_put (slice place.limit (count_in sofar) es)) at;
        gone = ok_ids (sym part.ids ∙ ids) ∙ ap (λ es. ids_gone (slice place.limit (count_in sofar) es)) at;
      }
