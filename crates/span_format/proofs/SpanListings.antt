-- What the items of tables tell: the spans of the base, and those of each change.
use Rattle.std.proofs.Common.{◌≡◌, ◌+◌, ◌-◌, ◌≤◌, ◌<◌, ◌^◌, ℕ, suc, List, [], ◌∷◌, ◌++◌, Bool, true, false, ◌&&◌, drop}
use Rattle.std.proofs.Common.{length, length-append, map, refl, sym, ap, ◌∙◌, subst, append-nil, append_assoc, arith}
use Rattle.std.specs.Prelude.{nat_le}
use Rattle.std.specs.FinMap.{entries, entries_sorted, from_entries, get-entries, get-from_entries, is_sorted}
use Rattle.std.specs.FinMap.{retain_keys, same_map}
use Rattle.std.specs.FinMap.Entries.{below_all, is_sorted-where_key}
use Rattle.std.specs.Int.{w64, from_be_bytes}
use Rattle.std.specs.List.{AllByRecursion}
use Rattle.std.specs.Ordering.{is_lt, nat_cmp, ordering_then}
use Rattle.std.proofs.lemmas.Bool.{and_from, and_right}
use Rattle.std.proofs.lemmas.Bool.Decides.{nat_tests}
use Rattle.std.proofs.lemmas.Nat.{from_be_bytes-to_be_bytes_8}
use Rattle.std.proofs.lemmas.Cmp.{nat_list_cmp_total}
use Rattle.item_maps.proofs.ItemLemmas.{same_bytes}
use Rattle.item_maps.specs.Items.{bytes_cmp, is_between, listed}
use Rattle.roster_types.specs.Keys.{Key}
use Rattle.version_core.specs.Changes.{AreChanges, change_key}
use Rattle.version_core.specs.Table.{LeadOn}
use Rattle.version_core.specs.Tables.{AreTables}
use Rattle.version_core.specs.Version.{IsVersion, last_version}
use Rattle.version_core.specs.declared.change.Change.{Change}
use Rattle.version_core.specs.declared.hub_tables.HubTables.{HubTables}
use Rattle.version_core.specs.declared.row_change.RowChange.{RowChange}
use Rattle.version_core.proofs.OrderLemmas.{passed as holds}
use Rattle.version_core.proofs.TableLemmas.{base_meets}
use Rattle.hub_format.specs.Areas.{spans_area}
use Rattle.hub_format.specs.Format.{Entry, of_changes, where_label}
use Rattle.hub_format.specs.Pieces.{key_label, labels_end, number}
use Rattle.hub_format.proofs.Acts.{Map}
use Rattle.hub_format.proofs.EntryMaps.{retained, where-append, where_all, where_none}
use Rattle.hub_format.proofs.Listing.{listed_where}
use Rattle.hub_format.proofs.TableListings.{AreSmall, row_below, small_from}
use Rattle.span_format.specs.Format.{AreSpans, FitSpans, HasPlainId, HasPlainIds, Span, items_in, own_spans, span_entry}
use Rattle.span_format.specs.Format.{span_key, span_label, spans_from}
use Rattle.span_format.specs.Reading.{came, came_within}
use Rattle.span_format.proofs.Folding.{spans_plain}
use Rattle.span_format.proofs.Labels.{span_order}
use Rattle.span_format.proofs.Putting.{AreAbove, IsPlain, Rising, rising_from, spans_ascend}
use Rattle.span_format.proofs.Turning.{rows_are}

-- the number at the end is the one of the span
behind_zero : (xs ys : List ℕ) → drop (length xs + 1) (xs ++ 0 ∷ ys) ≡ ys
behind_zero [] ys = refl
behind_zero (x ∷ xs) ys = let next : length (x ∷ xs) + 1 ≡ suc (length xs + 1) = omega arith in ap (λ n. drop n (x ∷ xs ++ 0 ∷ ys)) next ∙ behind_zero xs ys

pub came_at : (xs : List ℕ) (n : ℕ) → n < 2 ^ 64 → came (xs ++ 0 ∷ number n) ≡ n
came_at xs n fits =
    let long = length-append xs (0 ∷ number n) in
    let nine : length (0 ∷ number n) ≡ 9 = refl in
    let left : length (xs ++ 0 ∷ number n) - 8 ≡ length xs + 1 = omega (arith, long, nine) in
    ap (λ k. from_be_bytes w64 (drop k (xs ++ 0 ∷ number n))) left ∙ ap (from_be_bytes w64) (behind_zero xs (number n)) ∙ from_be_bytes-to_be_bytes_8 n fits

pub came_is : (key : Key) (n : ℕ) → n < 2 ^ 64 → came (span_label key n) ≡ n
came_is key n fits = came_at (key_label key) n fits

-- spans of one version pass a test of versions, or none of them does
came_all : (test : ℕ → Bool) (b : Bool) (n : ℕ) → n < 2 ^ 64 → test n ≡ b → (rows : List RowChange) → AllByRecursion (λ e. test (came e.0) ≡ b) (map span_entry (spans_from n rows))
came_all test b n fits is [] = tt
came_all test b n fits is (row ∷ rows) = (ap test (came_is (change_key row) n fits) ∙ is, came_all test b n fits is rows)

-- a test that no change behind this number passes
abbrev MissBehind : (ℕ → Bool) → ℕ → Type 0
MissBehind test n = (m : ℕ) → n < m → test m ≡ false

miss_next : (test : ℕ → Bool) (n m : ℕ) → n ≤ m → MissBehind test n → MissBehind test m
miss_next test n m le miss k lt = miss k (omega (arith, le, lt))

none_behind : (test : ℕ → Bool) (n : ℕ) (changes : List Change) → LeadOn n changes → AreSmall changes → MissBehind test n → where_label (λ label. test (came label)) (of_changes own_spans changes) ≡ []
none_behind test n [] lead small miss = refl
none_behind test n (change ∷ changes) lead small miss =
    let next = lead.0 in
    let le = small.0 in
    where-append (λ label. test (came label)) (of_changes own_spans changes) (own_spans change)
    ∙ (λ i. none_behind test change.version changes lead.1 small.1 (miss_next test n change.version (omega (arith, next)) miss) i
    ++ where_none (λ label. test (came label)) (own_spans change) (came_all test false change.version (omega (arith, le)) (miss change.version (omega (arith, next))) change.rows) i)

-- entries of versions up to this number
abbrev CameBy : ℕ → List Entry → Type 0
CameBy n es = AllByRecursion (λ e. came e.0 ≤ n) es

came_later : (m n : ℕ) → m ≤ n → (es : List Entry) → CameBy m es → CameBy n es
came_later m n le [] by = tt
came_later m n le (e ∷ es) by = let here = by.0 in (omega (arith, here, le), came_later m n le es by.1)

came_own : (n : ℕ) → n < 2 ^ 64 → (rows : List RowChange) (es : List Entry) → CameBy n es → CameBy n (map span_entry (spans_from n rows) ++ es)
came_own n fits [] es by = by
came_own n fits (row ∷ rows) es by = let is = came_is (change_key row) n fits in (omega (arith, is), came_own n fits rows es by)

-- of the numbers within a low and a high one
abbrev within : ℕ → ℕ → ℕ → Bool
within low high n = nat_le low n && nat_le n high

too_low : (low high n : ℕ) → n < low → within low high n ≡ false
too_low low high n lt = let no : nat_le low n ≡ false = grind (arith, nat_tests) in rw no refl

too_high : (low high n : ℕ) → high < n → within low high n ≡ false
too_high low high n lt = let no : nat_le n high ≡ false = grind (arith, nat_tests) in and_right (nat_le low n) (nat_le n high) no

fits_within : (low high n : ℕ) → low ≤ n → n ≤ high → within low high n ≡ true
fits_within low high n le ge =
    let above : nat_le low n ≡ true = grind (arith, nat_tests) in
    let below : nat_le n high ≡ true = grind (arith, nat_tests) in
    and_from (nat_le low n) (nat_le n high) above below

none_before : (n version : ℕ) → n < version → (es : List Entry) → CameBy n es → where_label (came_within version version) es ≡ []
none_before n version lt [] by = refl
none_before n version lt (e ∷ es) by = let here = by.0 in let miss : came_within version version e.0 ≡ false = too_low version version (came e.0) (omega (arith, here, lt)) in rw miss (none_before n version lt es by.1)

-- each change has the spans that came in its version
each_there : (n : ℕ) (changes : List Change) (es : List Entry) → LeadOn n changes → AreSmall changes → CameBy n es
    → AllByRecursion (λ change. where_label (came_within change.version change.version) (of_changes own_spans changes ++ es) ≡ own_spans change) changes
each_there n [] es lead small by = tt
each_there n (change ∷ changes) es lead small by =
    let next = lead.0 in
    let le = small.0 in
    let version = change.version in
    let first : where_label (came_within version version) ((of_changes own_spans changes ++ own_spans change) ++ es) ≡ own_spans change =
    where-append (came_within version version) (of_changes own_spans changes ++ own_spans change) es
    ∙ ap (λ xs. xs ++ where_label (came_within version version) es) (where-append (came_within version version) (of_changes own_spans changes) (own_spans change))
    ∙ (λ i. (none_behind (within version version) version changes lead.1 small.1 (λ m lt. too_high version version m lt) i
    ++ where_all (came_within version version) (own_spans change) (came_all (within version version) true version (omega (arith, le)) (fits_within version version version (omega arith) (omega arith)) change.rows) i)
    ++ none_before n version (omega (arith, next)) es by i)
    ∙ append-nil (own_spans change) in
    let rest = each_there version changes (own_spans change ++ es) lead.1 small.1 (came_own version (omega (arith, le)) change.rows es (came_later n version (omega (arith, next)) es by)) in (
      first,
      subst (λ all. AllByRecursion (λ other. where_label (came_within other.version other.version) all ≡ own_spans other) changes) (sym (append_assoc (of_changes own_spans changes) (own_spans change) es)) rest,
    )

-- labels of spans that stand in the order of their keys rise
spans_sorted : (spans : List Span) → AllByRecursion IsPlain spans → Rising spans → is_sorted bytes_cmp (map span_entry spans) ≡ true
spans_sorted [] plains rising = refl
spans_sorted (s ∷ spans) plains rising =
    and_from (below_all bytes_cmp (span_label (span_key s) s.first) (map span_entry spans)) (is_sorted bytes_cmp (map span_entry spans)) (below spans plains.1 rising.0) (spans_sorted spans plains.1 rising.1)
  where
    below : (others : List Span) → AllByRecursion IsPlain others → AreAbove (span_key s) others → below_all bytes_cmp (span_label (span_key s) s.first) (map span_entry others) ≡ true
    below [] all above = refl
    below (other ∷ others) all above =
        and_from (is_lt (bytes_cmp (span_label (span_key s) s.first) (span_label (span_key other) other.first))) (below_all bytes_cmp (span_label (span_key s) s.first) (map span_entry others))
        (ap is_lt (span_order (span_key s) (span_key other) s.first other.first plains.0.id all.0.id plains.0.first all.0.first ∙ ap (λ o. ordering_then o (nat_cmp s.first other.first)) above.0))
        (below others all.1 above.1)

own_plain : (n : ℕ) → n < 2 ^ 64 → (change : Change) → HasPlainIds change → AllByRecursion IsPlain (spans_from n change.rows)
own_plain n fits change plains = go change.rows plains
  where
    go : (rows : List RowChange) → AllByRecursion HasPlainId rows → AllByRecursion IsPlain (spans_from n rows)
    go [] plains = tt
    go (row ∷ rows) plains = (record { id = plains.0; first = fits }, go rows plains.1)

-- the labels of all spans lie below 255
below_ends : (spans : List Span) → AllByRecursion (λ e. is_between [] labels_end e.0 ≡ true) (map span_entry spans)
below_ends [] = tt
below_ends (s ∷ spans) = (row_below s.change.row.kind (s.change.row.id ++ 0 ∷ number s.first), below_ends spans)

changes_below : (changes : List Change) → where_label (is_between [] labels_end) (of_changes own_spans changes) ≡ of_changes own_spans changes
changes_below [] = refl
changes_below (change ∷ changes) =
    where-append (is_between [] labels_end) (of_changes own_spans changes) (own_spans change)
    ∙ (λ i. changes_below changes i ++ where_all (is_between [] labels_end) (own_spans change) (below_ends (spans_from change.version change.rows)) i)

-- what passes a test among the entries of a map
back : (m : Map) → from_entries (entries m) ≡ m
back m = same_map nat_list_cmp_total same_bytes _ _ (λ q. get-from_entries nat_list_cmp_total (entries m) q ∙ sym (get-entries m q))

pub passed : (p : List ℕ → Bool) (m : Map) → where_label p (entries m) ≡ entries (retain_keys m p)
passed p m =
    sym (listed_where p (entries m) (where_label p (entries m)) refl (holds (is_sorted bytes_cmp (where_label p (entries m))) (is_sorted-where_key bytes_cmp p (entries m) (entries_sorted m))))
    ∙ ap (λ n. entries (retain_keys n p)) (back m)

module _ (base : List Span) (t : HubTables) (are : AreTables t) (spans : AreSpans base t.base) (plain : FitSpans t) where
  abbrev all : List Entry
  all = of_changes own_spans t.changes ++ map span_entry base

  base_small : t.base.number ≤ last_version
  base_small = (base_meets IsVersion t.base t.changes are.versions).number

  base_plain : AllByRecursion IsPlain base
  base_plain = let le = base_small in spans_plain t.base.number (omega (arith, le)) base (subst (AllByRecursion HasPlainId) (sym spans.rows) plain.base) spans.firsts

  all_below : where_label (is_between [] labels_end) all ≡ all
  all_below =
      where-append (is_between [] labels_end) (of_changes own_spans t.changes) (map span_entry base)
      ∙ (λ i. changes_below t.changes i ++ where_all (is_between [] labels_end) (map span_entry base) (below_ends base) i)

  told : (p : List ℕ → Bool) (es : List Entry) → where_label p all ≡ es → is_sorted bytes_cmp es ≡ true → where_label p (listed spans_area [] labels_end (items_in base t)) ≡ es
  told p es is up =
      passed p (retain_keys (items_in base t spans_area) (is_between [] labels_end))
      ∙ ap (λ m. entries (retain_keys m p)) (retained (is_between [] labels_end) all ∙ ap (from_entries {R = bytes_cmp}) all_below)
      ∙ listed_where p all es is up

  base_came : (others : List Span) → AllByRecursion IsPlain others → AllByRecursion (λ s. s.first ≤ t.base.number) others → AllByRecursion (λ e. came_within 0 t.base.number e.0 ≡ true) (map span_entry others)
  base_came [] plains firsts = tt
  base_came (s ∷ others) plains firsts =
      let le = firsts.0 in
      let here = fits_within 0 t.base.number s.first (omega arith) le in
      (ap (within 0 t.base.number) (came_is (span_key s) s.first plains.0.first) ∙ here, base_came others plains.1 firsts.1)

  base_by : (others : List Span) → AllByRecursion IsPlain others → AllByRecursion (λ s. s.first ≤ t.base.number) others → CameBy t.base.number (map span_entry others)
  base_by [] plains firsts = tt
  base_by (s ∷ others) plains firsts = let le = firsts.0 in let is = came_is (span_key s) s.first plains.0.first in (omega (arith, is, le), base_by others plains.1 firsts.1)

  -- the spans of the base
  pub base_told : where_label (came_within 0 t.base.number) (listed spans_area [] labels_end (items_in base t)) ≡ map span_entry base
  base_told =
      told (came_within 0 t.base.number) (map span_entry base)
      (where-append (came_within 0 t.base.number) (of_changes own_spans t.changes) (map span_entry base)
      ∙ (λ i. none_behind (within 0 t.base.number) t.base.number t.changes are.lead (small_from t.base t.changes are.versions) (λ m lt. too_high 0 t.base.number m lt) i
      ++ where_all (came_within 0 t.base.number) (map span_entry base) (base_came base base_plain spans.firsts) i))
      (spans_sorted base base_plain (rising_from base (spans_ascend base t.base.rows spans.rows (base_meets IsVersion t.base t.changes are.versions).rows)))

  each_told : (changes : List Change) → AreSmall changes → AllByRecursion (λ change. AreChanges change.rows) changes → AllByRecursion HasPlainIds changes
      → AllByRecursion (λ change. where_label (came_within change.version change.version) all ≡ own_spans change) changes
      → AllByRecursion (λ change. where_label (came_within change.version change.version) (listed spans_area [] labels_end (items_in base t)) ≡ own_spans change) changes
  each_told [] small rise plains there = tt
  each_told (change ∷ changes) small rise plains there =
      let le = small.0 in (
        told (came_within change.version change.version) (own_spans change) there.0
            (spans_sorted (spans_from change.version change.rows) (own_plain change.version (omega (arith, le)) change plains.0)
            (rising_from (spans_from change.version change.rows) (spans_ascend (spans_from change.version change.rows) change.rows (rows_are change.version change.rows) rise.0))),
        each_told changes small.1 rise.1 plains.1 there.1,
      )

  -- and those of each change
  pub changes_told : AllByRecursion (λ change. where_label (came_within change.version change.version) (listed spans_area [] labels_end (items_in base t)) ≡ own_spans change) t.changes
  changes_told =
      let small = small_from t.base t.changes are.versions in
      each_told t.changes small are.changes plain.changes (each_there t.base.number t.changes (map span_entry base) are.lead small (base_by base base_plain spans.firsts))
