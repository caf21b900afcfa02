-- Spans that are put into others in their places: what those places had before is hidden.
use Rattle.std.proofs.Common.{◌≡◌, ℕ, ◌<◌, ◌≤◌, ◌^◌, List, [], ◌∷◌, ◌++◌, ◌&&◌, Bool, true, false, cond, not, map, None}
use Rattle.std.proofs.Common.{Some, Ordering, Less, Equal, Greater, refl, sym, ap, ◌∙◌, subst, arith}
use Rattle.std.specs.FinMap.{is_sorted}
use Rattle.std.specs.FinMap.Entries.{below_all, find-where_key}
use Rattle.std.specs.List.{AllByRecursion}
use Rattle.std.specs.Ordering.{MatchOrdering, eq_by_cmp, is_eq, is_lt, nat_cmp, ordering_reverse, ordering_then}
use Rattle.std.proofs.lemmas.Bool.{and_parts, and_right}
use Rattle.std.proofs.lemmas.Cmp.{nat_list_cmp_total, ranked, tied_back, tied_itself}
use Rattle.item_maps.proofs.ItemLemmas.{same_bytes, tied_same}
use Rattle.item_maps.specs.Items.{bytes_cmp, is_between}
use Rattle.reference_rules.proofs.KeyOrder.{key_total}
use Rattle.roster_types.specs.Keys.{Ascends, Key, key_cmp, keyed}
use Rattle.version_core.specs.Changes.{AreChanges, change_key}
use Rattle.version_core.specs.Order.{by_order, overlaid, put}
use Rattle.version_core.specs.declared.row_change.RowChange.{RowChange}
use Rattle.version_core.proofs.OrderLemmas.{Ascends-overlaid}
use Rattle.version_core.proofs.Places.{greater_from_less}
use Rattle.hub_format.specs.Format.{Entry, where_label}
use Rattle.hub_format.specs.Pieces.{HasNoZero, row_body}
use Rattle.hub_format.proofs.EntryMaps.{Alike, found, turned, where-append, where_all}
use Rattle.hub_format.proofs.Orders.{less_is}
use Rattle.roster_base.proofs.Rising.{is_less}
use Rattle.span_format.specs.Format.{HasPlainId, Span, span_entry, span_key, span_label, spans_from}
use Rattle.span_format.proofs.Labels.{is_hidden, not_equal, span_order}

-- the label isn't one that a key had before the version
abbrev pub is_shown : ℕ → Key → List ℕ → Bool
is_shown version key label = not (is_between (span_label key 0) (span_label key version) label)

-- nor one that any of these rows' keys had
abbrev pub are_shown : ℕ → List RowChange → List ℕ → Bool
are_shown version [] label = true
are_shown version (row ∷ rows) label = is_shown version (change_key row) label && are_shown version rows label

-- its label can be told from others
pub record IsPlain (s : Span) : Type 0 where
  pub id : HasNoZero (span_key s).1
  pub first : s.first < 2 ^ 64

abbrev pub AreAbove : Key → List Span → Type 0
AreAbove key spans = AllByRecursion (λ s. key_cmp key (span_key s) ≡ Less) spans

abbrev pub Rising : List Span → Type 0
Rising [] = Unit {0}
Rising (s ∷ spans) = AreAbove (span_key s) spans × Rising spans

above_from : (k : Key) (spans : List Span) → below_all key_cmp k (keyed span_key spans) ≡ true → AreAbove k spans
above_from k [] below = tt
above_from k (s ∷ spans) below =
    let parts = and_parts (is_lt (key_cmp k (span_key s))) (below_all key_cmp k (keyed span_key spans)) below in
    (is_less (key_cmp k (span_key s)) parts.0, above_from k spans parts.1)

pub rising_from : (spans : List Span) → Ascends span_key spans → Rising spans
rising_from [] up = tt
rising_from (s ∷ spans) up =
    let parts = and_parts (below_all key_cmp (span_key s) (keyed span_key spans)) (is_sorted key_cmp (keyed span_key spans)) up in
    (above_from (span_key s) spans parts.0, rising_from spans parts.1)

higher : (k l : Key) (spans : List Span) → key_cmp k l ≡ Less → AreAbove l spans → AreAbove k spans
higher k l [] less above = tt
higher k l (s ∷ spans) less above = (key_total.trans k l (span_key s) less above.0, higher k l spans less above.1)

as_high : (k l : Key) (spans : List Span) → key_cmp k l ≡ Equal → AreAbove l spans → AreAbove k spans
as_high k l [] same above = tt
as_high k l (s ∷ spans) same above = (key_total.congr k l (span_key s) same ∙ above.0, as_high k l spans same above.1)

module _ (version : ℕ) (fits : version < 2 ^ 64) (x : Span) (plain : IsPlain x) where
  abbrev shown : List ℕ → Bool
  shown = is_shown version (span_key x)

  -- a span of another key stays
  stays : (y : Span) → IsPlain y → is_eq (key_cmp (span_key y) (span_key x)) ≡ false → shown (span_label (span_key y) y.first) ≡ true
  stays y y_plain apart = ap not (is_hidden (span_key x) (span_key y) version y.first plain.id y_plain.id fits y_plain.first ∙ ap (λ b. b && is_lt (nat_cmp y.first version)) apart)

  -- an earlier one of its key goes
  goes : (y : Span) → IsPlain y → key_cmp (span_key y) (span_key x) ≡ Equal → y.first < version → shown (span_label (span_key y) y.first) ≡ false
  goes y y_plain same before =
      ap not (is_hidden (span_key x) (span_key y) version y.first plain.id y_plain.id fits y_plain.first
      ∙ ap (λ o. is_eq o && is_lt (nat_cmp y.first version)) same ∙ ap is_lt (less_is y.first version before))

  all_stay : (ys : List Span) → AllByRecursion IsPlain ys → AreAbove (span_key x) ys → AllByRecursion (λ e. shown e.0 ≡ true) (map span_entry ys)
  all_stay [] plains above = tt
  all_stay (y ∷ ys) plains above = (stays y plains.0 (ap is_eq (greater_from_less (span_key x) (span_key y) above.0)), all_stay ys plains.1 above.1)

  -- those of its key came before the version
  abbrev pub IsBefore : Span → Type 0
  IsBefore y = key_cmp (span_key y) (span_key x) ≡ Equal → y.first < version

  pub put_span : (ys : List Span) → AllByRecursion IsPlain ys → Rising ys → AllByRecursion IsBefore ys → Alike (map span_entry (put span_key x ys)) (span_entry x ∷ where_label shown (map span_entry ys))
  put_span [] plains rising before q = refl
  put_span (y ∷ ys) plains rising before q = go (key_cmp (span_key x) (span_key y)) refl (put_span ys plains.1 rising.1 before.1 q)
    where
      go : (o : Ordering) → key_cmp (span_key x) (span_key y) ≡ o → found q (map span_entry (put span_key x ys)) ≡ found q (span_entry x ∷ where_label shown (map span_entry ys))
          → found q (map span_entry (by_order o (x ∷ y ∷ ys) (x ∷ ys) (y ∷ put span_key x ys))) ≡ found q (span_entry x ∷ where_label shown (map span_entry (y ∷ ys)))
      go Less is later =
          ap (λ (es : List Entry). found q (span_entry x ∷ es)) (sym (where_all shown (map span_entry (y ∷ ys)) (all_stay (y ∷ ys) plains (is, higher (span_key x) (span_key y) ys is rising.0))))
      go Equal is later =
          let hidden = goes y plains.0 (tied_back key_total (span_key x) (span_key y) is) (before.0 (tied_back key_total (span_key x) (span_key y) is)) in
          let gone : where_label shown (map span_entry (y ∷ ys)) ≡ where_label shown (map span_entry ys) = rw hidden refl in
          ap (λ (es : List Entry). found q (span_entry x ∷ es)) (sym (gone ∙ where_all shown (map span_entry ys) (all_stay ys plains.1 (as_high (span_key x) (span_key y) ys is rising.0))))
      go Greater is later =
          let lx : List ℕ = span_label (span_key x) x.first in
          let ly : List ℕ = span_label (span_key y) y.first in
          let order : bytes_cmp lx ly ≡ Greater =
          span_order (span_key x) (span_key y) x.first y.first plain.id plains.0.id plain.first plains.0.first ∙ ap (λ o. ordering_then o (nat_cmp x.first y.first)) is in
          let apart : is_eq (key_cmp (span_key y) (span_key x)) ≡ false = ap is_eq (key_total.antisymm (span_key y) (span_key x) ∙ ap ordering_reverse is) in
          let here = stays y plains.0 apart in
          let kept : where_label shown (map span_entry (y ∷ ys)) ≡ span_entry y ∷ where_label shown (map span_entry ys) = rw here refl in
          ap (cond (eq_by_cmp bytes_cmp q ly) (Some (row_body y.change))) later
          ∙ turned (eq_by_cmp bytes_cmp q ly) (eq_by_cmp bytes_cmp q lx) (Some (row_body y.change)) (Some (row_body x.change)) (found q (where_label shown (map span_entry ys)))
          (λ at_y at_x.
          let same = sym (tied_same q lx at_x) ∙ tied_same q ly at_y in
          let equal = subst (λ l. bytes_cmp lx l ≡ Equal) same (tied_itself nat_list_cmp_total lx) in
          cc)
          ∙ ap (λ (es : List Entry). found q (span_entry x ∷ es)) (sym kept)

-- what passes one test after another
pub where_where : (p r : List ℕ → Bool) (es : List Entry) → where_label r (where_label p es) ≡ where_label (λ l. p l && r l) es
where_where p r [] = refl
where_where p r (e ∷ es) = go (p e.0) (r e.0) refl (where_where p r es)
  where
    go : (a b : Bool) → r e.0 ≡ b → where_label r (where_label p es) ≡ where_label (λ l. p l && r l) es
        → where_label r (cond a (e ∷ where_label p es) (where_label p es)) ≡ cond (a && b) (e ∷ where_label (λ l. p l && r l) es) (where_label (λ l. p l && r l) es)
    go true true is rest = rw is (ap (λ xs. e ∷ xs) rest)
    go true false is rest = rw is rest
    go false b is rest = rest

-- what passes the other test first
where_other : (p r : List ℕ → Bool) (es : List Entry) → where_label p (where_label r es) ≡ where_label (λ l. p l && r l) es
where_other p r [] = refl
where_other p r (e ∷ es) = go (p e.0) (r e.0) refl (where_other p r es)
  where
    go : (a b : Bool) → p e.0 ≡ a → where_label p (where_label r es) ≡ where_label (λ l. p l && r l) es
        → where_label p (cond b (e ∷ where_label r es) (where_label r es)) ≡ cond (a && b) (e ∷ where_label (λ l. p l && r l) es) (where_label (λ l. p l && r l) es)
    go true true is rest = rw is (ap (λ xs. e ∷ xs) rest)
    go true false is rest = rest
    go false true is rest = rw is rest
    go false false is rest = rest

pub where_true : (es : List Entry) → where_label (λ l. true) es ≡ es
where_true [] = refl
where_true (e ∷ es) = ap (λ xs. e ∷ xs) (where_true es)

-- a test of labels lets a label find what it found, or nothing
pub found-where : (p : List ℕ → Bool) (q : List ℕ) (es : List Entry) → found q (where_label p es) ≡ cond (p q) (found q es) None
found-where p q es = find-where_key bytes_cmp p q (λ x tie. ap p (sym (same_bytes q x tie))) es

pub alike_where : (p : List ℕ → Bool) (es fs : List Entry) → Alike es fs → Alike (where_label p es) (where_label p fs)
alike_where p es fs alike q = found-where p q es ∙ ap (λ o. cond (p q) o None) (alike q) ∙ sym (found-where p q fs)

-- spans of the version, or of a later one, stay
not_lt : (m n : ℕ) → n ≤ m → is_lt (nat_cmp m n) ≡ false
not_lt m n le = go (nat_cmp m n) (ranked m n (nat_cmp m n) refl)
  where
    go : (o : Ordering) → MatchOrdering o (m < n) (m ≡ n) (n < m) → is_lt o ≡ false
    go Less h = absurd (omega arith)
    go Equal h = refl
    go Greater h = refl

pub stays_on : (version : ℕ) → version < 2 ^ 64 → (row : RowChange) (s : Span) → HasPlainId row → IsPlain s → version ≤ s.first → is_shown version (change_key row) (span_label (span_key s) s.first) ≡ true
stays_on version fits row s plain s_plain le =
    ap not (is_hidden (change_key row) (span_key s) version s.first plain s_plain.id fits s_plain.first ∙ and_right (is_eq (key_cmp (span_key s) (change_key row))) _ (not_lt s.first version le))

pub all_on : (version : ℕ) → version < 2 ^ 64 → (rows : List RowChange) (s : Span) → AllByRecursion HasPlainId rows → IsPlain s → version ≤ s.first → are_shown version rows (span_label (span_key s) s.first) ≡ true
all_on version fits [] s plains s_plain le = refl
all_on version fits (row ∷ rows) s plains s_plain le = rw (stays_on version fits row s plains.0 s_plain le) (all_on version fits rows s plains.1 s_plain le)

-- what each of two lists has, a list put over the other has
module _ {X : Type 0} (key : X → Key) (P : X → Type 0) where
  all_put : (x : X) (ys : List X) → P x → AllByRecursion P ys → AllByRecursion P (put key x ys)
  all_put x [] one all = (one, tt)
  all_put x (y ∷ ys) one all = elim (key_cmp (key x) (key y)) as (λ o. AllByRecursion P (by_order o (x ∷ y ∷ ys) (x ∷ ys) (y ∷ put key x ys))) [
    | Less ↦ (one, all)
    | Equal ↦ (one, all.1)
    | Greater ↦ (all.0, all_put x ys one all.1)
  ]

  pub all_overlaid : (base rows : List X) → AllByRecursion P base → AllByRecursion P rows → AllByRecursion P (overlaid key base rows)
  all_overlaid base [] all news = all
  all_overlaid base (x ∷ rows) all news = all_put x (overlaid key base rows) news.0 (all_overlaid base rows all news.1)

-- spans that came in one version have what a test gives of those that came no earlier
pub all_from : (n version : ℕ) → n < 2 ^ 64 → version ≤ n → (p : List ℕ → Bool) (rows : List RowChange) → AllByRecursion HasPlainId rows → ((s : Span) → IsPlain s → version ≤ s.first → p (span_label (span_key s) s.first) ≡ true)
    → AllByRecursion (λ e. p e.0 ≡ true) (map span_entry (spans_from n rows))
all_from n version fits le p [] plains on = tt
all_from n version fits le p (row ∷ rows) plains on =
    (on (record { first = n; change = row }) (record { id = plains.0; first = fits }) le, all_from n version fits le p rows plains.1 on)

-- the rows of spans that are put over others
put_rows : (x : Span) (ys : List Span) → map (λ s. s.change) (put span_key x ys) ≡ put change_key x.change (map (λ s. s.change) ys)
put_rows x [] = refl
put_rows x (y ∷ ys) =
    elim (key_cmp (span_key x) (span_key y)) as (λ o. map (λ s. s.change) (by_order o (x ∷ y ∷ ys) (x ∷ ys) (y ∷ put span_key x ys)) ≡ by_order o (x.change ∷ y.change ∷ map (λ s. s.change) ys) (x.change ∷ map (λ s. s.change) ys) (y.change ∷ put change_key x.change (map (λ s. s.change) ys))) [
      | Less ↦ refl
      | Equal ↦ refl
      | Greater ↦ ap (λ rows. y.change ∷ rows) (put_rows x ys)
    ]

pub overlaid_rows : (base : List Span) (version : ℕ) (rows : List RowChange) → map (λ s. s.change) (overlaid span_key base (spans_from version rows)) ≡ overlaid change_key (map (λ s. s.change) base) rows
overlaid_rows base version [] = refl
overlaid_rows base version (row ∷ rows) =
    put_rows (record { first = version; change = row }) (overlaid span_key base (spans_from version rows)) ∙ ap (put change_key row) (overlaid_rows base version rows)

-- spans of ascending rows ascend
keyed_rows : (spans : List Span) (k : Key) → below_all key_cmp k (keyed span_key spans) ≡ below_all key_cmp k (keyed change_key (map (λ s. s.change) spans))
keyed_rows [] k = refl
keyed_rows (s ∷ spans) k = ap (λ b. is_lt (key_cmp k (span_key s)) && b) (keyed_rows spans k)

sorted_rows : (spans : List Span) → is_sorted key_cmp (keyed span_key spans) ≡ is_sorted key_cmp (keyed change_key (map (λ s. s.change) spans))
sorted_rows [] = refl
sorted_rows (s ∷ spans) = λ i. keyed_rows spans (span_key s) i && sorted_rows spans i

pub spans_ascend : (spans : List Span) (rows : List RowChange) → map (λ s. s.change) spans ≡ rows → AreChanges rows → Ascends span_key spans
spans_ascend spans rows same up = sorted_rows spans ∙ ap (λ rs. is_sorted key_cmp (keyed change_key rs)) same ∙ up

-- the spans of a version's rows, laid over those of its base
module _ (version : ℕ) (fits : version < 2 ^ 64) (base : List Span) (up : Ascends span_key base) (plain : AllByRecursion IsPlain base) (before : AllByRecursion (λ s. s.first < version) base) where
  news_plain : (rows : List RowChange) → AllByRecursion HasPlainId rows → AllByRecursion IsPlain (spans_from version rows)
  news_plain [] plains = tt
  news_plain (row ∷ rows) plains = (record { id = plains.0; first = fits }, news_plain rows plains.1)

  base_before : (x : Span) (spans : List Span) → AllByRecursion (λ s. s.first < version) spans → AllByRecursion (λ y. key_cmp (span_key y) (span_key x) ≡ Equal → y.first < version) spans
  base_before x [] all = tt
  base_before x (s ∷ spans) all = ((λ same. all.0), base_before x spans all.1)

  -- rows behind another have other keys
  apart : (row : RowChange) (rows : List RowChange) → below_all key_cmp (change_key row) (keyed change_key rows) ≡ true
      → AllByRecursion (λ (y : Span). key_cmp (span_key y) (change_key row) ≡ Equal → y.first < version) (spans_from version rows)
  apart row [] below = tt
  apart row (other ∷ rows) below =
      let parts = and_parts (is_lt (key_cmp (change_key row) (change_key other))) (below_all key_cmp (change_key row) (keyed change_key rows)) below in
      ((λ same. absurd (not_equal (key_cmp (change_key row) (change_key other)) parts.0 (tied_back key_total (change_key other) (change_key row) same))), apart row rows parts.1)

  pub all_laid : (rows : List RowChange) → AreChanges rows → AllByRecursion HasPlainId rows
      → Alike (map span_entry (overlaid span_key base (spans_from version rows))) (map span_entry (spans_from version rows) ++ where_label (are_shown version rows) (map span_entry base))
  all_laid [] are plains q = ap (found q) (sym (where_true (map span_entry base)))
  all_laid (row ∷ rows) are plains q =
      let parts = and_parts (below_all key_cmp (change_key row) (keyed change_key rows)) (is_sorted key_cmp (keyed change_key rows)) are in
      let x : Span = record { first = version; change = row } in
      let x_plain : IsPlain x = record { id = plains.0; first = fits } in
      let shown : List ℕ → Bool = is_shown version (change_key row) in
      let news = spans_from version rows in
      let laid = overlaid span_key base news in
      let old = where_label (are_shown version rows) (map span_entry base) in
      let one = put_span version fits x x_plain laid (all_overlaid span_key IsPlain base news plain (news_plain rows plains.1)) (rising_from laid (Ascends-overlaid span_key base news up))
      (all_overlaid span_key (λ (y : Span). key_cmp (span_key y) (change_key row) ≡ Equal → y.first < version) base news (base_before x base before) (apart row rows parts.0)) q in
      let rest = alike_where shown (map span_entry laid) (map span_entry news ++ old) (all_laid rows parts.1 plains.1) q in
      let kept : where_label shown (map span_entry news ++ old) ≡ map span_entry news ++ where_label (are_shown version (row ∷ rows)) (map span_entry base) =
      where-append shown (map span_entry news) old
      ∙ ap (λ es. es ++ where_label shown old) (where_all shown (map span_entry news) (all_from version version fits (omega arith) shown rows plains.1 (λ s s_plain le. stays_on version fits row s plains.0 s_plain le)))
      ∙ ap (λ es. map span_entry news ++ es) (where_other shown (are_shown version rows) (map span_entry base)) in
      one ∙ ap (cond (eq_by_cmp bytes_cmp q (span_label (change_key row) version)) (Some (row_body row))) (rest ∙ ap (found q) kept)
