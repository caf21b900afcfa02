-- Spans that are read one after another.
use Rattle.std.proofs.Common.{◌≡◌, ◌+◌, ◌<◌, ◌≤◌, ◌^◌, ℕ, zero, suc, List, [], ◌∷◌, ◌++◌, Bool, true, false, append-nil}
use Rattle.std.proofs.Common.{append_assoc, cond, drop, get_or, length, map, refl, sym, ap, ◌∙◌, arith}
use Rattle.std.specs.Prelude.{nat_le, ◌&&◌}
use Rattle.std.specs.List.{AllByRecursion}
use Rattle.item_maps.specs.Edits.{entry_of}
use Rattle.item_maps.specs.declared.item.Item.{Item}
use Rattle.version_core.specs.declared.row_change.RowChange.{RowChange}
use Rattle.hub_format.specs.Format.{where_label}
use Rattle.hub_format.specs.Pieces.{key_label, number}
use Rattle.hub_format.proofs.Marking.{same_parts}
use Rattle.span_format.specs.Format.{Span, span_entry, span_key, span_label}
use Rattle.span_format.specs.Reading.{FitsSpan, came_within}
use Rattle.span_format.proofs.SpanListings.{came_at}

-- the version of a label tells whether it is within
pub within_is : (low high first : ℕ) (key label : List ℕ) → first < 2 ^ 64 → label ≡ key ++ 0 ∷ number first → came_within low high label ≡ (nat_le low first && nat_le first high)
within_is low high first key label fits is = ap (came_within low high) is ∙ ap (λ n. nat_le low n && nat_le n high) (came_at key first fits)

pub same_key : (key label : List ℕ) (first : ℕ) (s : Span) → label ≡ key ++ 0 ∷ number first → label ≡ span_label (span_key s) s.first → key ≡ key_label (span_key s)
same_key key label first s is same = (same_parts key (key_label (span_key s)) (0 ∷ number first) (0 ∷ number s.first) refl (sym is ∙ same)).0

drop_is : (items : List Item) (i : ℕ) (item : Item) → i < length items → item ≡ get_or items i item → drop i items ≡ item ∷ drop (i + 1) items
drop_is [] i item within is = absurd (omega arith)
drop_is (x ∷ items) zero item within is = ap (λ y. y ∷ items) (sym is)
drop_is (x ∷ items) (suc i) item within is =
    let next : suc i + 1 ≡ suc (i + 1) = omega arith in
    drop_is items i item (omega arith) is ∙ ap (λ n. item ∷ drop n (x ∷ items)) (sym next)

drop_none : (items : List Item) (i : ℕ) → length items ≤ i → drop i items ≡ []
drop_none [] zero le = refl
drop_none [] (suc i) le = refl
drop_none (x ∷ items) zero le = absurd (omega arith)
drop_none (x ∷ items) (suc i) le = drop_none items i (omega arith)

-- the rows found so far, and the spans that are left
pub record AreLeft (p : List ℕ → Bool) (items : List Item) (i : ℕ) (found : List RowChange) (spans : List Span) : Type 0 where
  rest : List Span
  entries : where_label p (map entry_of (drop i items)) ≡ map span_entry rest
  fits : AllByRecursion FitsSpan rest
  whole : found ++ map (λ s. s.change) rest ≡ map (λ s. s.change) spans

pub none_found : (p : List ℕ → Bool) (items : List Item) (found : List RowChange) (spans : List Span) → found ≡ [] → AllByRecursion FitsSpan spans → where_label p (map entry_of items) ≡ map span_entry spans → AreLeft p items 0 found spans
none_found p items found spans none fits same = record { rest = spans; entries = same; fits = fits; whole = ap (λ rows. rows ++ map (λ s. s.change) spans) none }

pub one_found : (p : List ℕ → Bool) (items : List Item) (i : ℕ) (item : Item) (found new : List RowChange) (spans : List Span) → i < length items → item ≡ get_or items i item
    → (p item.label ≡ false → new ≡ found) → ((s : Span) → FitsSpan s → entry_of item ≡ span_entry s → p item.label ≡ true → new ≡ found ++ s.change ∷ [])
    → AreLeft p items i found spans → AreLeft p items (i + 1) new spans
one_found p items i item found new spans within is other taken left =
    let here : where_label p (map entry_of (item ∷ drop (i + 1) items)) ≡ map span_entry left.rest = ap (λ xs. where_label p (map entry_of xs)) (sym (drop_is items i item within is)) ∙ left.entries in
    go (p item.label) refl left.rest left.fits left.whole here
  where
    go : (b : Bool) → p item.label ≡ b → (rest : List Span) → AllByRecursion FitsSpan rest → found ++ map (λ s. s.change) rest ≡ map (λ s. s.change) spans
        → cond b (entry_of item ∷ where_label p (map entry_of (drop (i + 1) items))) (where_label p (map entry_of (drop (i + 1) items))) ≡ map span_entry rest → AreLeft p items (i + 1) new spans
    go false off rest fits whole here = record { rest = rest; entries = here; fits = fits; whole = ap (λ rows. rows ++ map (λ s. s.change) rest) (other off) ∙ whole }
    go true on [] fits whole here = absurd cc
    go true on (s ∷ rest) fits whole here =
        let head : entry_of item ≡ span_entry s = cc in
        let tail : where_label p (map entry_of (drop (i + 1) items)) ≡ map span_entry rest = cc in
        record {
          rest = rest;
          entries = tail;
          fits = fits.1;
          whole = ap (λ rows. rows ++ map (λ s. s.change) rest) (taken s fits.0 head on) ∙ append_assoc found (s.change ∷ []) (map (λ s. s.change) rest) ∙ whole;
        }

pub all_found : (p : List ℕ → Bool) (items : List Item) (i : ℕ) (found : List RowChange) (spans : List Span) → length items ≤ i → AreLeft p items i found spans → found ≡ map (λ s. s.change) spans
all_found p items i found spans le left = go left.rest left.whole (sym (ap (λ xs. where_label p (map entry_of xs)) (drop_none items i le)) ∙ left.entries)
  where
    go : (rest : List Span) → found ++ map (λ s. s.change) rest ≡ map (λ s. s.change) spans → [] ≡ map span_entry rest → found ≡ map (λ s. s.change) spans
    go [] whole none = sym (append-nil found) ∙ whole
    go (s ∷ rest) whole none = absurd cc
