-- Items of format 2 are those of one state at most: they tell all that items of format 1 tell.
use Rattle.std.proofs.Common.{◌≡◌, ◌+◌, ◌++◌, ◌∷◌, [], ℕ, List, map, refl, sym, ap, ◌∙◌, subst}
use Rattle.std.specs.FinMap.{entries, from_entries}
use Rattle.std.specs.List.{AllByRecursion}
use Rattle.item_maps.specs.Items.{Items, bytes_cmp, listed}
use Rattle.keeper_memory.specs.Kept.{KeptState, kept_by}
use Rattle.version_core.specs.Table.{LeadOn}
use Rattle.version_core.specs.Tables.{AreTables}
use Rattle.version_core.specs.declared.change.Change.{Change}
use Rattle.version_core.specs.declared.hub_tables.HubTables.{HubTables}
use Rattle.hub_format.specs.Areas.{grants_area, marks_area, spans_area, state_area, versions_area}
use Rattle.hub_format.specs.Format.{Entry, Fit, items_of, of_changes, own_rows, own_version, rows_under, state_entry}
use Rattle.hub_format.specs.Format.{listed_of, where_label}
use Rattle.hub_format.specs.Pieces.{key_label, labels_end, number}
use Rattle.hub_format.proofs.Acts.{by_area}
use Rattle.hub_format.proofs.Decoding.{state_back}
use Rattle.hub_format.proofs.Listing.{listed_sorted}
use Rattle.hub_format.proofs.Marking.{same_parts}
use Rattle.hub_format.proofs.TableListings.{IsToldBy, changes_told, newest_from, none_told}
use Rattle.hub_format.proofs.Unique.{number_fits, same_tables}
use Rattle.span_format.specs.Format.{AreSpans, FitSpans, KeepSpans, Span, items_in, own_spans, span_entry, span_key}
use Rattle.span_format.specs.Format.{spans_from}
use Rattle.span_format.specs.Reading.{came_within}
use Rattle.span_format.proofs.SpanListings.{base_told}
use Rattle.span_format.proofs.SpanListings as told
use Rattle.span_format.proofs.Turning.{rows_are}

-- spans of equal entries have rows of equal entries
same_entries : (prefix : List ℕ) (xs ys : List Span) → map span_entry xs ≡ map span_entry ys → rows_under prefix (map (λ s. s.change) xs) ≡ rows_under prefix (map (λ s. s.change) ys)
same_entries prefix [] [] same = refl
same_entries prefix [] (y ∷ ys) same = absurd cc
same_entries prefix (x ∷ xs) [] same = absurd cc
same_entries prefix (x ∷ xs) (y ∷ ys) same =
    let head : span_entry x ≡ span_entry y = cc in
    let tail : map span_entry xs ≡ map span_entry ys = cc in
    let keys = (same_parts (key_label (span_key x)) (key_label (span_key y)) (0 ∷ number x.first) (0 ∷ number y.first) refl (ap (λ (e : Entry). e.0) head)).0 in
    λ i. (prefix ++ keys i, (head i).1) ∷ same_entries prefix xs ys tail i

same_own : (x y : Change) → x.version ≡ y.version → own_spans x ≡ own_spans y → own_rows x ≡ own_rows y
same_own x y numbers same =
    ap (rows_under (number x.version)) (sym (rows_are x.version x.rows))
    ∙ same_entries (number x.version) (spans_from x.version x.rows) (spans_from y.version y.rows) same
    ∙ ap (rows_under (number x.version)) (rows_are y.version y.rows)
    ∙ ap (λ v. rows_under (number v) y.rows) numbers

-- a change is told by its version, and by the spans that came in it
abbrev IsToldIn : Items → Change → Type 0
IsToldIn m change = (listed_of versions_area change.version m ≡ own_version change) × (where_label (came_within change.version change.version) (listed spans_area [] labels_end m) ≡ own_spans change)

not_more : (m : Items) (n : ℕ) (change : Change) → listed_of versions_area (n + 1) m ≡ [] → change.version ≡ n + 1 → IsToldIn m change → ⊥
not_more m n change none next told = let same : [] ≡ own_version change = sym none ∙ ap (λ v. listed_of versions_area v m) (sym next) ∙ told.0 in cc

-- changes that one map of items tells have the same rows
same_rows : (m : Items) (n : ℕ) (xs ys : List Change) → LeadOn n xs → LeadOn n ys → AllByRecursion (IsToldIn m) xs → AllByRecursion (IsToldIn m) ys
    → listed_of versions_area (newest_from n xs + 1) m ≡ [] → listed_of versions_area (newest_from n ys + 1) m ≡ [] → of_changes own_rows xs ≡ of_changes own_rows ys
same_rows m n [] [] lead_x lead_y told_x told_y end_x end_y = refl
same_rows m n [] (y ∷ ys) lead_x lead_y told_x told_y end_x end_y = absurd (not_more m n y end_x lead_y.0 told_y.0)
same_rows m n (x ∷ xs) [] lead_x lead_y told_x told_y end_x end_y = absurd (not_more m n x end_y lead_x.0 told_x.0)
same_rows m n (x ∷ xs) (y ∷ ys) lead_x lead_y told_x told_y end_x end_y =
    let numbers = lead_x.0 ∙ sym lead_y.0 in
    let spans : own_spans x ≡ own_spans y = sym told_x.0.1 ∙ ap (λ v. where_label (came_within v v) (listed spans_area [] labels_end m)) numbers ∙ told_y.0.1 in
    let first = same_own x y numbers spans in
    let rest = same_rows m x.version xs ys lead_x.1 (subst (λ v. LeadOn v ys) (sym numbers) lead_y.1) told_x.1 told_y.1 end_x (subst (λ v. listed_of versions_area (newest_from v ys + 1) m ≡ []) (sym numbers) end_y) in
    λ i. rest i ++ first i

both_told : (m n : Items) (changes : List Change) → m versions_area ≡ n versions_area → AllByRecursion (IsToldBy m) changes → AllByRecursion (λ change. where_label (came_within change.version change.version) (listed spans_area [] labels_end n) ≡ own_spans change) changes → AllByRecursion (IsToldIn n) changes
both_told m n [] same by spans = tt
both_told m n (change ∷ changes) same by spans = ((ap (λ area. listed_of versions_area change.version (λ a. area)) (sym same) ∙ by.0.version, spans.0), both_told m n changes same by.1 spans.1)

module _ (bs bt : List Span) (s t : HubTables) (are_s : AreTables s) (are_t : AreTables t) (fit_s : Fit s) (fit_t : Fit t)
    (of_s : AreSpans bs s.base) (of_t : AreSpans bt t.base) (plain_s : FitSpans s) (plain_t : FitSpans t) (same : items_in bs s ≡ items_in bt t) where
  state_entries : state_entry s.keep s.base ≡ state_entry t.keep t.base
  state_entries =
      let both : state_entry s.keep s.base ∷ [] ≡ state_entry t.keep t.base ∷ [] =
      sym (listed_sorted (state_entry s.keep s.base ∷ []) refl) ∙ ap (λ (m : Items). entries (m state_area)) same ∙ listed_sorted (state_entry t.keep t.base ∷ []) refl in
      cc

  numbers : s.base.number ≡ t.base.number
  numbers = (state_back s.keep t.keep s.base t.base fit_s.keep fit_t.keep (number_fits s are_s) (number_fits t are_t) fit_s.moment fit_t.moment state_entries).1

  base_rows : rows_under [] s.base.rows ≡ rows_under [] t.base.rows
  base_rows =
      let spans : map span_entry bs ≡ map span_entry bt =
      sym (base_told bs s are_s of_s plain_s) ∙ (λ i. where_label (came_within 0 (numbers i)) (listed spans_area [] labels_end (same i))) ∙ base_told bt t are_t of_t plain_t in
      ap (rows_under []) (sym of_s.rows) ∙ same_entries [] bs bt spans ∙ ap (rows_under []) of_t.rows

  told_of : (base : List Span) (u : HubTables) → AreTables u → Fit u → AreSpans base u.base → FitSpans u → AllByRecursion (IsToldIn (items_in base u)) u.changes
  told_of base u are fit spans plain = both_told (items_of u) (items_in base u) u.changes refl (changes_told u are fit) (told.changes_told base u are spans plain)

  change_rows : of_changes own_rows s.changes ≡ of_changes own_rows t.changes
  change_rows =
      same_rows (items_in bt t) s.base.number s.changes t.changes are_s.lead (subst (λ v. LeadOn v t.changes) (sym numbers) are_t.lead)
      (subst (λ (m : Items). AllByRecursion (IsToldIn m) s.changes) same (told_of bs s are_s fit_s of_s plain_s)) (told_of bt t are_t fit_t of_t plain_t)
      (ap (λ (m : Items). listed_of versions_area (newest_from s.base.number s.changes + 1) m) (sym same) ∙ none_told s are_s fit_s)
      (ap (λ v. listed_of versions_area (newest_from v t.changes + 1) (items_in bt t)) numbers ∙ none_told t are_t fit_t)

  -- what they would be in format 1
  same_in_1 : items_of s ≡ items_of t
  same_in_1 = λ i area. at area i
    where
      at : (area : ℕ) → items_of s area ≡ items_of t area
      at = by_area (λ area. items_of s area ≡ items_of t area)
          refl
          (ap (λ (m : Items). m state_area) same)
          (ap (from_entries {R = bytes_cmp}) base_rows)
          (ap (λ (m : Items). m versions_area) same)
          (ap (from_entries {R = bytes_cmp}) change_rows)
          (ap (λ (m : Items). m grants_area) same)
          (ap (λ (m : Items). m marks_area) same)
          (λ a n0 n1 n2 n3 n4 n5 n6. rw (n0, n1, n2, n3, n4, n5, n6) refl)

  pub same_state : s ≡ t
  same_state = same_tables s t are_s are_t fit_s fit_t same_in_1

pub kept_once : (items : Items) (kept other : KeptState) → KeepSpans items kept → KeepSpans items other → kept ≡ other
kept_once items kept other p q = p.same ∙ ap kept_by (same_state p.base q.base p.tables q.tables p.are q.are p.fit q.fit p.spans q.spans p.plain q.plain (sym p.stored ∙ q.stored)) ∙ sym q.same
