-- Tables whose oldest change went into the base.
use Rattle.std.proofs.Common.{◌≡◌, ◌+◌, ◌≤◌, ◌<◌, ◌^◌, ℕ, List, [], ◌∷◌, ◌++◌, ◌==◌, Bool, true, false, if◌then◌else◌}
use Rattle.std.proofs.Common.{map, refl, sym, ap, ◌∙◌, subst, append_assoc, arith}
use Rattle.std.specs.FinMap.{from_entries, retain_keys}
use Rattle.std.specs.List.{AllByRecursion}
use Rattle.item_maps.specs.Items.{Items, bytes_cmp}
use Rattle.item_maps.specs.Edits.{after as after_edits, after_edit}
use Rattle.roster_base.specs.Order.{RiseBy}
use Rattle.version_core.specs.Changes.{AreChanges, change_key}
use Rattle.version_core.specs.Grants.{caller_of}
use Rattle.version_core.specs.Order.{overlaid}
use Rattle.version_core.specs.Version.{after}
use Rattle.version_core.specs.declared.change.BaseVersion.{BaseVersion}
use Rattle.version_core.specs.declared.change.Change.{Change}
use Rattle.version_core.specs.declared.hub_tables.HubTables.{HubTables}
use Rattle.version_core.specs.declared.mark.MarkRow.{MarkRow}
use Rattle.version_core.specs.declared.row_change.RowChange.{RowChange}
use Rattle.hub_format.specs.Areas.{grants_area, names_area, spans_area, state_area, versions_area}
use Rattle.hub_format.specs.Format.{Entry, of_changes, own_version, state_entry, where_label}
use Rattle.hub_format.specs.Pieces.{key_label}
use Rattle.hub_format.proofs.Acts.{Act, Map, both, clear_act, clear_map, next, put_act, put_map}
use Rattle.hub_format.proofs.EntryMaps.{Alike, alike_map, found, found-append, or_else, retained, where-append}
use Rattle.hub_format.proofs.EntryMaps.{where_all}
use Rattle.hub_format.proofs.Folding.{IsOf, Later, cleared, grants_moved, moved_act, moved_in}
use Rattle.span_format.specs.Edits.{folded, hidden_by, spans_after}
use Rattle.span_format.specs.Format.{AreSpans, HasPlainId, HasPlainIds, Span, items_in, name_entry, own_names}
use Rattle.span_format.specs.Format.{own_spans, span_entry, span_key, spans_from}
use Rattle.span_format.proofs.Areas.{by_areas, replaced}
use Rattle.span_format.proofs.Putting.{IsPlain, all_from, all_laid, all_on, all_overlaid, are_shown, is_shown}
use Rattle.span_format.proofs.Putting.{overlaid_rows, spans_ascend, where_true, where_where}

-- what the clears of rows leave of a map
abbrev pub hidden_map : ℕ → List RowChange → Map → Map
hidden_map version [] m = m
hidden_map version (row ∷ rows) m = hidden_map version rows (retain_keys m (is_shown version (change_key row)))

chosen : (b : Bool) (version : ℕ) (row : RowChange) (rows : List RowChange) (m : Map)
    → (if b then hidden_map version rows (if b then retain_keys m (is_shown version (change_key row)) else m) else (if b then retain_keys m (is_shown version (change_key row)) else m)) ≡ (if b then hidden_map version (row ∷ rows) m else m)
chosen true version row rows m = refl
chosen false version row rows m = refl

hide_on : (version : ℕ) (rows : List RowChange) (m : Items) (area : ℕ) → after_edits (map (hidden_by version) rows) m area ≡ (if area == spans_area then hidden_map version rows (m area) else m area)
hide_on version [] m area = same (area == spans_area)
  where
    same : (b : Bool) → m area ≡ (if b then m area else m area)
    same true = refl
    same false = refl
hide_on version (row ∷ rows) m area = hide_on version rows (after_edit (hidden_by version row) m) area ∙ chosen (area == spans_area) version row rows (m area)

hide_act : (version : ℕ) (rows : List RowChange) → Act (map (hidden_by version) rows) (λ area m. if area == spans_area then hidden_map version rows m else m)
hide_act version rows = record { on = hide_on version rows }

hidden_is : (version : ℕ) (rows : List RowChange) (es : List Entry) → hidden_map version rows (from_entries es) ≡ from_entries (where_label (are_shown version rows) es)
hidden_is version [] es = ap (from_entries {R = bytes_cmp}) (sym (where_true es))
hidden_is version (row ∷ rows) es =
    ap (hidden_map version rows) (retained (is_shown version (change_key row)) es)
    ∙ hidden_is version rows (where_label (is_shown version (change_key row)) es)
    ∙ ap (from_entries {R = bytes_cmp}) (where_where (is_shown version (change_key row)) (are_shown version rows) es)

alike_behind : (xs es fs : List Entry) → Alike es fs → Alike (xs ++ es) (xs ++ fs)
alike_behind xs es fs alike q = found-append q xs es ∙ ap (or_else (found q xs)) (alike q) ∙ sym (found-append q xs fs)

pub names_are_of : (version : ℕ) (rows : List RowChange) → AllByRecursion (IsOf version) (map (name_entry version) rows)
names_are_of version [] = tt
names_are_of version (row ∷ rows) = ((key_label (change_key row), refl), names_are_of version rows)

pub spans_plain : (n : ℕ) → n < 2 ^ 64 → (spans : List Span) → AllByRecursion HasPlainId (map (λ s. s.change) spans) → AllByRecursion (λ s. s.first ≤ n) spans → AllByRecursion IsPlain spans
spans_plain n fits [] plains firsts = tt
spans_plain n fits (s ∷ spans) plains firsts = let le = firsts.0 in (record { id = plains.0; first = omega (arith, le, fits) }, spans_plain n fits spans plains.1 firsts.1)

came_before : (n version : ℕ) → n < version → (spans : List Span) → AllByRecursion (λ s. s.first ≤ n) spans → AllByRecursion (λ s. s.first < version) spans
came_before n version lt [] firsts = tt
came_before n version lt (s ∷ spans) firsts = let le = firsts.0 in (omega (arith, le, lt), came_before n version lt spans firsts.1)

no_later : (n version : ℕ) → n ≤ version → (spans : List Span) → AllByRecursion (λ s. s.first ≤ n) spans → AllByRecursion (λ s. s.first ≤ version) spans
no_later n version le [] firsts = tt
no_later n version le (s ∷ spans) firsts = let here = firsts.0 in (omega (arith, here, le), no_later n version le spans firsts.1)

pub all_of_it : (version : ℕ) (rows : List RowChange) → AllByRecursion (λ (s : Span). s.first ≤ version) (spans_from version rows)
all_of_it version [] = tt
all_of_it version (row ∷ rows) = (omega arith, all_of_it version rows)

-- spans of a version become those of the next
pub spans_of_next : (spans : List Span) (base : BaseVersion) (oldest : Change) → base.number ≤ oldest.version → AreSpans spans base → AreSpans (spans_after spans oldest) (after base oldest)
spans_of_next spans base oldest le of_base = record {
  rows = overlaid_rows spans oldest.version oldest.rows ∙ ap (λ rows. overlaid change_key rows oldest.rows) of_base.rows;
  firsts = all_overlaid span_key (λ (s : Span). s.first ≤ oldest.version) spans (spans_from oldest.version oldest.rows) (no_later base.number oldest.version le spans of_base.firsts) (all_of_it oldest.version oldest.rows);
}

module _ (keep : ℕ) (spans : List Span) (base : BaseVersion) (oldest : Change) (rest : List Change) (marks : List MarkRow)
    (are : AreChanges oldest.rows) (rise : RiseBy caller_of base.grants)
    (later : Later base.number (oldest ∷ rest)) (after_oldest : Later oldest.version rest)
    (of_base : AreSpans spans base) (up : AreChanges base.rows) (plain : AllByRecursion HasPlainId base.rows) (news : HasPlainIds oldest) (others : AllByRecursion HasPlainIds rest) where
  abbrev old_tables : HubTables
  old_tables = record { keep = keep; base = base; changes = oldest ∷ rest; marks = marks }

  abbrev new_tables : HubTables
  new_tables = record { keep = keep; base = after base oldest; changes = rest; marks = marks }

  abbrev does : ℕ → Map → Map
  does = next (put_map state_area (state_entry keep (after base oldest)))
      (next (next (λ area m. if area == spans_area then hidden_map oldest.version oldest.rows m else m) (λ area m. if area == grants_area then moved_in oldest.version base.grants oldest.grants m else m))
      (next (clear_map versions_area oldest.version) (next (clear_map names_area oldest.version) (clear_map grants_area base.number))))

  acts : Act (folded keep base oldest) does
  acts = both (put_act state_area (state_entry keep (after base oldest)))
      (both (both (hide_act oldest.version oldest.rows) (moved_act oldest.version base.grants oldest.grants))
      (both (clear_act versions_area oldest.version) (both (clear_act names_area oldest.version) (clear_act grants_area base.number))))

  fits_oldest : oldest.version + 1 < 2 ^ 64
  fits_oldest = let le = later.0.1 in omega (arith, le)

  -- spans of the changes that stay are shown
  rest_shown : (changes : List Change) → Later oldest.version changes → AllByRecursion HasPlainIds changes → where_label (are_shown oldest.version oldest.rows) (of_changes own_spans changes) ≡ of_changes own_spans changes
  rest_shown [] laters plains = refl
  rest_shown (change ∷ changes) laters plains =
      let here = laters.0 in
      where-append (are_shown oldest.version oldest.rows) (of_changes own_spans changes) (own_spans change)
      ∙ (λ i. rest_shown changes laters.1 plains.1 i ++ where_all (are_shown oldest.version oldest.rows) (own_spans change)
      (all_from change.version oldest.version (omega (arith, here.1)) (omega (arith, here.0)) (are_shown oldest.version oldest.rows) change.rows plains.0 (λ s s_plain le. all_on oldest.version (omega (arith, fits_oldest)) oldest.rows s news s_plain le)) i)

  oldest_shown : where_label (are_shown oldest.version oldest.rows) (own_spans oldest) ≡ own_spans oldest
  oldest_shown =
      where_all (are_shown oldest.version oldest.rows) (own_spans oldest)
      (all_from oldest.version oldest.version (omega (arith, fits_oldest)) (omega arith) (are_shown oldest.version oldest.rows) oldest.rows news (λ s s_plain le. all_on oldest.version (omega (arith, fits_oldest)) oldest.rows s news s_plain le))

  spans_laid : hidden_map oldest.version oldest.rows (from_entries ((of_changes own_spans rest ++ own_spans oldest) ++ map span_entry spans)) ≡ from_entries (of_changes own_spans rest ++ map span_entry (spans_after spans oldest))
  spans_laid =
      let lt = later.0.0 in
      let le = later.0.1 in
      let xs = of_changes own_spans rest in
      let old = map span_entry spans in
      let left = where_label (are_shown oldest.version oldest.rows) old in
      let plains = spans_plain base.number (omega (arith, lt, le)) spans (subst (AllByRecursion HasPlainId) (sym of_base.rows) plain) of_base.firsts in
      let laid = all_laid oldest.version (omega (arith, le)) spans (spans_ascend spans base.rows of_base.rows up) plains (came_before base.number oldest.version lt spans of_base.firsts) oldest.rows are news in
      hidden_is oldest.version oldest.rows ((xs ++ own_spans oldest) ++ old)
      ∙ ap (from_entries {R = bytes_cmp}) (where-append (are_shown oldest.version oldest.rows) (xs ++ own_spans oldest) old
      ∙ ap (λ es. es ++ left) (where-append (are_shown oldest.version oldest.rows) xs (own_spans oldest))
      ∙ (λ i. (rest_shown rest after_oldest others i ++ oldest_shown i) ++ left) ∙ append_assoc xs (own_spans oldest) left)
      ∙ alike_map (xs ++ (own_spans oldest ++ left)) (xs ++ map span_entry (spans_after spans oldest))
      (alike_behind xs (own_spans oldest ++ left) (map span_entry (spans_after spans oldest)) (λ q. sym (laid q)))

  at : (area : ℕ) → does area (items_in spans old_tables area) ≡ items_in (spans_after spans oldest) new_tables area
  at = by_areas (λ area. does area (items_in spans old_tables area) ≡ items_in (spans_after spans oldest) new_tables area)
      refl
      (alike_map (state_entry keep (after base oldest) ∷ state_entry keep base ∷ []) (state_entry keep (after base oldest) ∷ []) (replaced (state_entry keep (after base oldest)) (state_entry keep base) refl))
      refl
      (retained _ (of_changes own_version (oldest ∷ rest))
      ∙ ap (from_entries {R = bytes_cmp}) (cleared own_version (λ change. (([], refl), tt)) oldest.version fits_oldest oldest rest refl after_oldest))
      refl
      (grants_moved keep base oldest rest marks are rise later after_oldest oldest.grants)
      refl
      spans_laid
      (retained _ (of_changes own_names (oldest ∷ rest))
      ∙ ap (from_entries {R = bytes_cmp}) (cleared own_names (λ change. names_are_of change.version change.rows) oldest.version fits_oldest oldest rest refl after_oldest))
      (λ a n0 n1 n2 n3 n4 n5 n6 n7 n8. rw (n0, n1, n3, n5, n6, n7, n8) refl)

  pub folded_is : after_edits (folded keep base oldest) (items_in spans old_tables) ≡ items_in (spans_after spans oldest) new_tables
  folded_is = λ i area. (acts.on (items_in spans old_tables) area ∙ at area) i
