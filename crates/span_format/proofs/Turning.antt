-- Items of format 1 become items of format 2 that keep the same state.
use Rattle.std.proofs.Common.{◌≡◌, ◌/◌, ◌%◌, ◌^◌, ◌≤◌, ◌==◌, ℕ, Bool, List, [], ◌∷◌, ◌++◌, true, false, not, drop, map, refl, sym}
use Rattle.std.proofs.Common.{ap, ◌∙◌, append-nil, append_assoc, arith}
use Rattle.std.specs.FinMap.{from_entries}
use Rattle.std.specs.List.{AllByRecursion}
use Rattle.std.specs.Ordering.{is_lt, ordering_then}
use Rattle.item_maps.specs.Edits.{after as after_edits}
use Rattle.item_maps.specs.Items.{Items, bytes_cmp, is_between}
use Rattle.keeper_memory.specs.Kept.{KeptState}
use Rattle.version_core.specs.Changes.{AreChanges, change_key}
use Rattle.version_core.specs.Tables.{AreTables}
use Rattle.version_core.specs.Version.{IsVersion, after, last_version, versions_from}
use Rattle.version_core.specs.declared.change.BaseVersion.{BaseVersion}
use Rattle.version_core.specs.declared.change.Change.{Change}
use Rattle.version_core.specs.declared.hub_tables.HubTables.{HubTables}
use Rattle.version_core.specs.declared.row_change.RowChange.{RowChange}
use Rattle.version_core.proofs.TableLemmas.{base_meets}
use Rattle.hub_format.specs.Areas.{base_rows_area, change_rows_area, format_area, names_area, spans_area}
use Rattle.hub_format.specs.Format.{Entry, Keep, first_format, format_entry, items_of, of_changes, own_rows, rows_under}
use Rattle.hub_format.specs.Format.{where_label, written_format}
use Rattle.hub_format.specs.Pieces.{key_label, labels_end, number}
use Rattle.hub_format.proofs.Acts.{Act, Map, both, next, put_act, put_map, puts_act, puts_map}
use Rattle.hub_format.proofs.EntryMaps.{alike_map, filled_is, retained, where-append, where_none}
use Rattle.hub_format.proofs.Orders.{less_is}
use Rattle.hub_format.proofs.TableListings.{row_below}
use Rattle.span_format.specs.Edits.{brought, turn_edits}
use Rattle.span_format.specs.Format.{FitSpans, KeepSpans, items_in, own_names, own_spans, span_entry, spans_from}
use Rattle.span_format.proofs.Areas.{by_areas, cleared_act, cleared_map, replaced}
use Rattle.span_format.proofs.Folding.{all_of_it}
use Rattle.span_format.proofs.Labels.{names_differ, spans_differ}

-- what the changes bring to the map of each area
abbrev brings : List Change → ℕ → Map → Map
brings [] area m = m
brings (change ∷ changes) area m = brings changes area (next (puts_map spans_area (own_spans change)) (puts_map names_area (own_names change)) area m)

brought_act : (changes : List Change) → Act (brought changes) (brings changes)
brought_act [] = record { on = λ m area. refl }
brought_act (change ∷ changes) = both (both (puts_act spans_area (own_spans change)) (puts_act names_area (own_names change))) (brought_act changes)

others : (area : ℕ) → (area == spans_area) ≡ false → (area == names_area) ≡ false → (changes : List Change) (m : Map) → brings changes area m ≡ m
others area n7 n8 [] m = refl
others area n7 n8 (change ∷ changes) m = rw (n7, n8) (others area n7 n8 changes m)

abbrev AllRise : List Change → Type 0
AllRise changes = AllByRecursion (λ change. AreChanges change.rows) changes

spans_brought : (changes : List Change) (es : List Entry) → AllRise changes → brings changes spans_area (from_entries es) ≡ from_entries (of_changes own_spans changes ++ es)
spans_brought [] es are = refl
spans_brought (change ∷ changes) es are =
    ap (brings changes spans_area) (filled_is (own_spans change) es (spans_differ change.version change.rows are.0))
    ∙ spans_brought changes (own_spans change ++ es) are.1
    ∙ ap (from_entries {R = bytes_cmp}) (sym (append_assoc (of_changes own_spans changes) (own_spans change) es))

names_brought : (changes : List Change) (es : List Entry) → AllRise changes → brings changes names_area (from_entries es) ≡ from_entries (of_changes own_names changes ++ es)
names_brought [] es are = refl
names_brought (change ∷ changes) es are =
    ap (brings changes names_area) (filled_is (own_names change) es (names_differ change.version change.rows are.0))
    ∙ names_brought changes (own_names change ++ es) are.1
    ∙ ap (from_entries {R = bytes_cmp}) (sym (append_assoc (of_changes own_names changes) (own_names change) es))

-- a label that stays where those of all rows are cleared
abbrev is_left : List ℕ → Bool
is_left label = not (is_between [] labels_end label)

base_gone : (rows : List RowChange) → AllByRecursion (λ e. is_left e.0 ≡ false) (rows_under [] rows)
base_gone [] = tt
base_gone (row ∷ rows) = (ap not (row_below row.row.kind row.row.id), base_gone rows)

version_below : (n : ℕ) (x : List ℕ) → n ≤ last_version → is_between [] labels_end (number n ++ x) ≡ true
version_below n x le =
    ap (λ o. is_lt (ordering_then o (bytes_cmp (drop 1 (number n) ++ x) []))) (less_is (n / 2 ^ 56 % 256) 255 (omega (arith, le)))

change_gone : (version : ℕ) → version ≤ last_version → (rows : List RowChange) → AllByRecursion (λ e. is_left e.0 ≡ false) (rows_under (number version) rows)
change_gone version le [] = tt
change_gone version le (row ∷ rows) = (ap not (version_below version (key_label (change_key row)) le), change_gone version le rows)

changes_gone : (base : BaseVersion) (changes : List Change) → AllByRecursion IsVersion (versions_from base changes) → where_label is_left (of_changes own_rows changes) ≡ []
changes_gone base [] are = refl
changes_gone base (change ∷ changes) are =
    let small = (base_meets IsVersion (after base change) changes are.1).number in
    where-append is_left (of_changes own_rows changes) (own_rows change)
    ∙ ap (λ es. es ++ where_label is_left (own_rows change)) (changes_gone (after base change) changes are.1)
    ∙ where_none is_left (own_rows change) (change_gone change.version small change.rows)

pub rows_are : (version : ℕ) (rows : List RowChange) → map (λ s. s.change) (spans_from version rows) ≡ rows
rows_are version [] = refl
rows_are version (row ∷ rows) = ap (λ others. row ∷ others) (rows_are version rows)

module _ (t : HubTables) (are : AreTables t) where
  abbrev base_spans : List Entry
  base_spans = map span_entry (spans_from t.base.number t.base.rows)

  abbrev does : ℕ → Map → Map
  does = next (put_map format_area (format_entry written_format)) (next (cleared_map base_rows_area [] labels_end) (next (cleared_map change_rows_area [] labels_end) (next (puts_map spans_area base_spans) (brings t.changes))))

  acts : Act (turn_edits t) does
  acts = both (put_act format_area (format_entry written_format)) (both (cleared_act base_rows_area [] labels_end) (both (cleared_act change_rows_area [] labels_end) (both (puts_act spans_area base_spans) (brought_act t.changes))))

  base_rise : AreChanges t.base.rows
  base_rise = (base_meets IsVersion t.base t.changes are.versions).rows

  at : (area : ℕ) → does area (items_of t area) ≡ items_in (spans_from t.base.number t.base.rows) t area
  at = by_areas (λ area. does area (items_of t area) ≡ items_in (spans_from t.base.number t.base.rows) t area)
      (others 0 refl refl t.changes _ ∙ alike_map (format_entry written_format ∷ format_entry first_format ∷ []) (format_entry written_format ∷ []) (replaced (format_entry written_format) (format_entry first_format) refl))
      (others 1 refl refl t.changes _)
      (others 2 refl refl t.changes _ ∙ retained _ (rows_under [] t.base.rows) ∙ ap (from_entries {R = bytes_cmp}) (where_none is_left (rows_under [] t.base.rows) (base_gone t.base.rows)))
      (others 3 refl refl t.changes _)
      (others 4 refl refl t.changes _ ∙ retained _ (of_changes own_rows t.changes) ∙ ap (from_entries {R = bytes_cmp}) (changes_gone t.base t.changes are.versions))
      (others 5 refl refl t.changes _)
      (others 6 refl refl t.changes _)
      (ap (brings t.changes spans_area) (filled_is base_spans [] (spans_differ t.base.number t.base.rows base_rise) ∙ ap (from_entries {R = bytes_cmp}) (append-nil base_spans)) ∙ spans_brought t.changes base_spans are.changes)
      (names_brought t.changes [] are.changes ∙ ap (from_entries {R = bytes_cmp}) (append-nil (of_changes own_names t.changes)))
      (λ a n0 n1 n2 n3 n4 n5 n6 n7 n8. rw (n0, n1, n2, n3, n4, n5, n6, n7, n8) (others a n7 n8 t.changes _))

  pub turned_is : after_edits (turn_edits t) (items_of t) ≡ items_in (spans_from t.base.number t.base.rows) t
  turned_is = λ i area. (acts.on (items_of t) area ∙ at area) i

pub turned : (items : Items) (state : KeptState) (keep : Keep items state) → FitSpans keep.tables → KeepSpans (after_edits (turn_edits keep.tables) items) state
turned items state keep plain = record {
  tables = keep.tables;
  base = spans_from keep.tables.base.number keep.tables.base.rows;
  stored = ap (after_edits (turn_edits keep.tables)) keep.stored ∙ turned_is keep.tables keep.are;
  spans = record { rows = rows_are keep.tables.base.number keep.tables.base.rows; firsts = all_of_it keep.tables.base.number keep.tables.base.rows };
  same = keep.same;
  are = keep.are;
  fit = keep.fit;
  plain = plain;
}
