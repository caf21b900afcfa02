-- The names of the rows of the oldest change are told behind its version.
use Rattle.std.proofs.Common.{◌≡◌, ◌+◌, ◌≤◌, ◌<◌, ◌^◌, ℕ, List, [], ◌∷◌, ◌++◌, true, map, refl, ap, ◌∙◌, subst, arith}
use Rattle.std.specs.FinMap.{is_sorted}
use Rattle.std.specs.FinMap.Entries.{below_all}
use Rattle.std.specs.List.{AllByRecursion}
use Rattle.std.specs.Ordering.{is_lt}
use Rattle.std.proofs.lemmas.Bool.{and_from, and_parts}
use Rattle.item_maps.specs.Items.{bytes_cmp, is_between, listed}
use Rattle.roster_types.specs.Keys.{key_cmp, keyed}
use Rattle.version_core.specs.Changes.{AreChanges, change_key}
use Rattle.version_core.specs.Table.{LeadOn}
use Rattle.version_core.specs.Tables.{AreTables}
use Rattle.version_core.specs.Version.{last_version}
use Rattle.version_core.specs.declared.change.Change.{Change}
use Rattle.version_core.specs.declared.hub_tables.HubTables.{HubTables}
use Rattle.version_core.specs.declared.row_change.RowChange.{RowChange}
use Rattle.hub_format.specs.Areas.{names_area}
use Rattle.hub_format.specs.Format.{of_changes, where_label}
use Rattle.hub_format.specs.Pieces.{key_label, number}
use Rattle.hub_format.proofs.EntryMaps.{where-append, where_all}
use Rattle.hub_format.proofs.Labels.{ordered}
use Rattle.hub_format.proofs.Listing.{all_of, listed_where, none_there}
use Rattle.hub_format.proofs.TableListings.{small_from}
use Rattle.span_format.specs.Format.{Span, items_in, name_entry, own_names}
use Rattle.span_format.proofs.Folding.{names_are_of}

later_others : (version n : ℕ) (changes : List Change) → version ≤ n → LeadOn n changes → AllByRecursion (λ change. change.version ≤ last_version) changes
    → AllByRecursion (λ other. (other.version < 2 ^ 64) × (other.version ≡ version → ⊥)) changes
later_others version n [] le lead small = tt
later_others version n (change ∷ changes) le lead small =
    let next = lead.0 in
    let fits = small.0 in
    ((omega (arith, fits), λ same. absurd (omega (arith, le, next, same))), later_others version change.version changes (omega (arith, le, next)) lead.1 small.1)

names_rise : (version : ℕ) (rows : List RowChange) → AreChanges rows → is_sorted bytes_cmp (map (name_entry version) rows) ≡ true
names_rise version [] are = refl
names_rise version (row ∷ rows) are =
    let parts = and_parts (below_all key_cmp (change_key row) (keyed change_key rows)) (is_sorted key_cmp (keyed change_key rows)) are in
    and_from (below_all bytes_cmp (number version ++ key_label (change_key row)) (map (name_entry version) rows)) (is_sorted bytes_cmp (map (name_entry version) rows)) (below rows parts.0) (names_rise version rows parts.1)
  where
    below : (others : List RowChange) → below_all key_cmp (change_key row) (keyed change_key others) ≡ true → below_all bytes_cmp (number version ++ key_label (change_key row)) (map (name_entry version) others) ≡ true
    below [] all = refl
    below (other ∷ others) all =
        let parts = and_parts (is_lt (key_cmp (change_key row) (change_key other))) (below_all key_cmp (change_key row) (keyed change_key others)) all in
        and_from (is_lt (bytes_cmp (number version ++ key_label (change_key row)) (number version ++ key_label (change_key other)))) (below_all bytes_cmp (number version ++ key_label (change_key row)) (map (name_entry version) others))
        (ap is_lt (ordered (number version) (change_key row) (change_key other)) ∙ parts.0) (below others parts.1)

pub oldest_named : (base : List Span) (t : HubTables) (oldest : Change) (rest : List Change) → AreTables t → t.changes ≡ oldest ∷ rest
    → listed names_area (number oldest.version) (number (oldest.version + 1)) (items_in base t) ≡ own_names oldest
oldest_named base t oldest rest are is =
    let lead = subst (LeadOn t.base.number) is are.lead in
    let small = subst (AllByRecursion (λ change. change.version ≤ last_version)) is (small_from t.base t.changes are.versions) in
    let rises = subst (AllByRecursion (λ change. AreChanges change.rows)) is are.changes in
    let le = small.0 in
    let fits : oldest.version + 1 < 2 ^ 64 = omega (arith, le) in
    let there = is_between (number oldest.version) (number (oldest.version + 1)) in
    listed_where there (of_changes own_names t.changes) (own_names oldest)
    (ap (λ changes. where_label there (of_changes own_names changes)) is
    ∙ where-append there (of_changes own_names rest) (own_names oldest)
    ∙ (λ i. none_there own_names (λ change. names_are_of change.version change.rows) oldest.version fits rest (later_others oldest.version oldest.version rest (omega arith) lead.1 small.1) i
    ++ where_all there (own_names oldest) (all_of own_names (λ change. names_are_of change.version change.rows) oldest.version fits (own_names oldest) (names_are_of oldest.version oldest.rows)) i))
    (names_rise oldest.version oldest.rows rises.0)
