-- What is listed of an area.
use Rattle.std.proofs.Common.{◌≡◌, ◌+◌, ◌<◌, ◌^◌, ℕ, List, [], ◌∷◌, ◌++◌, Bool, true, false, refl, sym, ap, ◌∙◌}
use Rattle.std.proofs.Common.{append-nil}
use Rattle.std.specs.FinMap.{entries, entries-from_sorted, from_entries, from_sorted, get-from_entries, get-from_sorted}
use Rattle.std.specs.FinMap.{is_sorted, retain_keys, same_map}
use Rattle.std.specs.FinMap.Entries.{below_all}
use Rattle.std.specs.List.{AllByRecursion}
use Rattle.std.specs.Ordering.{is_lt}
use Rattle.std.proofs.lemmas.Bool.{and_from, and_parts}
use Rattle.std.proofs.lemmas.Cmp.{nat_list_cmp_total}
use Rattle.item_maps.proofs.ItemLemmas.{same_bytes}
use Rattle.item_maps.specs.Items.{bytes_cmp, is_between}
use Rattle.roster_types.specs.Keys.{key_cmp, keyed}
use Rattle.version_core.proofs.OrderLemmas.{passes}
use Rattle.version_core.specs.Changes.{AreChanges, change_key}
use Rattle.version_core.specs.declared.change.Change.{Change}
use Rattle.version_core.specs.declared.row_change.RowChange.{RowChange}
use Rattle.hub_format.specs.Format.{Entry, of_changes, rows_under, where_label}
use Rattle.hub_format.specs.Pieces.{key_label, number}
use Rattle.hub_format.proofs.EntryMaps.{retained, where-append, where_all, where_none}
use Rattle.hub_format.proofs.Folding.{IsOf}
use Rattle.hub_format.proofs.Labels.{ordered}
use Rattle.hub_format.proofs.Orders.{of_other, of_version}

-- entries whose labels rise are listed as they stand
pub listed_sorted : (es : List Entry) → is_sorted bytes_cmp es ≡ true → entries (from_entries {R = bytes_cmp} es) ≡ es
listed_sorted es up =
    let rises = passes (is_sorted bytes_cmp es) up in
    let same : from_entries {R = bytes_cmp} es ≡ from_sorted es =
    same_map nat_list_cmp_total same_bytes _ _ (λ q. get-from_entries nat_list_cmp_total es q ∙ sym (get-from_sorted bytes_cmp es q rises)) in
    ap entries same ∙ entries-from_sorted bytes_cmp es rises

-- those that pass
pub listed_where : (p : List ℕ → Bool) (es fs : List Entry) → where_label p es ≡ fs → is_sorted bytes_cmp fs ≡ true → entries (retain_keys (from_entries {R = bytes_cmp} es) p) ≡ fs
listed_where p es fs is up = ap entries (retained p es ∙ ap (from_entries {R = bytes_cmp}) is) ∙ listed_sorted fs up

-- rows in the order of their keys rise by their labels
pub rows_rise : (prefix : List ℕ) (rows : List RowChange) → AreChanges rows → is_sorted bytes_cmp (rows_under prefix rows) ≡ true
rows_rise prefix [] are = refl
rows_rise prefix (row ∷ rows) are =
    let parts = and_parts (below_all key_cmp (change_key row) (keyed change_key rows)) (is_sorted key_cmp (keyed change_key rows)) are in
    and_from (below_all bytes_cmp (prefix ++ key_label (change_key row)) (rows_under prefix rows)) (is_sorted bytes_cmp (rows_under prefix rows)) (below rows parts.0) (rows_rise prefix rows parts.1)
  where
    below : (others : List RowChange) → below_all key_cmp (change_key row) (keyed change_key others) ≡ true → below_all bytes_cmp (prefix ++ key_label (change_key row)) (rows_under prefix others) ≡ true
    below [] all = refl
    below (other ∷ others) all =
        let parts = and_parts (is_lt (key_cmp (change_key row) (change_key other))) (below_all key_cmp (change_key row) (keyed change_key others)) all in
        and_from (is_lt (bytes_cmp (prefix ++ key_label (change_key row)) (prefix ++ key_label (change_key other)))) (below_all bytes_cmp (prefix ++ key_label (change_key row)) (rows_under prefix others))
        (ap is_lt (ordered prefix (change_key row) (change_key other)) ∙ parts.0) (below others parts.1)

-- behind a version's number stands what the version has
module _ (own : Change → List Entry) (is_of : (change : Change) → AllByRecursion (IsOf change.version) (own change)) where
  pub all_of : (version : ℕ) → version + 1 < 2 ^ 64 → (es : List Entry) → AllByRecursion (IsOf version) es → AllByRecursion (λ e. is_between (number version) (number (version + 1)) e.0 ≡ true) es
  all_of version fits [] all = tt
  all_of version fits (e ∷ es) all = (ap (is_between (number version) (number (version + 1))) all.0.1 ∙ of_version version all.0.0 fits, all_of version fits es all.1)

  pub none_of : (version other : ℕ) → version + 1 < 2 ^ 64 → other < 2 ^ 64 → (other ≡ version → ⊥) → (es : List Entry) → AllByRecursion (IsOf other) es → AllByRecursion (λ e. is_between (number version) (number (version + 1)) e.0 ≡ false) es
  none_of version other fits others apart [] all = tt
  none_of version other fits others apart (e ∷ es) all = (ap (is_between (number version) (number (version + 1))) all.0.1 ∙ of_other version other all.0.0 fits others apart, none_of version other fits others apart es all.1)

  -- changes of other versions have nothing behind this one's number
  pub none_there : (version : ℕ) → version + 1 < 2 ^ 64 → (changes : List Change) → AllByRecursion (λ change. (change.version < 2 ^ 64) × (change.version ≡ version → ⊥)) changes
      → where_label (is_between (number version) (number (version + 1))) (of_changes own changes) ≡ []
  none_there version fits [] all = refl
  none_there version fits (change ∷ changes) all =
      where-append (is_between (number version) (number (version + 1))) (of_changes own changes) (own change)
      ∙ ap (λ es. es ++ where_label (is_between (number version) (number (version + 1))) (own change)) (none_there version fits changes all.1)
      ∙ where_none (is_between (number version) (number (version + 1))) (own change) (none_of version change.version fits all.0.0 all.0.1 (own change) (is_of change))

  pub one_there : (before later : List Change) (change : Change) → change.version + 1 < 2 ^ 64
      → AllByRecursion (λ other. (other.version < 2 ^ 64) × (other.version ≡ change.version → ⊥)) before → AllByRecursion (λ other. (other.version < 2 ^ 64) × (other.version ≡ change.version → ⊥)) later
      → where_label (is_between (number change.version) (number (change.version + 1))) (of_changes own (before ++ change ∷ later)) ≡ own change
  one_there [] later change fits first last =
      where-append (is_between (number change.version) (number (change.version + 1))) (of_changes own later) (own change)
      ∙ ap (λ es. es ++ where_label (is_between (number change.version) (number (change.version + 1))) (own change)) (none_there change.version fits later last)
      ∙ where_all (is_between (number change.version) (number (change.version + 1))) (own change) (all_of change.version fits (own change) (is_of change))
  one_there (x ∷ before) later change fits first last =
      where-append (is_between (number change.version) (number (change.version + 1))) (of_changes own (before ++ change ∷ later)) (own x)
      ∙ ap (λ es. es ++ where_label (is_between (number change.version) (number (change.version + 1))) (own x)) (one_there before later change fits first.1 last)
      ∙ ap (λ es. own change ++ es) (where_none (is_between (number change.version) (number (change.version + 1))) (own x) (none_of change.version x.version fits first.0.0 first.0.1 (own x) (is_of x)))
      ∙ append-nil (own change)
