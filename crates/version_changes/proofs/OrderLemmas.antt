-- Rows of which each is below the next.
use Rattle.std.proofs.Common.{◌≡◌, ◌+◌, ◌<◌, ℕ, suc, List, [], ◌∷◌, true, get_or, length, refl, ap, subst, arith}
use Rattle.std.specs.Ordering.{is_lt}
use Rattle.std.specs.declared.cmp.Ordering.TheVariants.{Less}
use Rattle.std.proofs.lemmas.Bool.{and_from}
use Rattle.std.specs.FinMap.Entries as entries
use Rattle.reference_rules.proofs.KeyOrder.{and_first, and_second, key_total, less_from_is_lt}
use Rattle.roster_types.specs.Keys.{Key, key_cmp, keyed}
use Rattle.version_core.specs.Changes.{AreChanges, change_key}
use Rattle.version_core.specs.declared.row_change.RowChange.{RowChange}

-- what is below the first of rows is below what stands behind it
below_later : (k l : Key) (rows : List RowChange) → key_cmp k l ≡ Less → entries.below_all key_cmp l (keyed change_key rows) ≡ true → entries.below_all key_cmp k (keyed change_key rows) ≡ true
below_later k l [] less below = refl
below_later k l (row ∷ rows) less below =
    and_from _ _ (ap is_lt (key_total.trans k l (change_key row) less (less_from_is_lt _ (and_first _ _ below)))) (below_later k l rows less (and_second _ _ below))

pub changes_ascend : (rows : List RowChange) → ((k : ℕ) (d : RowChange) → k + 1 < length rows → key_cmp (change_key (get_or rows k d)) (change_key (get_or rows (k + 1) d)) ≡ Less) → AreChanges rows
changes_ascend [] each = refl
changes_ascend (row ∷ []) each = refl
changes_ascend (row ∷ next ∷ rows) each =
    let less : key_cmp (change_key row) (change_key next) ≡ Less = each 0 row (omega arith) in
    let later = changes_ascend (next ∷ rows) (λ k d lt.
    let more : suc k + 1 ≡ suc (k + 1) = omega arith in
    subst (λ n. key_cmp (change_key (get_or (row ∷ next ∷ rows) (suc k) d)) (change_key (get_or (row ∷ next ∷ rows) n d)) ≡ Less) more (each (suc k) d (omega (arith, lt)))) in
    and_from _ _ (and_from _ _ (ap is_lt less) (below_later (change_key row) (change_key next) rows less (and_first _ _ later))) later
