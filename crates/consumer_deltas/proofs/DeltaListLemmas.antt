-- The lists of a copy, in the words of what differs.
use Rattle.std.proofs.Common.{◌≡◌, ℕ, List, [], ◌∷◌, ◌++◌, Bool, true, Option, None, Some, not, filter, bytes_eq, refl}
use Rattle.std.proofs.Common.{◌∙◌, ap, arith}
use Rattle.std.proofs.lemmas.Bool.{and_from}
use Rattle.std.specs.FinMap.Entries as entries
use Rattle.std.specs.List.{All, AllByRecursion, list_any}
use Rattle.std.specs.Ordering.{is_lt, nat_cmp}
use Rattle.std.proofs.lemmas.Bool.Decides.{nat_tests}
use Rattle.std.proofs.lemmas.List.Elements.{All-from_recursion, recursion_from_All}
use Rattle.std.specs.Cmp.Lexicographic.{slice_cmp}
use Rattle.exchange_link.proofs.CutLemmas.{any_first, rows_ascend}
use Rattle.hub_spec.proofs.Below.{and_first, and_second}
use Rattle.keeper_memory.specs.copy.Lists.{IsList, ascends}
use Rattle.reference_rules.proofs.KeyOrder.{same_kind}
use Rattle.roster_types.specs.Keys.{Ascends, is_after, is_of_kind, key_cmp, keyed, row_key}
use Rattle.roster_types.specs.Records.{Record}
use Rattle.roster_values.proofs.KindLaws.{kind_from_place}
use Rattle.roster_values.specs.Kinds.{place_of_kind}
use Rattle.roster_values.specs.declared.kind.Kind.{Kind}
use Rattle.row_deltas.proofs.DeltaLemmas.{all_overlaid}
use Rattle.row_deltas.specs.Deltas.{AreOf, merged}
use Rattle.version_core.proofs.LookUps.{Ascends-filter, all_kept}
use Rattle.version_core.proofs.OrderLemmas.{Ascends-overlaid}
use Rattle.version_core.specs.Spans.{key_in}
use Rattle.consumer_deltas.proofs.DeltaFollowLemmas.{lower}
use Rattle.consumer_deltas.specs.DeltaJudging.{ids_ascend, last_id}

module _ (kind : Kind) where
  key_less : (a b : List ℕ) → is_lt (slice_cmp nat_cmp a b) ≡ true → is_lt (key_cmp (key_in kind a) (key_in kind b)) ≡ true
  key_less a b e = ap is_lt (same_kind (place_of_kind kind) a b) ∙ e

  -- ids

  ids_lower : (a b : List ℕ) (ids : List (List ℕ)) → is_lt (slice_cmp nat_cmp a b) ≡ true → ids_ascend (Some b) ids ≡ true → ids_ascend (Some a) ids ≡ true
  ids_lower a b [] less up = refl
  ids_lower a b (id ∷ ids) less up = and_from _ _ (lower a b id less (and_first _ _ up)) (and_second (is_lt (slice_cmp nat_cmp b id)) _ up)

  ids_below : (id : List ℕ) (ids : List (List ℕ)) → ids_ascend (Some id) ids ≡ true → entries.below_all key_cmp (key_in kind id) (keyed (key_in kind) ids) ≡ true
  ids_below id [] up = refl
  ids_below id (other ∷ ids) up =
      let less = and_first (is_lt (slice_cmp nat_cmp id other)) _ up in
      and_from _ _ (key_less id other less) (ids_below id ids (ids_lower id other ids less (and_second (is_lt (slice_cmp nat_cmp id other)) _ up)))

  pub ids_rise : (last : Option (List ℕ)) (ids : List (List ℕ)) → ids_ascend last ids ≡ true → Ascends (key_in kind) ids
  ids_rise last [] up = refl
  ids_rise None (id ∷ ids) up = and_from _ _ (ids_below id ids up) (ids_rise (Some id) ids up)
  ids_rise (Some last) (id ∷ ids) up =
      let rest = and_second (is_lt (slice_cmp nat_cmp last id)) _ up in
      and_from _ _ (ids_below id ids rest) (ids_rise (Some id) ids rest)

  -- rows

  abbrev AreRows : List Record → Type 0
  AreRows rows = AllByRecursion (λ (row : Record). row.kind ≡ kind) rows

  rows_lower : (a b : List ℕ) (rows : List Record) → is_lt (slice_cmp nat_cmp a b) ≡ true → ascends (Some b) rows ≡ true → ascends (Some a) rows ≡ true
  rows_lower a b [] less up = refl
  rows_lower a b (row ∷ rows) less up = and_from _ _ (lower a b row.id less (and_first _ _ up)) (and_second (is_lt (slice_cmp nat_cmp b row.id)) _ up)

  rows_below : (id : List ℕ) (rows : List Record) → AreRows rows → ascends (Some id) rows ≡ true → entries.below_all key_cmp (key_in kind id) (keyed row_key rows) ≡ true
  rows_below id [] are up = refl
  rows_below id (row ∷ rows) are up =
      let less = and_first (is_lt (slice_cmp nat_cmp id row.id)) _ up in
      and_from _ _ (ap (λ (k : Kind). is_lt (key_cmp (key_in kind id) (key_in k row.id))) are.0 ∙ key_less id row.id less)
      (rows_below id rows are.1 (rows_lower id row.id rows less (and_second (is_lt (slice_cmp nat_cmp id row.id)) _ up)))

  -- a row in front of others
  first : (row : Record) (rows : List Record) → row.kind ≡ kind → entries.below_all key_cmp (key_in kind row.id) (keyed row_key rows) ≡ true → Ascends row_key rows → Ascends row_key (row ∷ rows)
  first row rows of below up = and_from _ _ (ap (λ (k : Kind). entries.below_all key_cmp (key_in k row.id) (keyed row_key rows)) of ∙ below) up

  rise : (last : Option (List ℕ)) (rows : List Record) → AreRows rows → ascends last rows ≡ true → Ascends row_key rows
  rise last [] are up = refl
  rise None (row ∷ rows) are up = first row rows are.0 (rows_below row.id rows are.1 up) (rise (Some row.id) rows are.1 up)
  rise (Some last) (row ∷ rows) are up =
      let rest = and_second (is_lt (slice_cmp nat_cmp last row.id)) _ up in
      first row rows are.0 (rows_below row.id rows are.1 rest) (rise (Some row.id) rows are.1 rest)

  are_of : (rows : List Record) → AreRows rows → AreOf kind rows
  are_of [] are = tt
  are_of (row ∷ rows) are = (let same : place_of_kind row.kind ≡ place_of_kind kind = ap place_of_kind are.0 in grind (arith, nat_tests), are_of rows are.1)

  are_rows : (rows : List Record) → AreOf kind rows → AreRows rows
  are_rows [] are = tt
  are_rows (row ∷ rows) are = (kind_from_place row.kind kind (let e = are.0 in let same : place_of_kind row.kind ≡ place_of_kind kind = grind (arith, nat_tests, e) in same), are_rows rows are.1)

  -- a list of a copy is one of the kind, in the order of keys
  pub rows_rise : (rows : List Record) → IsList kind rows → Ascends row_key rows
  rows_rise rows is = rise None rows (recursion_from_All (λ (row : Record). row.kind ≡ kind) rows is.kinds) is.ascend

  pub rows_are : (rows : List Record) → IsList kind rows → AreOf kind rows
  rows_are rows is = are_of rows (recursion_from_All (λ (row : Record). row.kind ≡ kind) rows is.kinds)

  pub is_list : (rows : List Record) → AreOf kind rows → Ascends row_key rows → IsList kind rows
  is_list rows are up = record { kinds = All-from_recursion (λ (row : Record). row.kind ≡ kind) rows (are_rows rows are); ascend = rows_ascend kind None rows are up (any_first rows) }

  -- and so is what is merged of such
  pub merged_list : (held puts : List Record) (gone : List (List ℕ)) → IsList kind held → IsList kind puts → IsList kind (merged held puts gone)
  unfolding merged
  merged_list held puts gone is is' =
      let kept : Record → Bool = λ row. not (list_any (bytes_eq row.id) gone) in
      is_list (merged held puts gone)
      (all_overlaid kind row_key (λ (row : Record). is_of_kind kind row ≡ true) (filter kept held) puts (all_kept (λ (row : Record). is_of_kind kind row ≡ true) kept held (rows_are held is)) (rows_are puts is'))
      (Ascends-overlaid row_key (filter kept held) puts (Ascends-filter row_key kept held (rows_rise held is)))

-- ---- parts, one behind the other

pub ids_join : (last : Option (List ℕ)) (ids more : List (List ℕ)) → ids_ascend last ids ≡ true → ids_ascend (last_id last ids) more ≡ true → ids_ascend last (ids ++ more) ≡ true
ids_join last [] more up up' = up'
ids_join last (id ∷ ids) more up up' = and_from _ _ (and_first (is_after last id) _ up) (ids_join (Some id) ids more (and_second (is_after last id) _ up) up')

-- what follows is a list by itself
alone : (last : Option (List ℕ)) (rows : List Record) → ascends last rows ≡ true → ascends None rows ≡ true
alone last [] up = refl
alone last (row ∷ rows) up = and_second (is_after last row.id) _ up

pub list_alone : (kind : Kind) (last : Option (List ℕ)) (rows : List Record) → All (λ row. row.kind ≡ kind) rows → ascends last rows ≡ true → IsList kind rows
list_alone kind last rows kinds up = record { kinds = kinds; ascend = alone last rows up }
