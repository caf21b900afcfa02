-- Lists of rows, kind by kind.
use Rattle.std.proofs.Common.{◌≡◌, ℕ, List, [], ◌∷◌, ◌++◌, true, None, Option, Some, refl, sym, ap, subst, ◌∙◌}
use Rattle.std.proofs.lemmas.Bool.{and_from}
use Rattle.std.proofs.lemmas.List.Elements.{All-head, All-tail}
use Rattle.std.specs.Cmp.Lexicographic.{slice_cmp}
use Rattle.std.specs.FinMap.Entries as entries
use Rattle.std.specs.List.{All, AllByRecursion}
use Rattle.std.specs.Ordering.{is_lt, nat_cmp, ordering_then}
use Rattle.std.specs.declared.cmp.Ordering.TheVariants.{Less}
use Rattle.keeper_memory.specs.copy.Lists.{IsList, ascends}
use Rattle.reference_rules.proofs.KeyOrder.{and_first, and_second, less_from_is_lt, same_kind}
use Rattle.roster_types.specs.Keys.{Ascends, Key, is_after, key_cmp, keyed, row_key}
use Rattle.roster_types.specs.Records.{Record}
use Rattle.roster_values.specs.Kinds.{place_of_kind}
use Rattle.roster_values.specs.declared.kind.Kind.{Kind}
use Rattle.version_core.proofs.LookUps.{below_trans}

abbrev OfPlace : ℕ → Record → Type 0
OfPlace n row = place_of_kind row.kind ≡ n

abbrev pub IsAbove : ℕ → Record → Type 0
IsAbove n row = nat_cmp n (place_of_kind row.kind) ≡ Less

abbrev IsBelowAll : Key → List Record → Type 0
IsBelowAll k rows = entries.below_all key_cmp k (keyed row_key rows) ≡ true

-- ---- ids that ascend are keys that do

of_place : (kind : Kind) (rows : List Record) → All (λ row. row.kind ≡ kind) rows → AllByRecursion (OfPlace (place_of_kind kind)) rows
of_place kind [] all = tt
of_place kind (row ∷ rows) all =
    (ap place_of_kind (All-head (λ (r : Record). r.kind ≡ kind) row rows all), of_place kind rows (All-tail (λ (r : Record). r.kind ≡ kind) row rows all))

module _ (n : ℕ) where
  less_key : (a : List ℕ) (row : Record) → OfPlace n row → is_after (Some a) row.id ≡ true → key_cmp (n, a) (row_key row) ≡ Less
  less_key a row of above = (λ i. key_cmp (n, a) (of i, row.id)) ∙ same_kind n a row.id ∙ less_from_is_lt _ above

  below_ids : (a : List ℕ) (rows : List Record) → AllByRecursion (OfPlace n) rows → ascends (Some a) rows ≡ true → IsBelowAll (n, a) rows
  below_ids a [] of up = refl
  below_ids a (row ∷ rows) of up =
      let less = less_key a row of.0 (and_first _ _ up) in
      let rest = subst (λ m. IsBelowAll (m, row.id) rows) (sym of.0) (below_ids row.id rows of.1 (and_second _ _ up)) in
      and_from _ _ (ap is_lt less) (below_trans row_key (n, a) (row_key row) rows less rest)

  -- ---- and rows of later kinds stand behind them

  less_kind : (a b : Key) → nat_cmp a.0 b.0 ≡ Less → key_cmp a b ≡ Less
  unfolding key_cmp
  less_kind a b less = ap (λ o. ordering_then o (slice_cmp nat_cmp a.1 b.1)) less

  below_above : (row : Record) (later : List Record) → OfPlace n row → AllByRecursion (IsAbove n) later → IsBelowAll (row_key row) later
  below_above row [] of above = refl
  below_above row (next ∷ later) of above =
      and_from _ _ (ap is_lt (less_kind (row_key row) (row_key next) (ap (λ m. nat_cmp m (place_of_kind next.kind)) of ∙ above.0))) (below_above row later of above.1)

  below-append : (k : Key) (rows later : List Record) → IsBelowAll k rows → IsBelowAll k later → IsBelowAll k (rows ++ later)
  below-append k [] later below below' = below'
  below-append k (row ∷ rows) later below below' = and_from _ _ (and_first _ _ below) (below-append k rows later (and_second _ _ below) below')

  first : (last : Option (List ℕ)) (rows later : List Record) → AllByRecursion (OfPlace n) rows → ascends last rows ≡ true → AllByRecursion (IsAbove n) later → Ascends row_key later → Ascends row_key (rows ++ later)
  first last [] later of up above up' = up'
  first last (row ∷ rows) later of up above up' =
      let ids = and_second _ _ up in
      let here = subst (λ m. IsBelowAll (m, row.id) rows) (sym of.0) (below_ids row.id rows of.1 ids) in
      and_from _ _ (below-append (row_key row) rows later here (below_above row later of.0 above)) (first (Some row.id) rows later of.1 ids above up')

-- a list goes before rows of later kinds
pub list_first : (kind : Kind) (rows later : List Record) → IsList kind rows → AllByRecursion (IsAbove (place_of_kind kind)) later → Ascends row_key later → Ascends row_key (rows ++ later)
list_first kind rows later is above up = first (place_of_kind kind) None rows later (of_place kind rows is.kinds) is.ascend above up

-- and it stands behind those of earlier ones
pub list_above : (n : ℕ) (kind : Kind) (rows : List Record) → nat_cmp n (place_of_kind kind) ≡ Less → IsList kind rows → AllByRecursion (IsAbove n) rows
list_above n kind rows less is = by rows (of_place kind rows is.kinds)
  where
    by : (rs : List Record) → AllByRecursion (OfPlace (place_of_kind kind)) rs → AllByRecursion (IsAbove n) rs
    by [] of = tt
    by (r ∷ rs) of = (ap (nat_cmp n) of.0 ∙ less, by rs of.1)
