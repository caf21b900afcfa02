-- Entries that rows still name.
use Rattle.std.proofs.Common.{◌≡◌, ℕ, ◌≤◌, Bool, true, false, ◌||◌, cond, is_none, max, List, [], ◌∷◌, Option, None}
use Rattle.std.proofs.Common.{Some, if◌then◌else◌, filter, leb, length, map, option_map, slice_index_or, refl, sym, ap}
use Rattle.std.proofs.Common.{◌∙◌, arith}
use Rattle.std.proofs.lemmas.Bool.{and_from, or_left, or_right}
use Rattle.std.proofs.lemmas.Bool.Decides.{nat_tests}
use Rattle.std.proofs.lemmas.List.{get_or_past}
use Rattle.std.proofs.lemmas.Map.Lookups.{exact_bytes, exact_unsigned}
use Rattle.std.proofs.lemmas.Slice.Eq.{bytes_eq-Decides}
use Rattle.std.specs.Cmp.Lexicographic.{slice_cmp}
use Rattle.std.specs.List.{AllByRecursion, list_any}
use Rattle.std.specs.Option.{option_and_then, option_map_or, option_or}
use Rattle.std.specs.Ordering.{nat_cmp, ordering_then}
use Rattle.reference_rules.proofs.KeyOrder.{and_first, and_second, equal_from_is_eq}
use Rattle.roster_types.specs.Keys.{Key, look_up, row_key}
use Rattle.roster_types.specs.Records.{Record, all_values, place_in}
use Rattle.roster_values.specs.Kinds.{place_of_kind}
use Rattle.roster_values.specs.Table.{table}
use Rattle.version_core.specs.Changes.{rows_of}
use Rattle.version_core.specs.History.{ArePasts, Past, past_key, rows_at}
use Rattle.version_core.specs.RefIndex.{AreKept, IsKept, Named, StayIndexed, is_kept, is_of, is_entry_of}
use Rattle.version_core.specs.References.{is_one_of, names, names_at, refs_in}
use Rattle.version_core.specs.Since.{first_from, some_from, standing}
use Rattle.version_core.specs.declared.ref_index.RefEntry.{RefEntry}
use Rattle.version_core.specs.declared.row_change.RowChange.{RowChange}
use Rattle.version_core.specs.declared.since.Since.{Since}
use Rattle.version_core.proofs.HistoryLemmas.{look_up-rows_at}
use Rattle.version_core.proofs.RowsOf.{look_up-rows_of}
use Rattle.version_core.proofs.SayingLemmas.{first_tied, second_tied}

-- behind the last value nothing is named
pub none_behind : (row : Record) (place : ℕ) (id : List ℕ) → length (all_values row) ≤ place → names_at place id row ≡ false
none_behind row place id le = ap (λ v. is_one_of (refs_in v) id) (get_or_past (all_values row) place None le)

-- one that passes both stays
filter_any : {X : Type 0} (p q : X → Bool) (xs : List X) → ((x : X) → q x ≡ true → p x ≡ true) → list_any q xs ≡ true → list_any q (filter p xs) ≡ true
filter_any p q [] both any = any
filter_any p q (x ∷ xs) both any =
    elim (q x) as (λ b. q x ≡ b → (b || list_any q xs) ≡ true → list_any q (cond (p x) (x ∷ filter p xs) (filter p xs)) ≡ true) [
      | true ↦ λ here _. ap (λ b. list_any q (cond b (x ∷ filter p xs) (filter p xs))) (both x here) ∙ ap (λ b. b || list_any q (filter p xs)) here
      | false ↦ λ _ later.
          let rest = filter_any p q xs both later in
          elim (p x) as (λ b. list_any q (cond b (x ∷ filter p xs) (filter p xs)) ≡ true) [ true ↦ or_right _ _ rest | false ↦ rest ]
    ] refl any

runs_any : {X : Type 0} (p q : X → Bool) (runs : List (List X)) → ((x : X) → q x ≡ true → p x ≡ true) → list_any (list_any q) runs ≡ true → list_any (list_any q) (map (filter p) runs) ≡ true
runs_any p q [] both any = any
runs_any p q (run ∷ runs) both any =
    elim (list_any q run) as (λ b. list_any q run ≡ b → (b || list_any (list_any q) runs) ≡ true → list_any (list_any q) (filter p run ∷ map (filter p) runs) ≡ true) [
      | true ↦ λ here _. or_left _ _ (filter_any p q run both here)
      | false ↦ λ _ later. or_right _ _ (runs_any p q runs both later)
    ] refl any

none_earlier : {A : Type 0} (v w : ℕ) (entries : List (Since A)) → w ≤ v → standing v entries ≡ None → standing w entries ≡ None
none_earlier v w [] le none = refl
none_earlier v w (entry ∷ entries) le none =
    elim (standing v entries) as (λ o. standing v entries ≡ o → option_or o (if leb entry.version v then Some entry.value else None) ≡ None → standing w (entry ∷ entries) ≡ None) [
      | Some x ↦ λ _ impossible. cc
      | None ↦ λ later here. ap (λ o. option_or o (if leb entry.version w then Some entry.value else None)) (none_earlier v w entries le later) ∙ hidden (leb entry.version v) refl here
    ] refl none
  where
    hidden : (b : Bool) → leb entry.version v ≡ b → (if b then Some entry.value else None) ≡ None → (if leb entry.version w then Some entry.value else None) ≡ None
    hidden true is impossible = cc
    hidden false is _ = let early : leb entry.version w ≡ false = grind (arith, nat_tests, le, is) in ap (λ b. if b then Some entry.value else None) early

module _ {A : Type 0} (oldest : ℕ) (p : A → Bool) where
  -- what stands at a version from the oldest on, and passes, is found
  from_standing : (version : ℕ) (entries : List (Since A)) (value : A) → oldest ≤ version → standing version entries ≡ Some value → p value ≡ true → some_from oldest p entries ≡ true
  from_standing version [] value le at passes = cc
  from_standing version (entry ∷ entries) value le at passes =
      elim (standing version entries) as (λ o. standing version entries ≡ o → option_or o (if leb entry.version version then Some entry.value else None) ≡ Some value → some_from oldest p (entry ∷ entries) ≡ true) [
        | None ↦ λ none. here none (leb entry.version version) refl
        | Some x ↦ λ found same. or_right _ _ (from_standing version entries value le (found ∙ same) passes)
      ] refl at
    where
      here : standing version entries ≡ None → (b : Bool) → leb entry.version version ≡ b → (if b then Some entry.value else None) ≡ Some value → some_from oldest p (entry ∷ entries) ≡ true
      here none false is e = cc
      here none true is e =
          let one : entry.value ≡ value = cc in
          let up : entry.version ≤ version = grind (arith, nat_tests, is) in
          or_left _ _ (and_from _ _ (ap p one ∙ passes) (ap is_none (none_earlier version (max entry.version oldest) entries (omega (arith, up, le)) none)))

  -- and nothing else is
  to_standing : (entries : List (Since A)) → some_from oldest p entries ≡ true → (version : ℕ) × (value : A) × (oldest ≤ version) × (standing version entries ≡ Some value) × (p value ≡ true)
  to_standing [] some = let impossible : false ≡ true = some in cc
  to_standing (entry ∷ entries) some =
      elim (first_from oldest p (entry ∷ entries)) as (λ b. first_from oldest p (entry ∷ entries) ≡ b → (b || some_from oldest p entries) ≡ true → (version : ℕ) × (value : A) × (oldest ≤ version) × (standing version (entry ∷ entries) ≡ Some value) × (p value ≡ true)) [
        | true ↦ λ first _.
            let at : ℕ = max entry.version oldest in
            let is : leb entry.version at ≡ true = grind (arith, nat_tests) in (
              at,
              entry.value,
              omega arith,
              (λ i. option_or (none_from (standing at entries) (and_second _ _ first) i) (if is i then Some entry.value else None)),
              and_first _ _ first,
            )
        | false ↦ λ _ later.
            let found = to_standing entries later in
            (found.0, found.1, found.2, ap (λ o. option_or o (if leb entry.version found.0 then Some entry.value else None)) found.3, found.4)
      ] refl some
    where
      none_from : (o : Option A) → is_none o ≡ true → o ≡ None
      none_from None is = refl
      none_from (Some x) is = let impossible : false ≡ true = is in cc

-- an entry that says so has these parts
said_parts : (named : Named) (id : List ℕ) (entry : RefEntry) → is_entry_of named id entry ≡ true → (place_of_kind entry.kind ≡ named.0) × (entry.place ≡ named.1) × (entry.target ≡ named.2) × (entry.id ≡ id)
unfolding is_of
said_parts named id entry said =
    let tied = equal_from_is_eq _ (and_first _ _ said) in
    let fields = first_tied (ordering_then (nat_cmp (place_of_kind entry.kind) named.0) (nat_cmp entry.place named.1)) (slice_cmp nat_cmp entry.target named.2) tied in (
      exact_unsigned _ _ (first_tied (nat_cmp (place_of_kind entry.kind) named.0) (nat_cmp entry.place named.1) fields),
      exact_unsigned _ _ (second_tied (nat_cmp (place_of_kind entry.kind) named.0) (nat_cmp entry.place named.1) fields),
      exact_bytes _ _ (second_tied (ordering_then (nat_cmp (place_of_kind entry.kind) named.0) (nat_cmp entry.place named.1)) (slice_cmp nat_cmp entry.target named.2) tied),
      (bytes_eq-Decides entry.id id).0 (and_second _ _ said),
    )

module _ (oldest : ℕ) (pasts : List Past) (are : ArePasts pasts) where
  row_at : (version : ℕ) (k : Key) → look_up row_key k (rows_of (rows_at version pasts)) ≡ option_map (λ (c : RowChange). c.row) (option_and_then (standing version) (look_up past_key k pasts))
  row_at version k = look_up-rows_of k (rows_at version pasts) ∙ ap (option_map (λ (c : RowChange). c.row)) (look_up-rows_at version k pasts are)

  -- what a row names that stands at a version is kept
  row_kept : (version : ℕ) → oldest ≤ version → (row : Record) (place : ℕ) (target : List ℕ) → look_up row_key (row_key row) (rows_of (rows_at version pasts)) ≡ Some row → names_at place target row ≡ true
      → option_map_or (some_from oldest (λ change. names_at place target change.row)) (look_up past_key (row_key row) pasts) false ≡ true
  row_kept version le row place target stands named =
      elim (look_up past_key (row_key row) pasts) as (λ o. option_map (λ (c : RowChange). c.row) (option_and_then (standing version) o) ≡ Some row → option_map_or (some_from oldest (λ change. names_at place target change.row)) o false ≡ true) [
        | None ↦ λ impossible. cc
        | Some past ↦ there past
      ] (sym (row_at version (row_key row)) ∙ stands)
    where
      there : (past : Past) → option_map (λ (c : RowChange). c.row) (standing version past) ≡ Some row → some_from oldest (λ change. names_at place target change.row) past ≡ true
      there past =
          elim (standing version past) as (λ o. standing version past ≡ o → option_map (λ (c : RowChange). c.row) o ≡ Some row → some_from oldest (λ change. names_at place target change.row) past ≡ true) [
            | None ↦ λ _ impossible. cc
            | Some change ↦ λ at same.
                let one : change.row ≡ row = cc in
                from_standing oldest (λ change. names_at place target change.row) version past change le at (ap (names_at place target) one ∙ named)
          ] refl

  entry_kept : (version : ℕ) → oldest ≤ version → (row : Record) (name target : List ℕ) (place : ℕ) → look_up row_key (row_key row) (rows_of (rows_at version pasts)) ≡ Some row → place_in (table row.kind) name ≡ Some place → names name target row ≡ true → (entry : RefEntry) → is_entry_of (place_of_kind row.kind, place, target) row.id entry ≡ true → is_kept oldest pasts entry ≡ true
  entry_kept version le row name target place stands at named entry said =
      let parts = said_parts (place_of_kind row.kind, place, target) row.id entry said in
      let here : names_at place target row ≡ true = ap (λ o. is_one_of (refs_in (option_and_then (λ i. slice_index_or (all_values row) i None) o)) target) (sym at) ∙ named in
      (λ i. option_map_or (some_from oldest (λ change. names_at (parts.1 i) (parts.2 i) change.row)) (look_up past_key (parts.0 i, parts.3 i) pasts) false) ∙ row_kept version le row place target stands here

  -- what rows name stays indexed
  pub kept_stay : (runs : List (List RefEntry)) → StayIndexed oldest pasts runs (map (filter (is_kept oldest pasts)) runs)
  kept_stay runs = λ version le indexed row stands name target place at named.
      runs_any (is_kept oldest pasts) (is_entry_of (place_of_kind row.kind, place, target) row.id) runs (entry_kept version le row name target place stands at named) (indexed row stands name target place at named)

  named_by_row : (entry : RefEntry) → is_kept oldest pasts entry ≡ true → IsKept oldest pasts entry
  named_by_row entry kept =
      elim (look_up past_key k pasts) as (λ o. look_up past_key k pasts ≡ o → option_map_or (some_from oldest test) o false ≡ true → IsKept oldest pasts entry) [
        | None ↦ λ _ impossible. cc
        | Some past ↦ λ here some.
            let found = to_standing oldest test past some in
            (found.0, found.1.row, found.2, row_at found.0 k ∙ ap (λ o. option_map (λ (c : RowChange). c.row) (option_and_then (standing found.0) o)) here ∙ ap (option_map (λ (c : RowChange). c.row)) found.3, found.4)
      ] refl kept
    where
      k : Key
      k = (place_of_kind entry.kind, entry.id)

      test : RowChange → Bool
      test change = names_at entry.place entry.target change.row

  run_kept : (run : List RefEntry) → AllByRecursion (IsKept oldest pasts) (filter (is_kept oldest pasts) run)
  run_kept [] = tt
  run_kept (entry ∷ run) =
      elim (is_kept oldest pasts entry) as (λ b. is_kept oldest pasts entry ≡ b → AllByRecursion (IsKept oldest pasts) (cond b (entry ∷ filter (is_kept oldest pasts) run) (filter (is_kept oldest pasts) run))) [
        | true ↦ λ passes. (named_by_row entry passes, run_kept run)
        | false ↦ λ _. run_kept run
      ] refl

  -- and nothing else
  pub all_kept : (runs : List (List RefEntry)) → AreKept oldest pasts (map (filter (is_kept oldest pasts)) runs)
  all_kept [] = tt
  all_kept (run ∷ runs) = (run_kept run, all_kept runs)
