-- What an index answers of the rows that it indexes.
use Rattle.std.proofs.Common.{◌≡◌, ℕ, suc, Bool, true, false, ◌&&◌, ◌||◌, cond, List, [], ◌∷◌, Option, None, Some, find}
use Rattle.std.proofs.Common.{length, refl, sym, ap, subst, ◌∙◌, arith}
use Rattle.std.proofs.lemmas.Cmp.{nat_list_cmp_total, tied_itself}
use Rattle.std.proofs.lemmas.Map.Lookups.{exact_bytes}
use Rattle.std.proofs.lemmas.Slice.Eq.{bytes_eq-Decides}
use Rattle.std.specs.Cmp.Lexicographic.{slice_cmp}
use Rattle.std.specs.FinMap.Entries as entries
use Rattle.std.specs.List.{AllWithin, list_any}
use Rattle.std.specs.Ordering.{is_eq, is_gt, is_lt, nat_cmp, ordering_reverse}
use Rattle.std.specs.declared.cmp.Ordering.{Ordering}
use Rattle.std.specs.declared.cmp.Ordering.TheVariants.{Less, Equal, Greater}
use Rattle.std.specs.Option.{option_map_or}
use Rattle.reference_rules.proofs.KeyOrder.{and_first, and_second, key_total, less_from_is_lt, same_kind}
use Rattle.roster_values.proofs.KindLaws.{kind_from_place}
use Rattle.reference_rules.proofs.Rest.{find_passes, look_up-found, place_from_test}
use Rattle.roster_types.specs.Keys.{Ascends, Key, is_after, is_of_kind, key_cmp, keyed, look_up, row_key}
use Rattle.roster_types.specs.Records.{Record, all_values, place_in}
use Rattle.std.specs.Prelude.{option_and_then, slice_index_or}
use Rattle.roster_values.specs.Kinds.{place_of_kind}
use Rattle.roster_values.specs.Table.{table}
use Rattle.roster_values.specs.declared.kind.Kind.{Kind}
use Rattle.version_core.specs.RefIndex.{AllOf, AllUpTo, AreIndexed, FirstOf, IsNotBelow, is_of, passes_at, is_entry_of}
use Rattle.version_core.specs.References.{is_one_of, names, next_referring, refers, refs_in}
use Rattle.version_core.specs.declared.ref_index.RefEntry.{RefEntry}
use Rattle.version_core.proofs.NamingLemmas.{lt_reverse}
use Rattle.version_core.proofs.NamingRows.{named, refers_after}

-- an item that passes has what all have
held : {X : Type 0} (p : X → Bool) (Q : X → Type 0) (G : Type 0) (xs : List X) → list_any p xs ≡ true → AllWithin Q xs 0 (length xs) → ((x : X) → p x ≡ true → Q x → G) → G
held p Q G [] any all found = let impossible : false ≡ true = any in cc
held p Q G (x ∷ xs) any all found =
    elim (p x) as (λ b. p x ≡ b → (b || list_any p xs) ≡ true → G) [
      | true ↦ λ here _. found x here (all 0 x (omega arith) (omega arith))
      | false ↦ λ _ later. held p Q G xs later (λ k d low lt. all (suc k) d (omega arith) (omega arith)) found
    ] refl any

-- a row that stands and passes isn't missed
not_missed : (p : Record → Bool) (k : Key) (rows : List Record) (row : Record) → look_up row_key k rows ≡ Some row → p row ≡ true → find p rows ≡ None → ⊥
not_missed p k [] row at passes none = cc
not_missed p k (x ∷ rows) row at passes none =
    elim (p x) as (λ b. p x ≡ b → cond b (Some x) (find p rows) ≡ None → ⊥) [
      | true ↦ λ _ impossible. cc
      | false ↦ λ fails later. elim (is_eq (key_cmp k (row_key x))) as (λ b. cond b (Some x) (look_up row_key k rows) ≡ Some row → ⊥) [
        | true ↦ λ same. let is : x ≡ row = cc in let e : p row ≡ false = subst (λ r. p r ≡ false) is fails in let impossible : true ≡ false = sym passes ∙ e in cc
        | false ↦ λ there. not_missed p k rows row there passes later
      ] at
    ] refl none

pub above_all : (k l : Key) (rows : List Record) (row : Record) → entries.below_all key_cmp k (keyed row_key rows) ≡ true → look_up row_key l rows ≡ Some row → key_cmp k (row_key row) ≡ Less
above_all k l [] row above at = cc
above_all k l (x ∷ rows) row above at =
    elim (is_eq (key_cmp l (row_key x))) as (λ b. cond b (Some x) (look_up row_key l rows) ≡ Some row → key_cmp k (row_key row) ≡ Less) [
      | true ↦ λ same. let is : x ≡ row = cc in subst (λ r. key_cmp k (row_key r) ≡ Less) is (less_from_is_lt _ (and_first _ _ above))
      | false ↦ λ later. above_all k l rows row (and_second _ _ above) later
    ] at

-- nor is one in front of the first that is found
find_first : (p : Record → Bool) (k : Key) (rows : List Record) (x row : Record) → Ascends row_key rows → find p rows ≡ Some x → look_up row_key k rows ≡ Some row → p row ≡ true → is_lt (key_cmp (row_key row) (row_key x)) ≡ false
find_first p k [] x row up found at passes = cc
find_first p k (y ∷ rows) x row up found at passes =
    elim (p y) as (λ b. p y ≡ b → cond b (Some y) (find p rows) ≡ Some x → is_lt (key_cmp (row_key row) (row_key x)) ≡ false) [
      | true ↦ λ _ same.
          let is : y ≡ x = cc in
          subst (λ r. is_lt (key_cmp (row_key row) (row_key r)) ≡ false) is (elim (is_eq (key_cmp k (row_key y))) as (λ b. cond b (Some y) (look_up row_key k rows) ≡ Some row → is_lt (key_cmp (row_key row) (row_key y)) ≡ false) [
            | true ↦ λ here. let one : y ≡ row = cc in subst (λ r. is_lt (key_cmp (row_key r) (row_key y)) ≡ false) one (ap is_lt (tied_itself key_total (row_key y)))
            | false ↦ λ later. ap is_lt (key_total.antisymm (row_key row) (row_key y) ∙ ap ordering_reverse (above_all (row_key y) k rows row (and_first _ _ up) later))
          ] at)
      | false ↦ λ fails later. elim (is_eq (key_cmp k (row_key y))) as (λ b. cond b (Some y) (look_up row_key k rows) ≡ Some row → is_lt (key_cmp (row_key row) (row_key x)) ≡ false) [
        | true ↦ λ here. let one : y ≡ row = cc in let e : p row ≡ false = subst (λ r. p r ≡ false) one fails in let impossible : true ≡ false = sym passes ∙ e in cc
        | false ↦ λ there. find_first p k rows x row (and_second _ _ up) later there passes
      ] at
    ] refl found

neither : (o : Ordering) → is_lt o ≡ false → is_gt o ≡ false → o ≡ Equal
neither Less l g = cc
neither Equal l g = refl
neither Greater l g = cc

same_id : (a b : List ℕ) → is_lt (slice_cmp nat_cmp a b) ≡ false → is_lt (slice_cmp nat_cmp b a) ≡ false → a ≡ b
same_id a b ab ba = exact_bytes a b (neither (slice_cmp nat_cmp a b) ab (sym (lt_reverse (slice_cmp nat_cmp a b)) ∙ ap is_lt (sym (nat_list_cmp_total.antisymm b a)) ∙ ba))

module _ (kind : Kind) (place : ℕ) (name target : List ℕ) (after : Option (List ℕ)) (rows : List Record) (up : Ascends row_key rows) (runs : List (List RefEntry)) (indexed : AreIndexed runs rows) (field : place_in (table kind) name ≡ Some place) where
  abbrev key : ℕ × ℕ × List ℕ
  key = named kind place name target after rows

  abbrev test : Record → Bool
  test = refers_after kind place name target after rows

  kind_is : (row : Record) → test row ≡ true → place_of_kind row.kind ≡ place_of_kind kind
  kind_is row passes = place_from_test kind row (and_first _ _ (and_first _ _ passes))

  -- a row that refers has its entry
  entry_of : (P : RefEntry → Type 0) (G : Type 0) (row : Record) → look_up row_key (row_key row) rows ≡ Some row → test row ≡ true → AllUpTo runs (length runs) P → ((entry : RefEntry) → is_of key entry ≡ true → entry.id ≡ row.id → P entry → G) → G
  entry_of P G row stands passes all found =
      let same : row.kind ≡ kind = kind_from_place row.kind kind (kind_is row passes) in
      let there = indexed row stands name target place (ap (λ k. place_in (table k) name) same ∙ field) (and_second _ _ (and_first _ _ passes)) in
      let here : list_any (list_any (is_entry_of key row.id)) runs ≡ true = ap (λ n. list_any (list_any (is_entry_of (n, place, target) row.id)) runs) (sym (kind_is row passes)) ∙ there in
      held (list_any (is_entry_of key row.id)) (λ entries. AllOf entries P) G runs here all (λ entries any all_of.
      held (is_entry_of key row.id) P G entries any all_of (λ entry said is. found entry (and_first _ _ said) ((bytes_eq-Decides entry.id row.id).0 (and_second _ _ said)) is))

  passes_there : (row : Record) (id : List ℕ) → id ≡ row.id → look_up row_key (row_key row) rows ≡ Some row → test row ≡ true → passes_at test rows (place_of_kind kind, id) ≡ true
  passes_there row id same stands passes =
      ap (λ o. option_map_or test o false) (ap (λ i. look_up row_key (place_of_kind kind, i) rows) same ∙ ap (λ n. look_up row_key (n, row.id) rows) (sym (kind_is row passes)) ∙ stands) ∙ passes

  -- the first over all runs is the next that refers
  pub answers : (first : Option Record) → FirstOf test rows key (AllUpTo runs (length runs)) first → first ≡ next_referring kind name target after rows
  answers None all =
      elim (find test rows) as (λ o. find test rows ≡ o → None ≡ o) [
        | None ↦ λ _. refl
        | Some x ↦ λ found.
            let stands = look_up-found test rows x up found in
            let passes = find_passes test rows x found in
            absurd (entry_of (λ entry. is_of key entry ≡ true → passes_at test rows (place_of_kind kind, entry.id) ≡ false) ⊥ x stands passes all
            (λ entry of same fails. let impossible : true ≡ false = sym (passes_there x entry.id same stands passes) ∙ fails of in cc))
      ] refl
  answers (Some row) first =
      elim (find test rows) as (λ o. find test rows ≡ o → Some row ≡ o) [
        | None ↦ λ none. absurd (not_missed test (place_of_kind kind, row.id) rows row first.stands first.passes none)
        | Some x ↦ λ found.
            let stands = look_up-found test rows x up found in
            let passes = find_passes test rows x found in
            let high = find_first test (place_of_kind kind, row.id) rows x row up found first.stands first.passes in
            let keys : key_cmp (row_key row) (row_key x) ≡ slice_cmp nat_cmp row.id x.id =
            (λ i. key_cmp (kind_is row first.passes i, row.id) (kind_is x passes i, x.id)) ∙ same_kind (place_of_kind kind) row.id x.id in
            let low : is_lt (slice_cmp nat_cmp x.id row.id) ≡ false =
            entry_of (IsNotBelow test rows key row.id) (is_lt (slice_cmp nat_cmp x.id row.id) ≡ false) x stands passes first.least
            (λ entry of same least. ap (λ i. is_lt (slice_cmp nat_cmp i row.id)) (sym same) ∙ least of (passes_there x entry.id same stands passes)) in
            let id = same_id x.id row.id low (ap is_lt (sym keys) ∙ high) in
            sym first.stands ∙ ap (λ i. look_up row_key (place_of_kind kind, i) rows) (sym id) ∙ ap (λ n. look_up row_key (n, x.id) rows) (sym (kind_is x passes)) ∙ stands
      ] refl

none_found : (p : Record → Bool) (rows : List Record) → ((row : Record) → p row ≡ false) → find p rows ≡ None
none_found p [] fails = refl
none_found p (x ∷ rows) fails = ap (λ b. cond b (Some x) (find p rows)) (fails x) ∙ none_found p rows fails

-- a field that no row of the kind has names nothing
pub no_field : (kind : Kind) (name target : List ℕ) (after : Option (List ℕ)) (rows : List Record) → place_in (table kind) name ≡ None → next_referring kind name target after rows ≡ None
no_field kind name target after rows none = none_found (λ row. refers kind name target row && is_after after row.id) rows (λ row. ap (λ b. b && is_after after row.id) (not_named row))
  where
    not_named : (row : Record) → refers kind name target row ≡ false
    not_named row =
        elim (is_of_kind kind row) as (λ b. is_of_kind kind row ≡ b → (b && names name target row) ≡ false) [
          | true ↦ λ of.
              let same : row.kind ≡ kind = kind_from_place row.kind kind (place_from_test kind row of) in
              ap (λ o. is_one_of (refs_in (option_and_then (λ i. slice_index_or (all_values row) i None) o)) target) (ap (λ k. place_in (table k) name) same ∙ none)
          | false ↦ λ _. refl
        ] refl
