-- What a change leaves of the broken references: where the rows that stood have none, those that change keep their
-- types and are in no cycle, all that is broken anew is of them.
use Rattle.std.proofs.Common.{◌≡◌, ℕ, zero, suc, ◌<◌, Bool, true, false, ◌&&◌, ◌||◌, not, cond, List, [], ◌∷◌, ◌++◌}
use Rattle.std.proofs.Common.{length, get_or, codes, bytes_eq, Option, Some, None, option_and_then, refl, sym, ap}
use Rattle.std.proofs.Common.{subst, ◌∙◌, arith}
use Rattle.std.specs.FinMap.Entries as entries
use Rattle.std.specs.List.{flat_map, list_any}
use Rattle.std.specs.Option.{option_map_or, option_or}
use Rattle.std.specs.Ordering.{is_eq, ordering_reverse}
use Rattle.std.specs.declared.cmp.Ordering.TheVariants.{Less, Greater}
use Rattle.std.proofs.lemmas.Bool.{false_from_ne_true, or_parts}
use Rattle.std.proofs.lemmas.Cmp.{tied_itself}
use Rattle.std.proofs.lemmas.Slice.Eq.{bytes_eq-Decides}
use Rattle.roster_types.specs.Keys.{Ascends, Key, count_of, key_cmp, keyed, look_up, row_key}
use Rattle.roster_types.specs.Records.{Record, all_values, field_of, place_in}
use Rattle.roster_values.specs.Kinds.{place_of_kind}
use Rattle.roster_values.specs.Table.{IdForm, Info, table}
use Rattle.roster_values.specs.declared.kind.Kind.{Kind}
use Rattle.roster_values.specs.declared.kind.Kind.TheVariants.{Orgs, AcademicSessions}
use Rattle.roster_values.specs.declared.value.Value.{Value}
use Rattle.roster_values.specs.declared.value.Value.TheVariants.{Text, Id, Day, Moment, Number, Year, Flag, Word, Texts}
use Rattle.roster_values.specs.declared.value.Value.TheVariants.{UserIds, Ref, Refs}
use Rattle.reference_rules.specs.declared.ref_fault.Fault.{Fault}
use Rattle.reference_rules.specs.declared.ref_fault.Fault.TheVariants.{Cycle, WrongType}
use Rattle.reference_rules.proofs.CycleLemmas.{in_cycle_on, not_without_parent}
use Rattle.reference_rules.proofs.KeyOrder.{and_first, and_second, equal_from_is_eq, found_key, key_exact, key_total}
use Rattle.reference_rules.proofs.KeyOrder.{less_from_is_lt}
use Rattle.reference_rules.proofs.ParentChains.{in_cycle_from_test}
use Rattle.reference_rules.proofs.Pigeonhole.{in_cycle_from_turns}
use Rattle.roster_values.proofs.KindLaws.{kind_from_place}
use Rattle.reference_rules.specs.Faults.{fault_at, faults_in, faults_of, field_faults, has_type, has_wrong_type}
use Rattle.reference_rules.specs.Faults.{is_cycle, is_cyclic, is_word, listed, row_faults, target_faults, target_kind}
use Rattle.reference_rules.specs.Faults.{type_asked, type_in, value_faults, word_in}
use Rattle.reference_rules.specs.Parents.{is_in_cycle, nth_parent, parent_in, parent_of, ref_in}

append_left : {A : Type 0} (xs ys : List A) → xs ++ ys ≡ [] → xs ≡ []
append_left [] ys e = refl
append_left (x ∷ xs) ys e = cc

append_right : {A : Type 0} (xs ys : List A) → xs ++ ys ≡ [] → ys ≡ []
append_right [] ys e = e
append_right (x ∷ xs) ys e = cc

append_none : {A : Type 0} (xs ys : List A) → xs ≡ [] → ys ≡ [] → xs ++ ys ≡ []
append_none xs ys e e' = ap (λ zs. zs ++ ys) e ∙ e'

module _ {A : Type 0} (p : A → Bool) where
  -- where none of two lists passes, none of each does
  none_pass : (xs ys : List A) → list_any p (xs ++ ys) ≡ false → (list_any p xs ≡ false) × (list_any p ys ≡ false)
  none_pass [] ys e = (refl, e)
  none_pass (x ∷ xs) ys e =
      let both = or_parts (p x) (list_any p (xs ++ ys)) e in
      let rest = none_pass xs ys both.1 in
      (ap (λ b. b || list_any p xs) both.0 ∙ rest.0, rest.1)

module _ {A : Type 0} (f : Record → List A) where
  -- where nothing is collected, nothing is collected from a row that is found
  none_from : (rows : List Record) (k : Key) (row : Record) → flat_map f rows ≡ [] → look_up row_key k rows ≡ Some row → f row ≡ []
  none_from [] k row none e = cc
  none_from (x ∷ rows) k row none e =
      elim (is_eq (key_cmp k (row_key x))) as (λ b. cond b (Some x) (look_up row_key k rows) ≡ Some row → f row ≡ []) [
        | true ↦ λ same. let is : x ≡ row = cc in subst (λ r. f r ≡ []) is (append_left (f x) (flat_map f rows) none)
        | false ↦ λ later. none_from rows k row (append_right (f x) (flat_map f rows) none) later
      ] e

  -- and where nothing that is collected passes, nothing from a row that is found does
  pub none_passes_from : (p : A → Bool) (rows : List Record) (k : Key) (row : Record) → list_any p (flat_map f rows) ≡ false → look_up row_key k rows ≡ Some row → list_any p (f row) ≡ false
  none_passes_from p [] k row none e = cc
  none_passes_from p (x ∷ rows) k row none e =
      let parts = none_pass p (f x) (flat_map f rows) none in
      elim (is_eq (key_cmp k (row_key x))) as (λ b. cond b (Some x) (look_up row_key k rows) ≡ Some row → list_any p (f row) ≡ false) [
        | true ↦ λ same. let is : x ≡ row = cc in subst (λ r. list_any p (f r) ≡ false) is parts.0
        | false ↦ λ later. none_passes_from p rows k row parts.1 later
      ] e

above : (k l : Key) (rows : List Record) (row : Record) → entries.below_all key_cmp k (keyed row_key rows) ≡ true → look_up row_key l rows ≡ Some row → key_cmp k l ≡ Less
above k l [] row below e = cc
above k l (x ∷ rows) row below e =
    elim (is_eq (key_cmp l (row_key x))) as (λ b. is_eq (key_cmp l (row_key x)) ≡ b → cond b (Some x) (look_up row_key l rows) ≡ Some row → key_cmp k l ≡ Less) [
      | true ↦ λ t _. subst (λ m. key_cmp k m ≡ Less) (sym (key_exact l (row_key x) (equal_from_is_eq _ t))) (less_from_is_lt _ (and_first _ _ below))
      | false ↦ λ _ later. above k l rows row (and_second _ _ below) later
    ] refl e

-- a row has its own key, and those behind it have others
first_found : (x : Record) (rows : List Record) → look_up row_key (row_key x) (x ∷ rows) ≡ Some x
first_found x rows = ap (λ o. cond (is_eq o) (Some x) (look_up row_key (row_key x) rows)) (tied_itself key_total (row_key x))

passed : (k : Key) (x : Record) (rows : List Record) → is_eq (key_cmp k (row_key x)) ≡ false → look_up row_key k (x ∷ rows) ≡ look_up row_key k rows
passed k x rows e = ap (λ b. cond b (Some x) (look_up row_key k rows)) e

later_differs : (k : Key) (x : Record) (rows : List Record) (row : Record) → Ascends row_key (x ∷ rows) → look_up row_key k rows ≡ Some row → is_eq (key_cmp k (row_key x)) ≡ false
later_differs k x rows row up e = ap is_eq (key_total.antisymm k (row_key x) ∙ ap ordering_reverse (above (row_key x) k rows row (and_first _ _ up) e))

later_found : (k : Key) (x : Record) (rows : List Record) (row : Record) → Ascends row_key (x ∷ rows) → look_up row_key k rows ≡ Some row → look_up row_key k (x ∷ rows) ≡ Some row
later_found k x rows row up e = passed k x rows (later_differs k x rows row up e) ∙ e

-- some rows stand among all
abbrev Stand : List Record → List Record → Type 0
Stand all some = (k : Key) (row : Record) → look_up row_key k some ≡ Some row → look_up row_key k all ≡ Some row

module _ {A : Type 0} (f : Record → List A) where
  -- from the others nothing is collected
  abbrev NoneElse : List Record → List Record → Type 0
  NoneElse all some = (k : Key) (row : Record) → look_up row_key k all ≡ Some row → look_up row_key k some ≡ None → f row ≡ []

  module _ (x y : Record) (xs ys : List Record) (up : Ascends row_key (x ∷ xs)) (rise : Ascends row_key (y ∷ ys)) (stand : Stand (x ∷ xs) (y ∷ ys)) (none : NoneElse (x ∷ xs) (y ∷ ys)) where
    y_found : look_up row_key (row_key y) (x ∷ xs) ≡ Some y
    y_found = stand (row_key y) y (first_found y ys)

    one_row : is_eq (key_cmp (row_key y) (row_key x)) ≡ true → x ≡ y
    one_row t = let found : Some x ≡ Some y = sym (ap (λ b. cond b (Some x) (look_up row_key (row_key y) xs)) t) ∙ y_found in cc

    both_stand : x ≡ y → Stand xs ys
    both_stand same k row at =
        sym (passed k x xs (ap (λ r. is_eq (key_cmp k (row_key r))) same ∙ later_differs k y ys row rise at)) ∙ stand k row (later_found k y ys row rise at)

    both_none : x ≡ y → NoneElse xs ys
    both_none same k row at absent =
        none k row (later_found k x xs row up at) (passed k y ys (sym (ap (λ r. is_eq (key_cmp k (row_key r))) same) ∙ later_differs k x xs row up at) ∙ absent)

    x_missing : is_eq (key_cmp (row_key y) (row_key x)) ≡ false → look_up row_key (row_key x) (y ∷ ys) ≡ None
    x_missing e =
        let less = above (row_key x) (row_key y) xs y (and_first _ _ up) (sym (passed (row_key y) x xs e) ∙ y_found) in
        let back : key_cmp (row_key y) (row_key x) ≡ Greater = key_total.antisymm (row_key y) (row_key x) ∙ ap ordering_reverse less in
        passed (row_key x) y ys (ap is_eq less) ∙ elim (look_up row_key (row_key x) ys) as (λ o. look_up row_key (row_key x) ys ≡ o → o ≡ None) [
          | None ↦ λ _. refl
          | Some row ↦ λ at. let no = above (row_key y) (row_key x) ys row (and_first _ _ rise) at in cc
        ] refl

    one_stand : look_up row_key (row_key x) (y ∷ ys) ≡ None → Stand xs (y ∷ ys)
    one_stand missing k row at =
        elim (is_eq (key_cmp k (row_key x))) as (λ b. is_eq (key_cmp k (row_key x)) ≡ b → look_up row_key k xs ≡ Some row) [
          | true ↦ λ t. let no = ap (λ l. look_up row_key l (y ∷ ys)) (key_exact k (row_key x) (equal_from_is_eq _ t)) in cc
          | false ↦ λ differs. sym (passed k x xs differs) ∙ stand k row at
        ] refl

    one_none : NoneElse xs (y ∷ ys)
    one_none k row at absent = none k row (later_found k x xs row up at) absent

  -- then as much is collected from some as from all
  collected : (all some : List Record) → Ascends row_key all → Ascends row_key some → Stand all some → NoneElse all some → flat_map f all ≡ flat_map f some
  collected [] [] up rise stand none = refl
  collected [] (y ∷ ys) up rise stand none = let no = stand (row_key y) y (first_found y ys) in cc
  collected (x ∷ xs) [] up rise stand none =
      append_none (f x) (flat_map f xs) (none (row_key x) x (first_found x xs) refl) (
      collected xs [] (and_second _ _ up) rise (λ k row no. cc) (λ k row at _. none k row (later_found k x xs row up at) refl))
  collected (x ∷ xs) (y ∷ ys) up rise stand none =
      elim (is_eq (key_cmp (row_key y) (row_key x))) as (λ b. is_eq (key_cmp (row_key y) (row_key x)) ≡ b → flat_map f (x ∷ xs) ≡ flat_map f (y ∷ ys)) [
        | true ↦ λ t.
            let same = one_row x y xs ys up rise stand none t in
            let rest = collected xs ys (and_second _ _ up) (and_second _ _ rise) (both_stand x y xs ys up rise stand none same) (both_none x y xs ys up rise stand none same) in
            (λ i. f (same i) ++ rest i)
        | false ↦ λ e.
            let missing = x_missing x y xs ys up rise stand none e in
            ap (λ zs. zs ++ flat_map f xs) (none (row_key x) x (first_found x xs) missing) ∙ collected xs (y ∷ ys) (and_second _ _ up) rise (one_stand x y xs ys up rise stand none missing) (one_none x y xs ys up rise stand none)
      ] refl

listed_none : (row : Record) (field : List ℕ) (target : Option (List ℕ)) (o : Option Fault) → listed row field target o ≡ [] → o ≡ None
listed_none row field target None e = refl
listed_none row field target (Some fault) e = cc

both_false : (wrong cyclic : Bool) → cond wrong (Some WrongType) (cond cyclic (Some Cycle) None) ≡ None → (wrong ≡ false) × (cyclic ≡ false)
both_false true cyclic e = cc
both_false false true e = cc
both_false false false e = (refl, refl)

neither : (wrong cyclic : Bool) → wrong ≡ false → cyclic ≡ false → cond wrong (Some WrongType) (cond cyclic (Some Cycle) None) ≡ None
neither wrong cyclic e e' = ap (λ b. cond b (Some WrongType) (cond cyclic (Some Cycle) None)) e ∙ ap (λ b. cond b (Some Cycle) None) e'

fault_none : (rows : List Record) (row : Record) (field : List ℕ) (o : Option Record) → fault_at rows row field o ≡ None → (target : Record) × (o ≡ Some target) × (has_wrong_type row.kind field target ≡ false) × (is_cyclic rows row field ≡ false)
fault_none rows row field None e = cc
fault_none rows row field (Some target) e =
    let both = both_false (has_wrong_type row.kind field target) (is_cyclic rows row field) e in
    (target, refl, both.0, both.1)

wrong_never : (kind : Kind) (target : Record) → has_wrong_type kind (codes "parent") target ≡ false
wrong_never Orgs target = refl
wrong_never _ target = refl

ref_from : (o : Option Value) (p : List ℕ) → ref_in o ≡ Some p → o ≡ Some (Ref p)
ref_from None p e = cc
ref_from (Some (Text x)) p e = cc
ref_from (Some (Id x)) p e = cc
ref_from (Some (Day x)) p e = cc
ref_from (Some (Moment x)) p e = cc
ref_from (Some (Number x)) p e = cc
ref_from (Some (Year x)) p e = cc
ref_from (Some (Flag x)) p e = cc
ref_from (Some (Word x)) p e = cc
ref_from (Some (Texts x)) p e = cc
ref_from (Some (UserIds x)) p e = cc
ref_from (Some (Ref x)) p e = (let same : x ≡ p = cc in ap (λ y. Some (Ref y)) same)
ref_from (Some (Refs x)) p e = cc

-- a row that stands is in no cycle where none of its faults tells of one
module _ (rows : List Record) (row : Record) (stands : look_up row_key (row_key row) rows ≡ Some row) where
  at_place : (n : ℕ) (is : List Info) (vs : List (Option Value)) (d : Info) (v : Value) → n < length is → get_or vs n None ≡ Some v → list_any is_cycle (faults_in rows row is vs) ≡ false
      → list_any is_cycle (field_faults rows row (get_or is n d) (Some v)) ≡ false
  at_place n [] vs d v lt here none = absurd (omega (arith, lt))
  at_place n (i ∷ is) [] d v lt here none = cc
  at_place zero (i ∷ is) (w ∷ vs) d v lt here none =
      subst (λ o. list_any is_cycle (field_faults rows row i o) ≡ false) here (none_pass is_cycle (field_faults rows row i w) (faults_in rows row is vs) none).0
  at_place (suc n) (i ∷ is) (w ∷ vs) d v lt here none = at_place n is vs d v (omega (arith, lt)) here (none_pass is_cycle (field_faults rows row i w) (faults_in rows row is vs) none).1

  not_cyclic : (b c : Bool) → (b && c) ≡ false → b ≡ true → c ≡ false
  not_cyclic true c e t = e
  not_cyclic false c e t = cc

  not_told : (field : List ℕ) (target : Option (List ℕ)) (cyclic : Bool) → list_any is_cycle (listed row field target (cond cyclic (Some Cycle) None)) ≡ false → cyclic ≡ false
  not_told field target true e = e
  not_told field target false e = refl

  module _ (kind : Kind) (same : row.kind ≡ kind) (p : List ℕ) (goes : parent_in row ≡ Some p) where
    -- a parent that is missing has no parent
    without_row : look_up row_key (place_of_kind kind, p) rows ≡ None → is_in_cycle rows row.kind row.id ≡ false
    without_row missing = false_from_ne_true _ (λ is.
        let cyclic = in_cycle_on rows row.kind row.id p 1 (ap (option_and_then parent_in) stands ∙ goes) is in
        let no = not_without_parent rows row.kind p ((λ i. parent_of rows (same i) p) ∙ ap (option_and_then parent_in) missing) in
        cc)

    with_row : (target : Record) → list_any is_cycle (listed row (codes "parent") (Some p) (fault_at rows row (codes "parent") (Some target))) ≡ false → is_in_cycle rows row.kind row.id ≡ false
    with_row target none =
        let right = ap (λ b. listed row (codes "parent") (Some p) (cond b (Some WrongType) (cond (is_cyclic rows row (codes "parent")) (Some Cycle) None))) (wrong_never row.kind target) in
        let acyclic = not_told (codes "parent") (Some p) (is_cyclic rows row (codes "parent")) (sym (ap (list_any is_cycle) right) ∙ none) in
        not_cyclic (bytes_eq (codes "parent") (codes "parent")) (is_in_cycle rows row.kind row.id) acyclic ((bytes_eq-Decides (codes "parent") (codes "parent")).1 refl)

    of_parent : list_any is_cycle (listed row (codes "parent") (Some p) (fault_at rows row (codes "parent") (look_up row_key (place_of_kind kind, p) rows))) ≡ false → is_in_cycle rows row.kind row.id ≡ false
    of_parent =
        elim (look_up row_key (place_of_kind kind, p) rows) as (λ o. look_up row_key (place_of_kind kind, p) rows ≡ o → list_any is_cycle (listed row (codes "parent") (Some p) (fault_at rows row (codes "parent") o)) ≡ false → is_in_cycle rows row.kind row.id ≡ false) [
          | None ↦ λ missing _. without_row missing
          | Some target ↦ λ _ none. with_row target none
        ] refl

  none_such : Info
  none_such = record { name = []; column = []; form = IdForm; required = false }

  by_kind : (kind : Kind) (vs : List (Option Value)) (p : List ℕ) → row.kind ≡ kind → parent_in row ≡ Some p → list_any is_cycle (faults_in rows row (table kind) vs) ≡ false
      → option_and_then (λ i. get_or vs i None) (place_in (table kind) (codes "parent")) ≡ Some (Ref p) → is_in_cycle rows row.kind row.id ≡ false
  by_kind Orgs vs p same goes none here = of_parent Orgs same p goes (at_place 6 (table Orgs) vs none_such (Ref p) (omega arith) here none)
  by_kind AcademicSessions vs p same goes none here = of_parent AcademicSessions same p goes (at_place 7 (table AcademicSessions) vs none_such (Ref p) (omega arith) here none)
  by_kind _ vs p same goes none here = let never : None ≡ Some (Ref p) = here in cc

  pub in_no_cycle : list_any is_cycle (row_faults rows row) ≡ false → is_in_cycle rows row.kind row.id ≡ false
  in_no_cycle none =
      elim (parent_in row) as (λ o. parent_in row ≡ o → is_in_cycle rows row.kind row.id ≡ false) [
        | None ↦ λ no. not_without_parent rows row.kind row.id (ap (option_and_then parent_in) stands ∙ no)
        | Some p ↦ λ goes. by_kind row.kind (all_values row) p refl goes none (ref_from (field_of row (codes "parent")) p goes)
      ] refl

word_test : (o : Option Value) (word : List ℕ) → is_word o word ≡ option_map_or (λ w. bytes_eq w word) (word_in o) false
word_test None word = refl
word_test (Some (Text x)) word = refl
word_test (Some (Id x)) word = refl
word_test (Some (Day x)) word = refl
word_test (Some (Moment x)) word = refl
word_test (Some (Number x)) word = refl
word_test (Some (Year x)) word = refl
word_test (Some (Flag x)) word = refl
word_test (Some (Word x)) word = refl
word_test (Some (Texts x)) word = refl
word_test (Some (UserIds x)) word = refl
word_test (Some (Ref x)) word = refl
word_test (Some (Refs x)) word = refl

same_type : (row other : Record) → type_in row ≡ type_in other → (kind : Kind) (field : List ℕ) → has_wrong_type kind field row ≡ has_wrong_type kind field other
same_type row other same kind field = λ i. option_map_or (λ word. not (has word i)) (type_asked kind field) false
  where
    has : (word : List ℕ) → has_type row word ≡ has_type other word
    has word = word_test (field_of row (codes "type")) word ∙ ap (λ o. option_map_or (λ w. bytes_eq w word) o false) same ∙ sym (word_test (field_of other (codes "type")) word)

-- rows that stood without broken references, and those that are there anew: some stand in the place of what stood, with
-- its type and in no cycle
module _ (old new changed : List Record) (sound : faults_of old ≡ []) (up : Ascends row_key new) (rise : Ascends row_key changed)
    (over : (k : Key) → look_up row_key k new ≡ option_or (look_up row_key k changed) (look_up row_key k old))
    (types : (k : Key) (row stored : Record) → look_up row_key k changed ≡ Some row → look_up row_key k old ≡ Some stored → type_in row ≡ type_in stored)
    (acyclic : (k : Key) (row : Record) → look_up row_key k changed ≡ Some row → is_in_cycle new row.kind row.id ≡ false) where
  changed_stands : (k : Key) (row : Record) → look_up row_key k changed ≡ Some row → look_up row_key k new ≡ Some row
  changed_stands k row here = over k ∙ ap (λ o. option_or o (look_up row_key k old)) here

  unchanged : (k : Key) → look_up row_key k changed ≡ None → look_up row_key k new ≡ look_up row_key k old
  unchanged k none = over k ∙ ap (λ o. option_or o (look_up row_key k old)) none

  -- what stood stands, with its type
  stands : (k : Key) (stored : Record) → look_up row_key k old ≡ Some stored → (row : Record) × (look_up row_key k new ≡ Some row) × (type_in row ≡ type_in stored)
  stands k stored e = elim (look_up row_key k changed) as (λ o. look_up row_key k changed ≡ o → (row : Record) × (look_up row_key k new ≡ Some row) × (type_in row ≡ type_in stored)) [
    | None ↦ λ none. (stored, unchanged k none ∙ e, refl)
    | Some row ↦ λ here. (row, changed_stands k row here, types k row stored here e)
  ] refl

  module _ (kind : Kind) (id : List ℕ) (is : is_in_cycle new kind id ≡ true) where
    -- a changed row is in no cycle, so that those of a cycle have the parents that they had
    parent_stays : (m : ℕ) (y : List ℕ) → nth_parent new kind id m ≡ Some y → parent_of old kind y ≡ parent_of new kind y
    parent_stays m y at = elim (look_up row_key (place_of_kind kind, y) changed) as (λ o. look_up row_key (place_of_kind kind, y) changed ≡ o → parent_of old kind y ≡ parent_of new kind y) [
      | None ↦ λ none. sym (ap (option_and_then parent_in) (unchanged (place_of_kind kind, y) none))
      | Some row ↦ λ here.
          let key = found_key row_key (place_of_kind kind, y) changed row here in
          let of : row.kind ≡ kind = kind_from_place row.kind kind (ap (λ (k : Key). k.0) key) in
          let cyclic : is_in_cycle new row.kind row.id ≡ true = (λ i. is_in_cycle new (of i) (key i).1) ∙ in_cycle_on new kind id y m at is in
          let no = acyclic (place_of_kind kind, y) row here in
          cc
    ] refl

    chain_stays : (m : ℕ) (y : List ℕ) → nth_parent new kind id m ≡ Some y → nth_parent old kind id m ≡ Some y
    chain_stays zero y at = at
    chain_stays (suc m) y at =
        elim (nth_parent new kind id m) as (λ o. nth_parent new kind id m ≡ o → option_and_then (parent_of new kind) o ≡ Some y → nth_parent old kind id (suc m) ≡ Some y) [
          | None ↦ λ _ no. cc
          | Some z ↦ λ here goes. ap (option_and_then (parent_of old kind)) (chain_stays m z here) ∙ parent_stays m z here ∙ goes
        ] refl at

  no_new_cycle : (kind : Kind) (id : List ℕ) → is_in_cycle old kind id ≡ false → is_in_cycle new kind id ≡ false
  no_new_cycle kind id was = false_from_ne_true _ (λ is.
      let lap = in_cycle_from_test new kind id (count_of kind new) is in
      let back = in_cycle_from_turns old kind id lap.0 lap.1 (chain_stays kind id is lap.0 id lap.3) in
      cc)

  fault_stays : (row : Record) (field : List ℕ) (k : Key) → fault_at old row field (look_up row_key k old) ≡ None → fault_at new row field (look_up row_key k new) ≡ None
  fault_stays row field k none =
      let was = fault_none old row field (look_up row_key k old) none in
      let now = stands k was.0 was.1 in
      ap (fault_at new row field) now.1 ∙ neither (has_wrong_type row.kind field now.0) (is_cyclic new row field) (same_type now.0 was.0 now.2 row.kind field ∙ was.2) (still_acyclic (bytes_eq field (codes "parent")) was.3)
    where
      still_acyclic : (b : Bool) → (b && is_in_cycle old row.kind row.id) ≡ false → (b && is_in_cycle new row.kind row.id) ≡ false
      still_acyclic true e = no_new_cycle row.kind row.id e
      still_acyclic false e = refl

  target_stays : (row : Record) (info : Info) (id : List ℕ) → target_faults old row info id ≡ [] → target_faults new row info id ≡ []
  target_stays row info id none =
      elim (target_kind row.kind info.form) as (λ o. option_map_or (λ kind. listed row info.name (Some id) (fault_at old row info.name (look_up row_key (place_of_kind kind, id) old))) o [] ≡ []
      → option_map_or (λ kind. listed row info.name (Some id) (fault_at new row info.name (look_up row_key (place_of_kind kind, id) new))) o [] ≡ []) [
        | None ↦ λ _. refl
        | Some kind ↦ λ none. ap (listed row info.name (Some id)) (fault_stays row info.name (place_of_kind kind, id) (listed_none row info.name (Some id) _ none))
      ] none

  targets_stay : (row : Record) (info : Info) (ids : List (List ℕ)) → flat_map (target_faults old row info) ids ≡ [] → flat_map (target_faults new row info) ids ≡ []
  targets_stay row info [] none = refl
  targets_stay row info (id ∷ ids) none =
      append_none _ _ (target_stays row info id (append_left (target_faults old row info id) (flat_map (target_faults old row info) ids) none)) (
      targets_stay row info ids (append_right (target_faults old row info id) (flat_map (target_faults old row info) ids) none))

  value_stays : (row : Record) (info : Info) (v : Value) → value_faults old row info v ≡ [] → value_faults new row info v ≡ []
  value_stays row info (Text x) none = refl
  value_stays row info (Id id) none = target_stays row info id none
  value_stays row info (Day day) none = none
  value_stays row info (Moment x) none = refl
  value_stays row info (Number x) none = refl
  value_stays row info (Year x) none = refl
  value_stays row info (Flag x) none = refl
  value_stays row info (Word x) none = refl
  value_stays row info (Texts x) none = refl
  value_stays row info (UserIds x) none = refl
  value_stays row info (Ref id) none = target_stays row info id none
  value_stays row info (Refs ids) none = targets_stay row info ids none

  fields_stay : (row : Record) (is : List Info) (vs : List (Option Value)) → faults_in old row is vs ≡ [] → faults_in new row is vs ≡ []
  fields_stay row [] vs none = refl
  fields_stay row (i ∷ is) [] none = refl
  fields_stay row (i ∷ is) (None ∷ vs) none = fields_stay row is vs none
  fields_stay row (i ∷ is) (Some v ∷ vs) none =
      append_none _ _ (value_stays row i v (append_left (value_faults old row i v) (faults_in old row is vs) none)) (
      fields_stay row is vs (append_right (value_faults old row i v) (faults_in old row is vs) none))

  -- the broken references anew are those of the changed rows
  pub faults_of_changed : faults_of new ≡ flat_map (row_faults new) changed
  faults_of_changed = collected (row_faults new) new changed up rise changed_stands (λ k row at none.
      fields_stay row (table row.kind) (all_values row) (none_from (row_faults old) old k row sound (sym (unchanged k none) ∙ at)))
