-- What the upsert leaves.
use Rattle.std.proofs.Common.{◌≡◌, ℕ, ℤ, pos, ◌⊎◌, inl, inr, List, [], ◌∷◌, ◌==◌, Bool, true, false, ◌&&◌, ◌||◌, cond}
use Rattle.std.proofs.Common.{Some, refl, sym, ap, ap₂, ◌∙◌, subst, subst₂}
use Rattle.std.specs.Ordering.{is_eq, eq_by_cmp}
use Rattle.std.specs.FinMap.{get, get-insert}
use Rattle.std.proofs.lemmas.Bool.{false_from_ne_true, cases_Bool, and_parts, eqb-true, eq-eqb, both_ways}
use Rattle.std.proofs.lemmas.Cmp.{tied_itself, nat_list_cmp_total}
use Rattle.std.proofs.lemmas.Option.{same_Some}
use Rattle.sqlite.specs.declared.types.Value.{Value}
use Rattle.sqlite.specs.declared.types.Value.TheVariants.{Null, Int, Blob}
use Rattle.sqlite.specs.Order.{Row, value_cmp}
use Rattle.sqlite.specs.Ops.{binary, is_true, from_truth}
use Rattle.sqlite.specs.Tree.{IsTable}
use Rattle.sqlite.specs.Tree.{has_rowid, put_row}
use Rattle.sqlite.specs.Kind.TheVariants.{Integer}
use Rattle.sqlite.specs.Cast.{cast, cast_row}
use Rattle.sqlite.specs.Rowids.TheVariants.{Chosen}
use Rattle.sqlite.specs.Edit.{with_rowid, next_rowid, put_all, without_all, are_fresh, row_at}
use Rattle.sqlite.specs.Ops.{unary}
use Rattle.sqlite_trees.proofs.TreeLemmas.{IsTable-put_row}
use Rattle.sqlite_rules.proofs.TableLemmas.{put_all_has, put_all_adds, put_all_keeps, without_all_has}
use Rattle.sqlite_rules.proofs.PlaceLemmas.{left_or_taken, row_at_is}
use Rattle.item_store.proofs.ClearLemmas.{left_table, left_lacks, own_rowid}
use Rattle.sqlite_rules.specs.Keys.{conflicts}
use Rattle.sqlite_rules.specs.Lists.{Has}
use Rattle.sqlite_value.specs.Keys.{first_key}
use Rattle.sqlite_value.proofs.OrderLemmas.{value_cmp-Int, value_cmp-Blob}
use Rattle.item_store.specs.Table.{item_schema, item_table}
use Rattle.item_maps.specs.Items.{Items, bytes_cmp, put}
use Rattle.item_store.specs.Items.{Holds, IsItem, row_of}
use Rattle.item_store.proofs.Tests.{truth_is, same_area}
use Rattle.item_maps.proofs.ItemLemmas.{same_bytes, equal_is}
use Rattle.item_store.proofs.Range.{has_mapped}

-- the row is no item of that area with that label
abbrev pub Apart : ℕ → List ℕ → Row → Type 0
Apart area label x = (id : ℤ) (body : List ℕ) → x ≡ row_of id area label body → ⊥

module _ (m : Items) (area : ℕ) (label body : List ℕ) where
  put_same : get (put area label body m area) label ≡ Some body
  put_same = rw (eq-eqb area area refl) (get-insert nat_list_cmp_total (m area) label body label ∙ ap (λ o. cond (is_eq o) (Some body) (get (m area) label)) (tied_itself nat_list_cmp_total label))

  -- elsewhere nothing changes
  put_other : (a : ℕ) (l : List ℕ) → (a ≡ area → l ≡ label → ⊥) → get (put area label body m a) l ≡ get (m a) l
  put_other a l apart = elim (cases_Bool (a == area)) [
    | inl same ↦ rw same (get-insert nat_list_cmp_total (m a) label body l
        ∙ ap (λ t. cond t (Some body) (get (m a) l)) (false_from_ne_true _ (λ tie. apart (eqb-true a area same) (same_bytes l label (equal_is _ tie)))))
    | inr other ↦ rw other refl
  ]

  same_key : (a : ℕ) (l : List ℕ) → ((a ≡ area) × (l ≡ label)) ⊎ (a ≡ area → l ≡ label → ⊥)
  same_key a l = elim (cases_Bool (a == area)) [
    | inl same ↦ elim (cases_Bool (eq_by_cmp bytes_cmp l label)) [
      | inl tie ↦ inl (eqb-true a area same, same_bytes l label (equal_is _ tie))
      | inr other ↦ inr (λ _ is. both_ways _ other (subst (λ k. eq_by_cmp bytes_cmp l k ≡ true) is (ap is_eq (tied_itself nat_list_cmp_total l))))
    ]
    | inr other ↦ inr (λ is _. both_ways _ other (subst (λ n. (a == n) ≡ true) is (eq-eqb a a refl)))
  ]

  module _ (rows next : List Row) (h : Holds rows m) (id : ℤ) (up : IsTable next)
      (from : (x : Row) → Has next x → (x ≡ row_of id area label body) ⊎ (Has rows x × Apart area label x))
      (new : Has next (row_of id area label body)) (keeps : (x : Row) → Has rows x → Apart area label x → Has next x) where
    sound_put : (x : Row) → Has next x → IsItem (put area label body m) x
    sound_put x there = elim (from x there) [
      | inl is ↦ record { id = id; area = area; label = label; body = body; is = is; stored = put_same }
      | inr was ↦ let it = h.sound x was.0 in record {
        id = it.id;
        area = it.area;
        label = it.label;
        body = it.body;
        is = it.is;
        stored = put_other it.area it.label (λ p q. was.1 it.id it.body (it.is ∙ ap₂ (λ (a : ℕ) (l : List ℕ). row_of it.id a l it.body) p q)) ∙ it.stored;
      }
    ]

    complete_put : (a : ℕ) (l b : List ℕ) → get (put area label body m a) l ≡ Some b → (i : ℤ) × Has next (row_of i a l b)
    complete_put a l b g = elim (same_key a l) [
      | inl is ↦
          let at : get (put area label body m area) label ≡ Some b = subst₂ (λ (n : ℕ) (k : List ℕ). get (put area label body m n) k ≡ Some b) is.0 is.1 g in
          let value : body ≡ b = same_Some body b (sym put_same ∙ at) in
          (id, subst (λ c. Has next (row_of id a l c)) value (subst₂ (λ (n : ℕ) (k : List ℕ). Has next (row_of id n k body)) (sym is.0) (sym is.1) new))
      | inr apart ↦
          let at = h.complete a l b (sym (put_other a l apart) ∙ g) in
          (at.0, keeps _ at.1 (λ i c is. let p : a ≡ area = cc in let q : l ≡ label = cc in apart p q))
    ]

    single_put : (a : ℕ) (l : List ℕ) (i j : ℤ) (b c : List ℕ) → Has next (row_of i a l b) → Has next (row_of j a l c) → i ≡ j
    single_put a l i j b c p q = go (from _ p) (from _ q)
      where
        go : (row_of i a l b ≡ row_of id area label body) ⊎ (Has rows (row_of i a l b) × Apart area label (row_of i a l b))
            → (row_of j a l c ≡ row_of id area label body) ⊎ (Has rows (row_of j a l c) × Apart area label (row_of j a l c)) → i ≡ j
        go (inl is) (inl also) = cc
        go (inl is) (inr was) = absurd (was.1 j c (let p : a ≡ area = cc in let q : l ≡ label = cc in ap₂ (λ (n : ℕ) (k : List ℕ). row_of j n k c) p q))
        go (inr was) (inl is) = absurd (was.1 i b (let p : a ≡ area = cc in let q : l ≡ label = cc in ap₂ (λ (n : ℕ) (k : List ℕ). row_of i n k b) p q))
        go (inr was) (inr also) = h.single a l i j b c was.0 also.0

    pub puts : Holds next (put area label body m)
    puts = record { table = up; sound = sound_put; complete = complete_put; single = single_put }

without_true : (e t : Bool) → ((e && (t && true)) || false) ≡ (e && t)
without_true true true = refl
without_true true false = refl
without_true false t = refl

-- a row conflicts with a new one where it has its area and its label
pub conflict_is : (n : Value) (area : ℕ) (label body : List ℕ) (id : ℤ) (a : ℕ) (l b : List ℕ)
    → conflicts (Some (1 ∷ 2 ∷ [])) item_schema.indexes item_table (n ∷ Int (pos area) ∷ Blob label ∷ Blob body ∷ []) (row_of id a l b) ≡ ((a == area) && is_eq (bytes_cmp l label))
unfolding binary first_key
conflict_is n area label body id a l b =
    let one : is_true (from_truth (Some (is_eq (value_cmp (Int (pos a)) (Int (pos area)))))) ≡ (a == area) = truth_is _ ∙ ap is_eq (value_cmp-Int (pos a) (pos area)) ∙ same_area a area in
    let two : is_true (from_truth (Some (is_eq (value_cmp (Blob l) (Blob label))))) ≡ is_eq (bytes_cmp l label) = truth_is _ ∙ ap is_eq (value_cmp-Blob l label) in
    ap₂ (λ (e t : Bool). (e && (t && true)) || false) one two ∙ without_true (a == area) (is_eq (bytes_cmp l label))

pub conflict_parts : (n : Value) (area : ℕ) (label body : List ℕ) (id : ℤ) (a : ℕ) (l b : List ℕ)
    → conflicts (Some (1 ∷ 2 ∷ [])) item_schema.indexes item_table (n ∷ Int (pos area) ∷ Blob label ∷ Blob body ∷ []) (row_of id a l b) ≡ true → (a ≡ area) × (l ≡ label)
conflict_parts n area label body id a l b h =
    let parts = and_parts (a == area) (is_eq (bytes_cmp l label)) (sym (conflict_is n area label body id a l b) ∙ h) in
    (eqb-true a area parts.0, same_bytes l label (equal_is _ parts.1))

pub own_conflict : (n : Value) (area : ℕ) (label body : List ℕ) (id : ℤ) (b : List ℕ)
    → conflicts (Some (1 ∷ 2 ∷ [])) item_schema.indexes item_table (n ∷ Int (pos area) ∷ Blob label ∷ Blob body ∷ []) (row_of id area label b) ≡ true
own_conflict n area label body id b = conflict_is n area label body id area label b ∙ ap₂ (λ (e t : Bool). e && t) (eq-eqb area area refl) (ap is_eq (tied_itself nat_list_cmp_total label))

-- ---- the row is new

cond_same : (b : Bool) (x : Value) → cond b x x ≡ x
cond_same true x = refl
cond_same false x = refl

cast_null : cast Integer Null ≡ Null
unfolding unary
cast_null = cond_same _ Null

pub cast_int : (n : ℤ) → cast Integer (Int n) ≡ Int n
unfolding unary
cast_int n = cond_same _ (Int n)

pub cast_source : (v : Value) (area : ℕ) (label body : List ℕ) → cast Integer v ≡ v
    → cast_row item_table (v ∷ Int (pos area) ∷ Blob label ∷ Blob body ∷ []) ≡ v ∷ Int (pos area) ∷ Blob label ∷ Blob body ∷ []
cast_source v area label body id = ap₂ (λ (x y : Value). x ∷ y ∷ Blob label ∷ Blob body ∷ []) id (cast_int (pos area))

abbrev pub source_row : ℕ → List ℕ → List ℕ → Row
source_row area label body = Null ∷ Int (pos area) ∷ Blob label ∷ Blob body ∷ []

pub new_row : (rows : List Row) (area : ℕ) (label body : List ℕ)
    → with_rowid Chosen rows (cast_row item_table (source_row area label body)) ≡ row_of (next_rowid rows) area label body
new_row rows area label body = ap (with_rowid Chosen rows) (cast_source Null area label body cast_null)

pub put_table : (news rows : List Row) → IsTable rows → IsTable (put_all rows news)
put_table [] rows up = up
put_table (n ∷ news) rows up = put_table news (put_row n rows) (IsTable-put_row n rows up)

module _ (m : Items) (rows : List Row) (h : Holds rows m) (area : ℕ) (label body : List ℕ) where
  -- no row has the area and the label
  pub inserts : (id : ℤ) → ((i : ℤ) (b : List ℕ) → Has rows (row_of i area label b) → ⊥) → are_fresh rows (row_of id area label body ∷ []) ≡ true
      → Holds (put_all rows (row_of id area label body ∷ [])) (put area label body m)
  inserts id free fresh =
      let news = row_of id area label body ∷ [] in
      puts m area label body rows (put_all rows news) h id (put_table news rows h.table)
      (λ x there. elim (put_all_has news rows x there) [
        | inl is ↦ elim is [ inl same ↦ inl same | inr none ↦ absurd none ]
        | inr was ↦ inr (was, λ i b named. free i b (subst (Has rows) named was))
      ])
      (put_all_adds news rows _ fresh (inl refl)) (λ x was apart. put_all_keeps news rows x fresh was)

  -- the row with the rowid has the area and the label
  pub replaces : (id : ℤ) (before : List ℕ) (ids : List ℤ) (news : List Row) → Has rows (row_of id area label before)
      → Has ids id → ((i : ℤ) → Has ids i → i ≡ id) → ((n : Row) → Has news n → n ≡ row_of id area label body) → Has news (row_of id area label body)
      → are_fresh (without_all rows ids) news ≡ true → Holds (put_all (without_all rows ids) news) (put area label body m)
  replaces id before ids news was its only same new fresh =
      puts m area label body rows (put_all (without_all rows ids) news) h id (put_table news (without_all rows ids) (left_table ids rows h.table))
      (λ x there. elim (put_all_has news (without_all rows ids) x there) [
        | inl is ↦ inl (same x is)
        | inr left ↦ inr (
          without_all_has ids rows x left,
          λ i b named.
              let there = subst (Has rows) named (without_all_has ids rows x left) in
              let one : i ≡ id = h.single area label i id b before there was in
              both_ways _ (left_lacks ids rows x id left its) (subst (λ (r : Row). has_rowid id r ≡ true) (sym (named ∙ ap (λ j. row_of j area label b) one)) (own_rowid id area label b)),
        )
      ])
      (put_all_adds news (without_all rows ids) _ fresh new)
      (λ x old apart. elim (left_or_taken rows ids x h.table old) [
        | inl left ↦ put_all_keeps news (without_all rows ids) x fresh left
        | inr taken ↦
            let at = has_mapped (row_at rows) ids x taken in
            absurd (apart id before (at.2 ∙ ap (row_at rows) (only at.0 at.1) ∙ row_at_is rows id _ h.table was (own_rowid id area label before)))
      ])
