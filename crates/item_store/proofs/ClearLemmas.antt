-- What the DELETE leaves.
use Rattle.std.proofs.Common.{◌≡◌, ℕ, ℤ, inl, inr, List, [], ◌∷◌, ◌==◌, Bool, true, false, not, cond, map, filter, Some}
use Rattle.std.proofs.Common.{None, refl, sym, ap, ◌∙◌, subst}
use Rattle.std.specs.Ordering.{is_eq}
use Rattle.std.specs.List.Sorted.{IsPermutation}
use Rattle.std.specs.FinMap.{get, retain_keys, get-retain_keys}
use Rattle.std.proofs.lemmas.List.Sorted.{Contains-permutation, IsPermutation-sym}
use Rattle.std.proofs.lemmas.Bool.{false_from_ne_true, cases_Bool, not-true, eqb-true, eq-eqb, both_ways}
use Rattle.std.proofs.lemmas.Cmp.{tied_itself}
use Rattle.sqlite.specs.declared.types.Value.TheVariants.{Int}
use Rattle.sqlite.specs.Order.{Row, column}
use Rattle.sqlite.specs.Query.{IsAnswer, output, Output}
use Rattle.sqlite.specs.Tree.{Trees, IsTable, rowid, has_rowid, without_rowid}
use Rattle.sqlite.specs.Edit.{id_in, without_all, row_at}
use Rattle.sqlite_rules.specs.Lists.{Has}
use Rattle.sqlite_rules.specs.Calls.{ids_of}
use Rattle.sqlite_rules.proofs.ListLemmas.{has_contained, contains_had, has_filtered, has_kept}
use Rattle.sqlite_rules.proofs.TableLemmas.{without_all_has}
use Rattle.sqlite_rules.proofs.PlaceLemmas.{left_or_taken, row_at_is}
use Rattle.sqlite_trees.proofs.ListLemmas.{map-map}
use Rattle.sqlite_value.proofs.OrderLemmas.{value_cmp_total}
use Rattle.item_maps.specs.Items.{Items, is_between, cleared}
use Rattle.item_store.specs.Items.{params_of, Holds, row_of}
use Rattle.item_store.proofs.Texts.{delete_query}
use Rattle.item_maps.proofs.ItemLemmas.{same_bytes}
use Rattle.item_store.proofs.Range.{is_hit, hits, has_mapped, mapped_has, filtered_table, RowHit, row_hit, hit_from}
use Rattle.item_store.proofs.Range.{passed}

-- the rowids are those of the rows that pass
pub record AreHits (params : Row) (rows : List Row) (gone : List ℤ) : Type 0 where
  pub sound : (id : ℤ) → Has gone id → (r : Row) × Has rows r × (is_hit params r ≡ true) × (id ≡ id_in (rowid r))
  pub complete : (r : Row) → Has rows r → is_hit params r ≡ true → Has gone (id_in (rowid r))

abbrev key_of : Row → Output
key_of row = ([], column row 0 ∷ [])

pub hits_of : (db : Trees) (params : Row) (rows : List Row) → IsAnswer delete_query db params rows → AreHits params (db 0) (ids_of rows)
hits_of db params rows a =
    let staged : a.staged ≡ map (λ (r : Row). params ∷ r ∷ []) (filter (is_hit params) (db 0)) = a.grouped ∙ hits (is_hit params) (λ r. params ∷ r ∷ []) (db 0) in
    let kept : a.kept ≡ map key_of (filter (is_hit params) (db 0)) = a.distinct ∙ ap (map (output delete_query)) staged ∙ map-map (output delete_query) (λ (r : Row). params ∷ r ∷ []) (filter (is_hit params) (db 0)) in
    let perm : IsPermutation (map key_of (filter (is_hit params) (db 0))) a.ordered = subst (λ k. IsPermutation k a.ordered) kept a.same in
    let shown : rows ≡ map (λ (o : Output). o.1) a.ordered = a.shown in
    record {
      sound = λ id there.
          let x = has_mapped (λ (r : Row). id_in (rowid r)) rows id there in
          let o = has_mapped (λ (p : Output). p.1) a.ordered x.0 (subst (λ l. Has l x.0) shown x.1) in
          let k = has_mapped key_of (filter (is_hit params) (db 0)) o.0 (has_contained _ o.0 (Contains-permutation _ _ o.0 (IsPermutation-sym _ _ perm) (contains_had _ o.0 o.1))) in
          let f = has_filtered (is_hit params) (db 0) k.0 k.1 in
          (k.0, f.0, f.1, x.2 ∙ ap (λ (r : Row). id_in (rowid r)) (o.2 ∙ ap (λ (p : Output). p.1) k.2));
      complete = λ r there hit.
          let k = mapped_has key_of (filter (is_hit params) (db 0)) r (has_kept (is_hit params) (db 0) r there hit) in
          let o = has_contained _ (key_of r) (Contains-permutation _ _ (key_of r) perm (contains_had _ (key_of r) k)) in
          let x = subst (λ l. Has l (rowid r ∷ [])) (sym shown) (mapped_has (λ (p : Output). p.1) a.ordered (key_of r) o) in
          mapped_has (λ (y : Row). id_in (rowid y)) rows (rowid r ∷ []) x;
    }

pub left_table : (ids : List ℤ) (rows : List Row) → IsTable rows → IsTable (without_all rows ids)
left_table [] rows up = up
left_table (id ∷ ids) rows up = left_table ids (without_rowid id rows) (filtered_table _ rows up)

pub left_lacks : (ids : List ℤ) (rows : List Row) (x : Row) (id : ℤ) → Has (without_all rows ids) x → Has ids id → has_rowid id x ≡ false
left_lacks [] rows x id h k = absurd k
left_lacks (i ∷ ids) rows x id h (inl is) =
    let there = without_all_has ids (without_rowid i rows) x h in
    subst (λ j. has_rowid j x ≡ false) (sym is) (not-true _ (has_filtered (λ r. not (has_rowid i r)) rows x there).1)
left_lacks (i ∷ ids) rows x id h (inr k) = left_lacks ids (without_rowid i rows) x id h k

pub own_rowid : (id : ℤ) (area : ℕ) (label body : List ℕ) → has_rowid id (row_of id area label body) ≡ true
own_rowid id area label body = ap is_eq (tied_itself value_cmp_total (Int id))

module _ (m : Items) (rows : List Row) (h : Holds rows m) (area : ℕ) (from to : List ℕ) (gone : List ℤ) (are : AreHits (params_of area from to []) rows gone) where
  abbrev here : List ℕ → Bool
  here label = is_between from to label

  kept_get : (a : ℕ) (label : List ℕ) → get (retain_keys (m a) (λ l. not (here l))) label ≡ cond (not (here label)) (get (m a) label) None
  kept_get a label = get-retain_keys (m a) (λ l. not (here l)) label (λ x tie. ap (λ l. not (here l)) (sym (same_bytes label x tie)))

  -- a row that is left is not in the range
  outside : (id : ℤ) (label body : List ℕ) → Has (without_all rows gone) (row_of id area label body) → here label ≡ false
  outside id label body there = false_from_ne_true _ (λ within.
      let hit = hit_from m rows h area from to [] id label body within in
      let k = are.complete (row_of id area label body) (without_all_has gone rows _ there) hit in
      both_ways _ (left_lacks gone rows _ id there k) (own_rowid id area label body))

  -- what is stored afterwards was stored before
  pub cleared_from : (a : ℕ) (label body : List ℕ) → get (cleared area from to m a) label ≡ Some body → (get (m a) label ≡ Some body) × (a ≡ area → here label ≡ false)
  cleared_from a label body g = elim (cases_Bool (a == area)) [
    | inl same ↦ let it = passed (not (here label)) (get (m a) label) body (sym (kept_get a label) ∙ rw same at g) in (it.1, λ _. not-true _ it.0)
    | inr other ↦ (rw other at g, λ is. absurd (both_ways (a == area) other (subst (λ n. (a == n) ≡ true) is (eq-eqb a a refl))))
  ]

  pub cleared_keeps : (a : ℕ) (label body : List ℕ) → get (m a) label ≡ Some body → (a ≡ area → here label ≡ false) → get (cleared area from to m a) label ≡ Some body
  cleared_keeps a label body g out = elim (cases_Bool (a == area)) [
    | inl same ↦ rw same (kept_get a label ∙ ap (λ t. cond (not t) (get (m a) label) None) (out (eqb-true a area same)) ∙ g)
    | inr other ↦ rw other g
  ]

  taken_not : (id : ℤ) (a : ℕ) (label body : List ℕ) → (a ≡ area → here label ≡ false) → Has (map (row_at rows) gone) (row_of id a label body) → ⊥
  taken_not id a label body out there =
      let x = has_mapped (row_at rows) gone _ there in
      let r = are.sound x.0 x.1 in
      let hit : RowHit m rows h area from to [] r.0 = row_hit m rows h area from to [] r.0 r.1 r.2 in
      let named : x.0 ≡ hit.id = r.3 ∙ ap (λ (y : Row). id_in (rowid y)) hit.is in
      let at : row_at rows hit.id ≡ row_of hit.id area hit.label hit.body = row_at_is rows hit.id _ h.table hit.there (own_rowid hit.id area hit.label hit.body) in
      let same : row_of id a label body ≡ row_of hit.id area hit.label hit.body = x.2 ∙ ap (row_at rows) named ∙ at in
      let area_is : a ≡ area = cc in
      let label_is : label ≡ hit.label = cc in
      both_ways (here label) (out area_is) (subst (λ l. here l ≡ true) (sym label_is) hit.within)

  pub clears : Holds (without_all rows gone) (cleared area from to m)
  clears = record {
    table = left_table gone rows h.table;
    sound = λ row there.
        let it = h.sound row (without_all_has gone rows row there) in
        record {
          id = it.id;
          area = it.area;
          label = it.label;
          body = it.body;
          is = it.is;
          stored = cleared_keeps it.area it.label it.body it.stored (λ same.
              outside it.id it.label it.body (subst (Has (without_all rows gone)) (it.is ∙ ap (λ a. row_of it.id a it.label it.body) same) there));
        };
    complete = λ a label body g.
        let was = cleared_from a label body g in
        let at = h.complete a label body was.0 in (
          at.0,
          elim (left_or_taken rows gone (row_of at.0 a label body) h.table at.1) [
            | inl left ↦ left
            | inr taken ↦ absurd (taken_not at.0 a label body was.1 taken)
          ],
        );
    single = λ a label i j b c p q. h.single a label i j b c (without_all_has gone rows _ p) (without_all_has gone rows _ q);
  }
