-- What the upsert makes of the trees.
use Rattle.std.proofs.Common.{◌≡◌, ℕ, ℤ, pos, ◌⊎◌, inl, inr, List, [], ◌∷◌, ◌++◌, Bool, true, ◌&&◌, map, filter, drop}
use Rattle.std.proofs.Common.{Option, Some, Ok, Err, Result, Ordering, Equal, refl, sym, ap, ap₂, ◌∙◌, subst}
use Rattle.std.specs.Ordering.{is_eq, int_cmp}
use Rattle.std.specs.List.{list_all}
use Rattle.std.specs.List.Sorted.{IsPermutation}
use Rattle.std.proofs.lemmas.List.Sorted.{Contains-permutation, IsPermutation-sym}
use Rattle.std.proofs.lemmas.Bool.{and_parts}
use Rattle.std.proofs.lemmas.Cmp.{tied_itself, int_cmp_total}
use Rattle.sqlite.specs.declared.types.Value.TheVariants.{Null, Int, Blob}
use Rattle.sqlite.specs.Order.{Row, column, value_cmp}
use Rattle.sqlite.specs.Ops.{binary, is_true, from_truth}
use Rattle.sqlite.specs.Term.{holds}
use Rattle.sqlite.specs.Query.{IsAnswer, output, Output}
use Rattle.sqlite.specs.Program.{overlay}
use Rattle.sqlite.specs.Tree.{Trees, rowid}
use Rattle.sqlite.specs.Cast.{cast_row}
use Rattle.sqlite.specs.Rowids.TheVariants.{Given}
use Rattle.sqlite.specs.Edit.{edit_of, id_in, next_rowid, put_all, without_all, are_fresh, Applies}
use Rattle.sqlite.specs.Rows.{Written, Task, Upserts, Updates, Puts, Meets, Clears, shown}
use Rattle.sqlite.proofs.Callers.{one_step}
use Rattle.sqlite_schema.specs.declared.command.Conflict.TheVariants.{Abort}
use Rattle.sqlite_schema.specs.declared.schema.Keys.TheVariants.{Enforced}
use Rattle.sqlite_rules.specs.Keys.{AreConflicts, conflicts}
use Rattle.sqlite_rules.specs.Lists.{Has}
use Rattle.sqlite_rules.specs.Calls.{ids_of}
use Rattle.sqlite_rules.proofs.ListLemmas.{has_contained, contains_had, has_filtered, has_kept}
use Rattle.sqlite_rules.proofs.PlaceLemmas.{given, tied_same}
use Rattle.sqlite_trees.proofs.ListLemmas.{map-map}
use Rattle.sqlite_value.proofs.OrderLemmas.{value_cmp-Int}
use Rattle.item_store.specs.Table.{item_schema, item_table}
use Rattle.item_maps.specs.Items.{Items, put}
use Rattle.item_store.specs.Items.{Holds, row_of}
use Rattle.item_store.proofs.Texts.{update_query, upsert}
use Rattle.item_store.proofs.Tests.{truth_is}
use Rattle.item_maps.proofs.ItemLemmas.{equal_is}
use Rattle.item_store.proofs.Range.{hits, has_mapped, mapped_has}
use Rattle.item_store.proofs.PutLemmas.{conflict_parts, own_conflict, cast_source, inserts, replaces, cast_int}

-- what the update is given: the parameters, the rowid that is there, and the row that is not inserted
abbrev pub update_params : ℕ → List ℕ → List ℕ → ℤ → ℤ → Row
update_params area label body id other = Int (pos area) ∷ Blob label ∷ Blob body ∷ Int id ∷ Int other ∷ Int (pos area) ∷ Blob label ∷ Blob body ∷ []

abbrev is_target : Row → Row → Bool
is_target params row = list_all (holds (params ∷ row ∷ [])) update_query.filter

target_is : (area : ℕ) (label body : List ℕ) (id other i : ℤ) (a : ℕ) (l b : List ℕ) → is_target (update_params area label body id other) (row_of i a l b) ≡ (is_eq (int_cmp i id) && true)
unfolding binary
target_is area label body id other i a l b =
    let one : is_true (from_truth (Some (is_eq (value_cmp (Int i) (Int id))))) ≡ is_eq (int_cmp i id) = truth_is _ ∙ ap is_eq (value_cmp-Int i id) in
    ap (λ (t : Bool). t && true) one

abbrev changed_row : Row → Row → Row
changed_row params r = column r 0 ∷ column r 0 ∷ column r 1 ∷ column r 2 ∷ column params 7 ∷ []

record AreChanged (params : Row) (rows shown : List Row) : Type 0 where
  sound : (s : Row) → Has shown s → (r : Row) × Has rows r × (is_target params r ≡ true) × (s ≡ changed_row params r)
  complete : (r : Row) → Has rows r → is_target params r ≡ true → Has shown (changed_row params r)

abbrev out_of : Row → Row → Output
out_of params r = ([], changed_row params r)

changed_by : (db : Trees) (params : Row) (shown : List Row) → IsAnswer update_query db params shown → AreChanged params (db 0) shown
changed_by db params shown a =
    let out = out_of params in
    let staged : a.staged ≡ map (λ (r : Row). params ∷ r ∷ []) (filter (is_target params) (db 0)) = a.grouped ∙ hits (is_target params) (λ r. params ∷ r ∷ []) (db 0) in
    let kept : a.kept ≡ map (out_of params) (filter (is_target params) (db 0)) = a.distinct ∙ ap (map (output update_query)) staged ∙ map-map (output update_query) (λ (r : Row). params ∷ r ∷ []) (filter (is_target params) (db 0)) in
    let perm : IsPermutation (map (out_of params) (filter (is_target params) (db 0))) a.ordered = subst (λ k. IsPermutation k a.ordered) kept a.same in
    let is : shown ≡ map (λ (o : Output). o.1) a.ordered = a.shown in
    record {
      sound = λ s there.
          let o = has_mapped (λ (p : Output). p.1) a.ordered s (subst (λ l. Has l s) is there) in
          let k = has_mapped (out_of params) (filter (is_target params) (db 0)) o.0 (has_contained _ o.0 (Contains-permutation _ _ o.0 (IsPermutation-sym _ _ perm) (contains_had _ o.0 o.1))) in
          let f = has_filtered (is_target params) (db 0) k.0 k.1 in
          (k.0, f.0, f.1, o.2 ∙ ap (λ (p : Output). p.1) k.2);
      complete = λ r there hit.
          let k = mapped_has (out_of params) (filter (is_target params) (db 0)) r (has_kept (is_target params) (db 0) r there hit) in
          let o = has_contained _ (out_of params r) (Contains-permutation _ _ (out_of params r) perm (contains_had _ (out_of params r) k)) in
          subst (λ l. Has l (changed_row params r)) (sym is) (mapped_has (λ (p : Output). p.1) a.ordered (out_of params r) o);
    }

-- a part that gave a value did not stop on the way
pub went : {B E R : Type 0} {b : B} {Stops : E → Type 0} → ((stop : E) × Stops stop × (Ok b ≡ Err stop)) ⊎ R → R
went (inl stopped) = absurd (let e = stopped.2 in cc)
went (inr on) = on

pub same_value : {B E : Type 0} {a b : B} → ◌≡◌ {A = Result B E} (Ok a) (Ok b) → a ≡ b
same_value e = cc

pub not_err : {B E : Type 0} {b : B} {e : E} → ◌≡◌ {A = Result B E} (Ok b) (Err e) → ⊥
not_err e = cc

module _ (limit : Option ℕ) (params : Row) (db : Trees) (m : Items) (h : Holds (db 0) m) (area : ℕ) (label body : List ℕ) where
  abbrev task : Task
  task = record { limit = limit; keys = Enforced; schema = item_schema; table = item_table; params = Int (pos area) ∷ Blob label ∷ Blob body ∷ [] }

  abbrev id : ℤ
  id = next_rowid (db 0)

  abbrev new : Row
  new = row_of id area label body

  cast_same : (i : ℤ) → cast_row item_table (row_of i area label body) ≡ row_of i area label body
  cast_same i = cast_source (Int i) area label body (cast_int i)

  plain_put : (one : Written) → ((i : ℤ) (b : List ℕ) → Has (db 0) (row_of i area label b) → ⊥) → Puts task new db (Ok one) → Holds (one.trees 0) (put area label body m)
  plain_put one free p =
      let e = went p in
      let edit = edit_of db item_table [] Given 0 (new ∷ []) in
      let applied : Applies item_schema Enforced db edit e.0 = one_step item_schema Enforced db e.0 edit refl e.1 in
      let fresh : are_fresh (db 0) (new ∷ []) ≡ true = subst (λ (n : Row). are_fresh (db 0) (n ∷ []) ≡ true) (cast_same id) applied.fresh in
      let trees : one.trees ≡ e.0 = ap (λ (w : Written). w.trees) (same_value e.2) in
      let rows : one.trees 0 ≡ put_all (db 0) (new ∷ []) = ap (λ (t : Trees). t 0) trees ∙ applied.rows ∙ ap (λ (n : Row). put_all (db 0) (n ∷ [])) (cast_same id) in
      subst (λ rs. Holds rs (put area label body m)) (sym rows) (inserts m (db 0) h area label body id free fresh)

  module _ (i : ℤ) (before : List ℕ) (there : Has (db 0) (row_of i area label before)) where
    abbrev given_to : Row
    given_to = update_params area label body i id

    abbrev old_row : Row
    old_row = row_of i area label before

    hit : is_target given_to old_row ≡ true
    hit = target_is area label body i id i area label before ∙ ap (λ (o : Ordering). is_eq o && true) (tied_itself int_cmp_total i)

    same_row : (x : Row) → Has (db 0) x → is_target given_to x ≡ true → x ≡ old_row
    same_row x k target =
        let it = h.sound x k in
        let is = subst (λ (r : Row). is_target given_to r ≡ true) it.is target in
        let tie : int_cmp it.id i ≡ Equal = equal_is _ (and_parts (is_eq (int_cmp it.id i)) true (sym (target_is area label body i id it.id it.area it.label it.body) ∙ is)).0 in
        tied_same (db 0) x old_row h.table k there (ap (λ (r : Row). value_cmp (rowid r) (Int i)) it.is ∙ value_cmp-Int it.id i ∙ tie)

    abbrev recast : Row → Row
    recast s = cast_row item_table (drop 1 s)

    module _ (shown : List Row) (c : AreChanged given_to (db 0) shown) where
      seen : (s : Row) → Has shown s → s ≡ changed_row given_to old_row
      seen s k = let x = c.sound s k in x.3 ∙ ap (changed_row given_to) (same_row x.0 x.1 x.2)

      its : Has (ids_of shown) i
      its = mapped_has (λ (r : Row). id_in (rowid r)) shown (changed_row given_to old_row) (c.complete old_row there hit)

      only : (j : ℤ) → Has (ids_of shown) j → j ≡ i
      only j k = let s = has_mapped (λ (r : Row). id_in (rowid r)) shown j k in s.2 ∙ ap (λ (r : Row). id_in (rowid r)) (seen s.0 s.1)

      same_new : (n : Row) → Has (map recast shown) n → n ≡ row_of i area label body
      same_new n k = let s = has_mapped recast shown n k in s.2 ∙ ap recast (seen s.0 s.1) ∙ cast_same i

      has_new : Has (map recast shown) (row_of i area label body)
      has_new = subst (Has (map recast shown)) (cast_same i) (mapped_has recast shown (changed_row given_to old_row) (c.complete old_row there hit))

      replaced : are_fresh (without_all (db 0) (ids_of shown)) (map recast shown) ≡ true → Holds (put_all (without_all (db 0) (ids_of shown)) (map recast shown)) (put area label body m)
      replaced fresh = replaces m (db 0) h area label body i before (ids_of shown) (map recast shown) there its only same_new has_new fresh

    updated : (one : Written) → Updates task (record { lets = []; body = update_query }) given_to db (Ok one) → Holds (one.trees 0) (put area label body m)
    updated one p =
        let u = went p in
        let e = went u.2 in
        let edit = edit_of db item_table (ids_of u.0) Given 1 u.0 in
        let applied : Applies item_schema Enforced db edit e.0 = one_step item_schema Enforced db e.0 edit refl e.1 in
        let left = without_all (db 0) (ids_of u.0) in
        let news : edit.news ≡ map recast u.0 = given left (map recast u.0) in
        let fresh : are_fresh left (map recast u.0) ≡ true = subst (λ (n : List Row). are_fresh left n ≡ true) news applied.fresh in
        let trees : one.trees ≡ e.0 = ap (λ (w : Written). w.trees) (same_value e.2) in
        let rows : one.trees 0 ≡ put_all left (map recast u.0) = ap (λ (t : Trees). t 0) trees ∙ applied.rows ∙ ap (put_all left) news in
        let c = changed_by (overlay db []) given_to u.0 (u.1.answer Null) in
        subst (λ rs. Holds rs (put area label body m)) (sym rows) (replaced u.0 c fresh)

  put_either : (one : Written) (found : List Row) → Clears task Abort new db found (Ok one) → Puts task new db (Ok one)
  put_either one [] p = p
  put_either one (x ∷ more) p = p

  on_found : (one : Written) (found : List Row) → AreConflicts (Some (1 ∷ 2 ∷ [])) item_schema.indexes item_table (db 0) new found
      → Meets task (Upserts task Abort new db []) new db upsert found (Ok one) → Holds (one.trees 0) (put area label body m)
  on_found one [] are p = plain_put one (λ i b there. are.complete (row_of i area label b) there (own_conflict (Int id) area label body i b)) (put_either one p.0 p.2)
  on_found one (x ∷ more) are p =
      let met = are.sound x (inl refl) in
      let it = h.sound met.0 met.1 in
      let parts = conflict_parts (Int id) area label body it.id it.area it.label it.body
      (subst (λ (r : Row). conflicts (Some (1 ∷ 2 ∷ [])) item_schema.indexes item_table new r ≡ true) it.is met.2) in
      let named : met.0 ≡ row_of it.id area label it.body = it.is ∙ ap₂ (λ (a : ℕ) (l : List ℕ). row_of it.id a l it.body) parts.0 parts.1 in
      let found : x ≡ Int it.id ∷ [] = met.3 ∙ ap (λ (r : Row). rowid r ∷ []) named in
      updated it.id it.body (subst (Has (db 0)) named met.1) one
      (subst (λ (t : Row). Updates task (record { lets = []; body = update_query }) (task.params ++ rowid t ∷ shown item_table new) db (Ok one)) found p)

  pub upserted : (one : Written) → Upserts task Abort new db (upsert ∷ []) (Ok one) → Holds (one.trees 0) (put area label body m)
  upserted one p = on_found one p.0 p.1 p.2
