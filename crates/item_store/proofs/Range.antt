-- What the SELECT shows.
use Rattle.std.proofs.Common.{◌≡◌, ◌<◌, ℕ, ℤ, pos, inl, inr, List, [], ◌∷◌, ◌++◌, ◌==◌, Bool, true, false, ◌&&◌, cond}
use Rattle.std.proofs.Common.{map, filter, flat_map, length, take, codes, Option, Some, None, Ordering, Less, Equal}
use Rattle.std.proofs.Common.{Greater, refl, sym, ap, ap₂, ◌∙◌, subst, subst₂, ◌+◌, arith, get_or, suc, zero}
use Rattle.std.specs.Ordering.{is_lt, eq_by_cmp, ordering_then}
use Rattle.std.specs.List.{IsDistinct, list_all}
use Rattle.std.specs.List.Sorted.{IsSortedBy, IsPermutation, IsSorted}
use Rattle.std.specs.FinMap.{get, retain_keys}
use Rattle.std.proofs.lemmas.List.Sorted.{Contains-permutation, IsPermutation-sym, IsPermutation-map}
use Rattle.std.proofs.lemmas.Map.Keys.{IsDistinct-IsPermutation}
use Rattle.std.proofs.lemmas.Cmp.{nat_list_cmp_total, tied_itself, eq_by_cmp_equiv}
use Rattle.std.proofs.lemmas.List.{length-map, take-map}
use Rattle.std.proofs.lemmas.Bool.{false_from_ne_true, and_parts, cases_Bool, eqb-true, eq-eqb}
use Rattle.sqlite.specs.declared.types.Value.TheVariants.{Null, Int, Blob}
use Rattle.sqlite.specs.Order.{Row, column, bytes, value_cmp}
use Rattle.sqlite.specs.Term.{Env, holds}
use Rattle.sqlite.specs.Query.{IsAnswer, output, page, Output, output_cmp}
use Rattle.sqlite.specs.Program.{overlay}
use Rattle.sqlite.specs.Tree.{Trees, IsTable, rowid}
use Rattle.sqlite.specs.Command.TheVariants.{Select}
use Rattle.sqlite.specs.Effect.{Reads}
use Rattle.sqlite.specs.State.{State, Shown, IsUnchanged}
use Rattle.sqlite.specs.Listing.{understood}
use Rattle.sqlite.proofs.Callers.{reads_as, IsPlain}
use Rattle.sqlite_rules.specs.Lists.{Has}
use Rattle.sqlite_rules.proofs.ListLemmas.{all_has, all_from, has_contained, contains_had, has_filtered, has_kept}
use Rattle.sqlite_trees.proofs.ListLemmas.{map-map}
use Rattle.sqlite_value.proofs.OrderLemmas.{value_cmp-Blob, value_cmp_total}
use Rattle.item_store.specs.Table.{item_schema, select_text}
use Rattle.item_maps.specs.Items.{Items, bytes_cmp, is_between, listed}
use Rattle.item_store.specs.Items.{params_of, Holds, row_of, shown}
use Rattle.item_store.proofs.Texts.{in_range_terms, select_query, select_is, select_plain, select_unlisted}
use Rattle.item_store.proofs.Tests.{passes}
use Rattle.item_maps.proofs.ItemLemmas.{same_bytes, equal_is}
use Rattle.item_store.proofs.Orders.{rises, entries_are, between_get, Late}

abbrev pub is_hit : Row → Row → Bool
is_hit params row = list_all (holds (params ∷ row ∷ [])) in_range_terms

-- the matches of a filter over one table
pub hits : (p : Row → Bool) (f : Row → Env) (rows : List Row) → flat_map (λ r. cond (p r) (f r ∷ []) []) rows ≡ map f (filter p rows)
hits p f [] = refl
hits p f (r ∷ rows) = go (p r) (hits p f rows)
  where
    go : (b : Bool) → flat_map (λ r. cond (p r) (f r ∷ []) []) rows ≡ map f (filter p rows)
        → cond b (f r ∷ []) [] ++ flat_map (λ r. cond (p r) (f r ∷ []) []) rows ≡ map f (cond b (r ∷ filter p rows) (filter p rows))
    go true e = ap (λ l. f r ∷ l) e
    go false e = e

-- what is sorted by, and what is shown
abbrev pub out_of : Row → Output
out_of row = (column row 2 ∷ [], column row 2 ∷ column row 3 ∷ [])

abbrev pub entry_of : Output → List ℕ × List ℕ
entry_of o = (bytes (column o.1 0), bytes (column o.1 1))

pub ordered_is : (db : Trees) (params : Row) (rows : List Row) → IsAnswer select_query db params rows
    → (ordered : List Output) × IsPermutation (map out_of (filter (is_hit params) (db 0))) ordered × IsSorted (output_cmp select_query) ordered × (rows ≡ page select_query params (map (λ (o : Output). o.1) ordered))
ordered_is db params rows a =
    let staged : a.staged ≡ map (λ (r : Row). params ∷ r ∷ []) (filter (is_hit params) (db 0)) = a.grouped ∙ hits (is_hit params) (λ r. params ∷ r ∷ []) (db 0) in
    let kept : a.kept ≡ map out_of (filter (is_hit params) (db 0)) = a.distinct ∙ ap (map (output select_query)) staged ∙ map-map (output select_query) (λ (r : Row). params ∷ r ∷ []) (filter (is_hit params) (db 0)) in
    (a.ordered, subst (λ k. IsPermutation k a.ordered) kept a.same, a.sorted, a.shown)

pub has_mapped : {A B : Type 0} (f : A → B) (xs : List A) (y : B) → Has (map f xs) y → (x : A) × Has xs x × (y ≡ f x)
has_mapped f [] y h = absurd h
has_mapped f (x ∷ xs) y (inl is) = (x, inl refl, is)
has_mapped f (x ∷ xs) y (inr h) = let it = has_mapped f xs y h in (it.0, inr it.1, it.2)

pub mapped_has : {A B : Type 0} (f : A → B) (xs : List A) (x : A) → Has xs x → Has (map f xs) (f x)
mapped_has f [] x h = absurd h
mapped_has f (y ∷ xs) x (inl is) = inl (ap f is)
mapped_has f (y ∷ xs) x (inr h) = inr (mapped_has f xs x h)

got_has : {A : Type 0} (xs : List A) (i : ℕ) (d : A) → i < length xs → Has xs (get_or xs i d)
got_has [] i d low = absurd (omega arith)
got_has (x ∷ xs) zero d low = inl refl
got_has (x ∷ xs) (suc i) d low = inr (got_has xs i d (omega arith))

pub got_mapped : {A B : Type 0} (f : A → B) (xs : List A) (i : ℕ) (d : A) → get_or (map f xs) i (f d) ≡ f (get_or xs i d)
got_mapped f [] i d = refl
got_mapped f (x ∷ xs) zero d = refl
got_mapped f (x ∷ xs) (suc i) d = got_mapped f xs i d

pub filtered_table : (p : Row → Bool) (rows : List Row) → IsTable rows → IsTable (filter p rows)
filtered_table p [] up = tt
filtered_table p (r ∷ rows) up = elim (cases_Bool (p r)) [
  | inl e ↦ rw e (all_from _ (filter p rows) (λ y h. all_has _ rows y up.0 (has_filtered p rows y h).0), filtered_table p rows up.1)
  | inr e ↦ rw e (filtered_table p rows up.1)
]

pub then_equal : (o : Ordering) → ordering_then o Equal ≡ o
then_equal Less = refl
then_equal Equal = refl
then_equal Greater = refl

pub passed : {X : Type 0} (t : Bool) (a : Option X) (x : X) → cond t a None ≡ Some x → (t ≡ true) × (a ≡ Some x)
passed true a x h = (refl, h)
passed false a x h = absurd cc

abbrev pub out : List ℕ → List ℕ → Output
out label body = (Blob label ∷ [], Blob label ∷ Blob body ∷ [])

abbrev pub label_of : Output → List ℕ
label_of o = (entry_of o).0

not_both : (o : Ordering) → o ≡ Less → o ≡ Equal → ⊥
not_both o a b = cc

pub cmp_out : (l b k c : List ℕ) → output_cmp select_query (out l b) (out k c) ≡ bytes_cmp l k
cmp_out l b k c = then_equal _ ∙ value_cmp-Blob l k

module _ (m : Items) (rows : List Row) (h : Holds rows m) (area : ℕ) (from to : List ℕ) (more : Row) where
  abbrev given : Row
  given = params_of area from to more

  -- a row that passes
  pub record RowHit (r : Row) : Type 0 where
    pub id : ℤ
    pub label : List ℕ
    pub body : List ℕ
    pub is : r ≡ row_of id area label body
    pub there : Has rows (row_of id area label body)
    pub stored : get (m area) label ≡ Some body
    pub within : is_between from to label ≡ true

  record Hit (o : Output) : Type 0 where
    label : List ℕ
    body : List ℕ
    is : o ≡ out label body
    stored : get (m area) label ≡ Some body
    within : is_between from to label ≡ true

  pub hit_parts : (id : ℤ) (a : ℕ) (label body : List ℕ) → is_hit given (row_of id a label body) ≡ true → (a ≡ area) × (is_between from to label ≡ true)
  hit_parts id a label body hit =
      let parts = and_parts (a == area) _ (sym (passes area from to more id a label body) ∙ hit) in
      (eqb-true a area parts.0, (and_parts (is_between from to label) true parts.1).0)

  pub hit_from : (id : ℤ) (label body : List ℕ) → is_between from to label ≡ true → is_hit given (row_of id area label body) ≡ true
  hit_from id label body within = passes area from to more id area label body ∙ ap₂ (λ (x y : Bool). x && (y && true)) (eq-eqb area area refl) within

  pub row_hit : (r : Row) → Has rows r → is_hit given r ≡ true → RowHit r
  row_hit r there hit =
      let it = h.sound r there in
      let parts = hit_parts it.id it.area it.label it.body (subst (λ x. is_hit given x ≡ true) it.is hit) in
      record {
        id = it.id;
        label = it.label;
        body = it.body;
        is = it.is ∙ ap (λ a. row_of it.id a it.label it.body) parts.0;
        there = subst (λ a. Has rows (row_of it.id a it.label it.body)) parts.0 (subst (Has rows) it.is there);
        stored = subst (λ a. get (m a) it.label ≡ Some it.body) parts.0 it.stored;
        within = parts.1;
      }

  kept_hit : (o : Output) → Has (map out_of (filter (is_hit given) rows)) o → Hit o
  kept_hit o k =
      let r = has_mapped out_of _ o k in
      let f = has_filtered (is_hit given) rows r.0 r.1 in
      let it = row_hit r.0 f.0 f.1 in
      record { label = it.label; body = it.body; is = r.2 ∙ ap out_of it.is; stored = it.stored; within = it.within }

  hit_kept : (label body : List ℕ) → get (m area) label ≡ Some body → is_between from to label ≡ true → Has (map out_of (filter (is_hit given) rows)) (out label body)
  hit_kept label body stored within =
      let at = h.complete area label body stored in
      mapped_has out_of _ (row_of at.0 area label body) (has_kept (is_hit given) rows _ at.1 (hit_from at.0 label body within))

  -- two rows of the area with one label have one rowid
  two_rows : (r x : Row) → RowHit r → RowHit x → eq_by_cmp bytes_cmp (bytes (column r 2)) (bytes (column x 2)) ≡ true → value_cmp (rowid r) (rowid x) ≡ Equal
  two_rows r x a b tie =
      let same : a.label ≡ b.label = same_bytes a.label b.label (equal_is _ (subst₂ (λ (y z : Row). eq_by_cmp bytes_cmp (bytes (column y 2)) (bytes (column z 2)) ≡ true) a.is b.is tie)) in
      let ids : a.id ≡ b.id = h.single area a.label a.id b.id a.body b.body a.there (subst (λ l. Has rows (row_of b.id area l b.body)) (sym same) b.there) in
      subst₂ (λ (y z : Row). value_cmp (rowid y) (rowid z) ≡ Equal) (sym a.is) (sym b.is) (subst (λ i. value_cmp (Int a.id) (Int i) ≡ Equal) ids (tied_itself value_cmp_total (Int a.id)))

  apart_rows : (rs : List Row) → IsTable rs → ((r : Row) → Has rs r → Has rows r × (is_hit given r ≡ true)) → IsDistinct (eq_by_cmp bytes_cmp) (map label_of (map out_of rs))
  unfolding IsDistinct
  apart_rows [] up each = tt
  apart_rows (r ∷ rs) up each = (
    all_from _ (map label_of (map out_of rs)) (λ k there.
        let o = has_mapped label_of (map out_of rs) k there in
        let x = has_mapped out_of rs o.0 o.1 in
        let named : k ≡ bytes (column x.0 2) = o.2 ∙ ap label_of x.2 in
        let one = each r (inl refl) in
        let two = each x.0 (inr x.1) in
        false_from_ne_true _ (λ tie.
        let equal = two_rows r x.0 (row_hit r one.0 one.1) (row_hit x.0 two.0 two.1) (subst (λ l. eq_by_cmp bytes_cmp (bytes (column r 2)) l ≡ true) named tie) in
        let less : value_cmp (rowid r) (rowid x.0) ≡ Less = all_has _ rs x.0 up.0 x.1 in
        not_both _ less equal)),
    apart_rows rs up.1 (λ y k. each y (inr k)),
  )

  module _ (ordered : List Output) (perm : IsPermutation (map out_of (filter (is_hit given) rows)) ordered) (sorted : IsSorted (output_cmp select_query) ordered) where
    each : (o : Output) → Has ordered o → Hit o
    each o k = kept_hit o (has_contained _ o (Contains-permutation _ _ o (IsPermutation-sym _ _ perm) (contains_had _ o k)))

    in_order : IsSortedBy Late (map entry_of ordered)
    in_order k d low high =
        let e = out d.0 d.1 in
        let within : k + 1 < length ordered = omega (arith, length-map ordered entry_of) in
        let x = each (get_or ordered (k + 1) e) (got_has ordered (k + 1) e within) in
        let y = each (get_or ordered k e) (got_has ordered k e (omega arith)) in
        let late : Late (entry_of (get_or ordered (k + 1) e)) (entry_of (get_or ordered k e)) ≡ false =
        subst₂ (λ (p q : Output). is_lt (output_cmp select_query p q) ≡ false → Late (entry_of p) (entry_of q) ≡ false) (sym x.is) (sym y.is)
        (λ up. ap is_lt (sym (cmp_out x.label x.body y.label y.body)) ∙ up) (sorted k e low within) in
        subst₂ (λ (p q : List ℕ × List ℕ). Late p q ≡ false) (sym (got_mapped entry_of ordered (k + 1) e)) (sym (got_mapped entry_of ordered k e)) late

    apart : IsDistinct (eq_by_cmp bytes_cmp) (map (λ (e : List ℕ × List ℕ). e.0) (map entry_of ordered))
    apart = rw map-map (IsDistinct-IsPermutation (eq_by_cmp bytes_cmp) (eq_by_cmp_equiv nat_list_cmp_total).symm _ _ (IsPermutation-map label_of _ _ perm)
        (apart_rows _ (filtered_table _ rows h.table) (λ r k. has_filtered _ rows r k)))

    entries_listed : map entry_of ordered ≡ listed area from to m
    entries_listed = entries_are (retain_keys (m area) (is_between from to)) (map entry_of ordered) (rises _ in_order apart)
        (λ q b k.
        let o = has_mapped entry_of ordered (q, b) k in
        let it = each o.0 o.1 in
        let is : ◌≡◌ {A = List ℕ × List ℕ} (q, b) (it.label, it.body) = o.2 ∙ ap entry_of it.is in
        subst (λ (p : List ℕ × List ℕ). get (retain_keys (m area) (is_between from to)) p.0 ≡ Some p.1) (sym is)
        (between_get m area from to it.label ∙ ap (λ t. cond t (get (m area) it.label) None) it.within ∙ it.stored))
        (λ q b g.
        let is = sym (between_get m area from to q) ∙ g in
        let parts = passed (is_between from to q) (get (m area) q) b is in
        mapped_has entry_of ordered (out q b) (has_contained _ (out q b) (Contains-permutation _ _ (out q b) perm (contains_had _ (out q b) (hit_kept q b parts.1 parts.0)))))

    shown_as : (os : List Output) → ((o : Output) → Has os o → Hit o) → map (λ (o : Output). o.1) os ≡ map shown (map entry_of os)
    shown_as [] all = refl
    shown_as (o ∷ os) all = ap₂ ◌∷◌ (let it = all o (inl refl) in rw it.is refl) (shown_as os (λ p k. all p (inr k)))

    pub listing : map (λ (o : Output). o.1) ordered ≡ map shown (listed area from to m)
    listing = shown_as ordered each ∙ ap (map shown) entries_listed

-- a query with no RETURNING leaves all as it was
pub shown_same : (sql : List ℕ) (params : Row) (old new : State) (rows : List Row) → IsPlain (understood old.now.schema sql) → Shown sql params old new rows → IsUnchanged old new
unfolding Shown
shown_same sql params old new rows plain h =
    let bare = subst IsPlain h.1.is plain in
    (rw bare.0 at h.2).3

pub ranges : (old new : State) (m : Items) (area : ℕ) (from to : List ℕ) (limit : ℕ) (rows : List Row) → old.now.schema ≡ item_schema → Holds (old.now.trees 0) m
    → Shown select_text (params_of area from to (Int (pos limit) ∷ [])) old new rows → (rows ≡ map shown (take limit (listed area from to m))) × IsUnchanged old new
ranges old new m area from to limit rows has h it =
    let params = params_of area from to (Int (pos limit) ∷ []) in
    let command = Select (record { lets = []; body = select_query }) (codes "label" ∷ codes "body" ∷ []) in
    let got : Reads command old.now params rows = reads_as select_text params old new item_schema has command select_is select_plain select_unlisted rows it in
    let o = ordered_is (overlay old.now.trees []) params rows (got.answer Null) in
    let list = listing m (old.now.trees 0) h area from to (Int (pos limit) ∷ []) o.0 o.1 o.2 in
    (o.3 ∙ ap (take limit) list ∙ take-map shown limit (listed area from to m), shown_same select_text params old new rows (subst (λ s. IsPlain (understood s select_text)) (sym has) select_plain) it)
