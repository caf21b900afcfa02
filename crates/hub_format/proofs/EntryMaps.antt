-- Lists of entries, and the maps that they give.
use Rattle.std.proofs.Common.{◌≡◌, ℕ, List, [], ◌∷◌, ◌++◌, Bool, true, false, cond, Option, None, Some, Equal}
use Rattle.std.proofs.Common.{refl, sym, ap, ◌∙◌, subst}
use Rattle.std.specs.Prelude.{⊤}
use Rattle.std.specs.FinMap.{FinMap, find, from_entries, get-from_entries, get-retain_keys, insert, retain_keys}
use Rattle.std.specs.FinMap.{same_map}
use Rattle.std.specs.FinMap.Entries.{find-where_key}
use Rattle.std.specs.List.{AllByRecursion}
use Rattle.std.specs.Ordering.{eq_by_cmp}
use Rattle.std.proofs.lemmas.Cmp.{nat_list_cmp_total}
use Rattle.item_maps.proofs.ItemLemmas.{same_bytes, tied_same}
use Rattle.item_maps.specs.Items.{bytes_cmp}
use Rattle.hub_format.specs.Format.{Entry, where_label}

abbrev pub found : List ℕ → List Entry → Option (List ℕ)
found = find bytes_cmp

-- a label finds the same in both
abbrev pub Alike : List Entry → List Entry → Type 0
Alike es fs = (q : List ℕ) → found q es ≡ found q fs

pub alike_map : (es fs : List Entry) → Alike es fs → from_entries {R = bytes_cmp} es ≡ from_entries fs
alike_map es fs alike = same_map nat_list_cmp_total same_bytes _ _ (λ q. get-from_entries nat_list_cmp_total es q ∙ alike q ∙ sym (get-from_entries nat_list_cmp_total fs q))

-- the map with the entries put into it, the first of them first
abbrev pub filled : List Entry → FinMap bytes_cmp (List ℕ) → FinMap bytes_cmp (List ℕ)
filled [] m = m
filled (e ∷ es) m = filled es (insert m e.0 e.1)

-- no label stands twice
abbrev pub Differ : List Entry → Type 0
Differ [] = ⊤
Differ (e ∷ es) = (found e.0 es ≡ None) × Differ es

pub missed : (b : Bool) (v : List ℕ) (o : Option (List ℕ)) → cond b (Some v) o ≡ None → (b ≡ false) × (o ≡ None)
missed true v o none = absurd cc
missed false v o none = (refl, none)

-- two tests of which one at most passes may change places
pub turned : (a b : Bool) (x y z : Option (List ℕ)) → (a ≡ true → b ≡ true → ⊥) → cond a x (cond b y z) ≡ cond b y (cond a x z)
turned true true x y z apart = absurd (apart refl refl)
turned true false x y z apart = refl
turned false b x y z apart = refl

-- an entry whose label isn't in front of it may stand in front
pub to_front : (x : Entry) (xs ys : List Entry) → found x.0 xs ≡ None → Alike (xs ++ x ∷ ys) (x ∷ xs ++ ys)
to_front x [] ys none q = refl
to_front x (y ∷ xs) ys none q =
    let miss = missed (eq_by_cmp bytes_cmp x.0 y.0) y.1 (found x.0 xs) none in
    ap (cond (eq_by_cmp bytes_cmp q y.0) (Some y.1)) (to_front x xs ys miss.1 q)
    ∙ turned (eq_by_cmp bytes_cmp q y.0) (eq_by_cmp bytes_cmp q x.0) (Some y.1) (Some x.1) (found q (xs ++ ys))
    (λ at_y at_x. let same = subst (λ k. eq_by_cmp bytes_cmp k y.0 ≡ true) (tied_same q x.0 at_x) at_y in cc)

pub filled_is : (xs es : List Entry) → Differ xs → filled xs (from_entries es) ≡ from_entries (xs ++ es)
filled_is [] es differ = refl
filled_is (x ∷ xs) es differ = filled_is xs (x ∷ es) differ.1 ∙ alike_map (xs ++ x ∷ es) (x ∷ xs ++ es) (to_front x xs es differ.0)

-- the first list's or else the second's
abbrev pub or_else : Option (List ℕ) → Option (List ℕ) → Option (List ℕ)
or_else None o = o
or_else (Some v) o = Some v

pub found-append : (q : List ℕ) (xs ys : List Entry) → found q (xs ++ ys) ≡ or_else (found q xs) (found q ys)
found-append q [] ys = refl
found-append q (x ∷ xs) ys = elim (eq_by_cmp bytes_cmp q x.0) as (λ b. cond b (Some x.1) (found q (xs ++ ys)) ≡ or_else (cond b (Some x.1) (found q xs)) (found q ys)) [
  | true ↦ refl
  | false ↦ found-append q xs ys
]

pub retained : (p : List ℕ → Bool) (es : List Entry) → retain_keys (from_entries {R = bytes_cmp} es) p ≡ from_entries (where_label p es)
retained p es =
    let alike : (q x : List ℕ) → bytes_cmp q x ≡ Equal → p x ≡ p q = λ q x tie. ap p (sym (same_bytes q x tie)) in
    same_map nat_list_cmp_total same_bytes _ _ (λ q.
    get-retain_keys (from_entries {R = bytes_cmp} es) p q (alike q)
    ∙ ap (λ o. cond (p q) o None) (get-from_entries nat_list_cmp_total es q)
    ∙ sym (find-where_key bytes_cmp p q (alike q) es)
    ∙ sym (get-from_entries nat_list_cmp_total (where_label p es) q))

pub where-append : (p : List ℕ → Bool) (xs ys : List Entry) → where_label p (xs ++ ys) ≡ where_label p xs ++ where_label p ys
where-append p [] ys = refl
where-append p (x ∷ xs) ys = elim (p x.0) as (λ b. cond b (x ∷ where_label p (xs ++ ys)) (where_label p (xs ++ ys)) ≡ cond b (x ∷ where_label p xs) (where_label p xs) ++ where_label p ys) [
  | true ↦ ap (λ es. x ∷ es) (where-append p xs ys)
  | false ↦ where-append p xs ys
]

pub where_all : (p : List ℕ → Bool) (xs : List Entry) → AllByRecursion (λ e. p e.0 ≡ true) xs → where_label p xs ≡ xs
where_all p [] all = refl
where_all p (x ∷ xs) all = rw all.0 (ap (λ es. x ∷ es) (where_all p xs all.1))

pub where_none : (p : List ℕ → Bool) (xs : List Entry) → AllByRecursion (λ e. p e.0 ≡ false) xs → where_label p xs ≡ []
where_none p [] all = refl
where_none p (x ∷ xs) all = rw all.0 (where_none p xs all.1)
