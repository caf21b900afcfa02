-- A list in order of keys tells of each key its first item, and so a stable sort leaves that list as it is.
use Rattle.std.proofs.Common.{◌≡◌, ◌&&◌, ◌∙◌, ℕ, Bool, true, false, cond, not, List, [], ◌∷◌, Option, Some, None}
use Rattle.std.proofs.Common.{Ordering, Less, Equal, Greater, filter, nat_cmp, is_eq, is_lt, bytes_eq, refl, sym, ap}
use Rattle.std.proofs.lemmas.Cmp.{nat_list_cmp_total, tied_itself}
use Rattle.std.proofs.lemmas.Map.Text.{is_eq-slice_cmp}
use Rattle.std.proofs.lemmas.Option.{none-some}
use Rattle.std.proofs.lemmas.Slice.Eq.{bytes_eq-Decides}
use Rattle.std.specs.Cmp.Lexicographic.{slice_cmp}
use Rattle.std.specs.List.Sorted.{IsStableByKey, IsStrictlySortedBy, ties}
use Rattle.std.specs.Ordering.{match_ordering, ordering_reverse}
use Rattle.roster_base.proofs.Sorting.{Below, below_all, rise-in_order, tied}
use Rattle.roster_base.specs.Order.{RiseBy, in_order, placed}

-- the first item with the key t
abbrev pub first : {A : Type 0} → (A → List ℕ) → List ℕ → List A → Option A
first key t [] = None
first key t (x ∷ xs) = cond (bytes_eq t (key x)) (Some x) (first key t xs)

-- of each item's key the two lists have the same first item
abbrev pub SameFirsts : {A : Type 0} → (A → List ℕ) → List A → List A → Type 0
SameFirsts {A} key xs ys = (a : A) → first key (key a) xs ≡ first key (key a) ys

-- ---- what `placed` and `in_order` have first

asked_twice : {X : Type 0} (b c : Bool) (x y z : X) → b ≡ c → cond b x z ≡ cond b x (cond c y z)
asked_twice true c x y z e = refl
asked_twice false true x y z e = cc e
asked_twice false false x y z e = refl

asked_other : {X : Type 0} (b c : Bool) (x y z : X) → (b ≡ true → c ≡ true → ⊥) → cond c y (cond b x z) ≡ cond b x (cond c y z)
asked_other true true x y z n = absurd (n refl refl)
asked_other true false x y z n = refl
asked_other false c x y z n = refl

one_text : (t u v : List ℕ) → slice_cmp nat_cmp u v ≡ Greater → bytes_eq t u ≡ true → bytes_eq t v ≡ true → ⊥
one_text t u v g b c =
    let same : u ≡ v = sym ((bytes_eq-Decides t u).0 b) ∙ (bytes_eq-Decides t v).0 c in
    let e : Equal ≡ Greater = sym (tied_itself nat_list_cmp_total u) ∙ ap (slice_cmp nat_cmp u) same ∙ g in
    cc

first_placed : {A : Type 0} (key : A → List ℕ) (t : List ℕ) (x : A) (ys : List A) → first key t (placed key x ys) ≡ cond (bytes_eq t (key x)) (Some x) (first key t ys)
unfolding placed
first_placed key t x [] = refl
first_placed {A} key t x (y ∷ ys) = by (slice_cmp nat_cmp (key x) (key y)) refl (first_placed key t x ys)
  where
    by : (o : Ordering) → slice_cmp nat_cmp (key x) (key y) ≡ o → first key t (placed key x ys) ≡ cond (bytes_eq t (key x)) (Some x) (first key t ys)
        → first key t (match_ordering o (x ∷ y ∷ ys) (x ∷ ys) (y ∷ placed key x ys)) ≡ cond (bytes_eq t (key x)) (Some x) (first key t (y ∷ ys))
    by Less q more = refl
    by Equal q more = asked_twice (bytes_eq t (key x)) (bytes_eq t (key y)) (Some x) (Some y) (first key t ys) (ap (bytes_eq t) (tied (key x) (key y) q))
    by Greater q more =
        ap (cond (bytes_eq t (key y)) (Some y)) more
        ∙ asked_other (bytes_eq t (key x)) (bytes_eq t (key y)) (Some x) (Some y) (first key t ys) (one_text t (key x) (key y) q)

pub first-in_order : {A : Type 0} (key : A → List ℕ) (t : List ℕ) (xs : List A) → first key t (in_order key xs) ≡ first key t xs
first-in_order key t [] = refl
first-in_order key t (x ∷ xs) = first_placed key t x (in_order key xs) ∙ ap (cond (bytes_eq t (key x)) (Some x)) (first-in_order key t xs)

-- ---- lists that rise are told by what they have first

none_above : {A : Type 0} (key : A → List ℕ) (t : List ℕ) (xs : List A) → Below key t xs → first key t xs ≡ None
none_above key t [] h = refl
none_above key t (x ∷ xs) h =
    let other : bytes_eq t (key x) ≡ false = sym (is_eq-slice_cmp t (key x)) ∙ ap is_eq h.0 in
    rw other (none_above key t xs h.1)

at_first : {A : Type 0} (key : A → List ℕ) (x : A) (xs : List A) → first key (key x) (x ∷ xs) ≡ Some x
at_first key x xs = ap (λ (b : Bool). cond b (Some x) (first key (key x) xs)) ((bytes_eq-Decides (key x) (key x)).1 refl)

-- x is first in a list that rises, and the other has it nowhere
missed : {A B : Type 0} (key : A → List ℕ) (x y : A) (xs ys : List A) → slice_cmp nat_cmp (key x) (key y) ≡ Less → RiseBy key (y ∷ ys)
    → first key (key x) (x ∷ xs) ≡ first key (key x) (y ∷ ys) → B
unfolding IsStrictlySortedBy
missed key x y xs ys less h e =
    absurd (none-some x (sym (sym (at_first key x xs) ∙ e ∙ none_above key (key x) (y ∷ ys) (less, below_all key (key x) (key y) ys less h.0))))

-- where the first items have one key, what has another is first in the rest
rest_firsts : {A : Type 0} (key : A → List ℕ) (x y : A) (xs ys : List A) → key x ≡ key y → Below key (key x) xs → Below key (key y) ys
    → SameFirsts key (x ∷ xs) (y ∷ ys) → SameFirsts key xs ys
rest_firsts key x y xs ys same above above' e a = by (bytes_eq (key a) (key x)) refl
  where
    by : (b : Bool) → bytes_eq (key a) (key x) ≡ b → first key (key a) xs ≡ first key (key a) ys
    by true t =
        let here : key a ≡ key x = (bytes_eq-Decides (key a) (key x)).0 t in
        ap (λ t. first key t xs) here ∙ none_above key (key x) xs above
        ∙ sym (ap (λ t. first key t ys) (here ∙ same) ∙ none_above key (key y) ys above')
    by false n =
        let other : bytes_eq (key a) (key y) ≡ false = ap (bytes_eq (key a)) (sym same) ∙ n in
        sym (ap (λ b. cond b (Some x) (first key (key a) xs)) n) ∙ e a ∙ ap (λ b. cond b (Some y) (first key (key a) ys)) other

pub alike : {A : Type 0} (key : A → List ℕ) (us vs : List A) → RiseBy key us → RiseBy key vs → SameFirsts key us vs → us ≡ vs
unfolding IsStrictlySortedBy
alike key [] [] f g e = refl
alike key [] (y ∷ ys) f g e = absurd (none-some y (sym (sym (at_first key y ys) ∙ sym (e y))))
alike key (x ∷ xs) [] f g e = absurd (none-some x (sym (sym (at_first key x xs) ∙ e x)))
alike {A} key (x ∷ xs) (y ∷ ys) f g e = by (slice_cmp nat_cmp (key x) (key y)) refl (alike key xs ys f.1 g.1)
  where
    by : (o : Ordering) → slice_cmp nat_cmp (key x) (key y) ≡ o → (SameFirsts key xs ys → xs ≡ ys) → x ∷ xs ≡ y ∷ ys
    by Less q more = missed key x y xs ys q g (e x)
    by Equal q more =
        let same : key x ≡ key y = tied (key x) (key y) q in
        let here : bytes_eq (key x) (key y) ≡ true = (bytes_eq-Decides (key x) (key y)).1 same in
        let is : Some x ≡ Some y = sym (at_first key x xs) ∙ e x ∙ ap (λ b. cond b (Some y) (first key (key x) ys)) here in
        let rest : xs ≡ ys = more (rest_firsts key x y xs ys same f.0 g.0 e) in
        cc
    by Greater q more = missed key y x ys xs (nat_list_cmp_total.antisymm (key y) (key x) ∙ ap ordering_reverse q) f (sym (e y))

-- ---- a stable sort

abbrev head : {A : Type 0} → List A → Option A
head [] = None
head (x ∷ xs) = Some x

tie_texts : (o : Ordering) → not (is_lt o) && not (is_lt (ordering_reverse o)) ≡ is_eq o
tie_texts Less = refl
tie_texts Equal = refl
tie_texts Greater = refl

abbrev pub lower : {A : Type 0} → (A → List ℕ) → A → A → Bool
lower key x y = is_lt (slice_cmp nat_cmp (key x) (key y))

ties-key : {A : Type 0} (key : A → List ℕ) (x y : A) → ties (lower key) x y ≡ bytes_eq (key x) (key y)
ties-key key x y =
    ap (λ o. not (lower key x y) && not (is_lt o)) (nat_list_cmp_total.antisymm (key y) (key x))
    ∙ tie_texts (slice_cmp nat_cmp (key x) (key y)) ∙ is_eq-slice_cmp (key x) (key y)

head-cond : {A : Type 0} (b : Bool) (x : A) (xs : List A) → head (cond b (x ∷ xs) xs) ≡ cond b (Some x) (head xs)
head-cond true x xs = refl
head-cond false x xs = refl

first-filter : {A : Type 0} (key : A → List ℕ) (a : A) (xs : List A) → head (filter (ties (lower key) a) xs) ≡ first key (key a) xs
first-filter key a [] = refl
first-filter key a (x ∷ xs) =
    head-cond (ties (lower key) a x) x (filter (ties (lower key) a) xs)
    ∙ ap (cond (ties (lower key) a x) (Some x)) (first-filter key a xs)
    ∙ ap (λ (b : Bool). cond b (Some x) (first key (key a) xs)) (ties-key key a x)

-- what a stable sort by key leaves in order is what was in order before
pub stable-in_order : {A : Type 0} (key : A → List ℕ) (xs ys : List A) → IsStableByKey key (slice_cmp nat_cmp) xs ys → in_order key ys ≡ in_order key xs
stable-in_order {A} key xs ys stable =
    let same : SameFirsts key (in_order key ys) (in_order key xs) = λ a.
    first-in_order key (key a) ys ∙ sym (first-filter key a ys) ∙ ap head (stable a) ∙ first-filter key a xs ∙ sym (first-in_order key (key a) xs) in
    alike key (in_order key ys) (in_order key xs) (rise-in_order key ys) (rise-in_order key xs) same
