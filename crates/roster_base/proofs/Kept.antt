-- Of a sorted list the first item of each key, in one pass.
use Rattle.std.proofs.Common.{◌≡◌, ◌∙◌, ◌<◌, ◌-◌, ◌++◌, ℕ, suc, Bool, true, false, cond, List, [], ◌∷◌, Option, Some}
use Rattle.std.proofs.Common.{None, Ordering, Less, Equal, Greater, option_map, length, nat_cmp, is_lt, bytes_eq, refl}
use Rattle.std.proofs.Common.{sym, ap, subst, add-one, append_assoc, arith}
use Rattle.std.proofs.lemmas.Bool.{and_from}
use Rattle.std.proofs.lemmas.Cmp.{nat_list_cmp_total}
use Rattle.std.specs.Cmp.Lexicographic.{slice_cmp}
use Rattle.std.specs.List.{slice_get, slice_index_or}
use Rattle.std.specs.List.Sorted.{IsSortedByKey}
use Rattle.std.specs.Ordering.{ordering_reverse}
use Rattle.roster_base.proofs.Firsts.{alike, first, first-in_order}
use Rattle.roster_base.proofs.Rising.{rises, stays_in_order}
use Rattle.roster_base.proofs.Sorting.{rise-in_order, tied}
use Rattle.roster_base.specs.Order.{RiseBy, in_order, is_below, last_key, with_item}

-- the items whose keys are above those kept before
abbrev pub kept : {A : Type 0} → (A → List ℕ) → Option (List ℕ) → List A → List A
kept key last [] = []
kept key last (x ∷ xs) = cond (is_below last (key x)) (x ∷ kept key (Some (key x)) xs) (kept key last xs)

kept-rises : {A : Type 0} (key : A → List ℕ) (last : Option (List ℕ)) (xs : List A) → rises key last (kept key last xs) ≡ true
kept-rises key last [] = refl
kept-rises {A} key last (x ∷ xs) = by (is_below last (key x)) refl (kept-rises key (Some (key x)) xs) (kept-rises key last xs)
  where
    by : (b : Bool) → is_below last (key x) ≡ b → rises key (Some (key x)) (kept key (Some (key x)) xs) ≡ true → rises key last (kept key last xs) ≡ true
        → rises key last (cond b (x ∷ kept key (Some (key x)) xs) (kept key last xs)) ≡ true
    by true q more other = and_from (is_below last (key x)) _ q more
    by false q more other = other

-- no key is below the one before it
abbrev Climbs : {A : Type 0} → (A → List ℕ) → List ℕ → List A → Type 0
Climbs key t [] = Unit {0}
Climbs key t (x ∷ xs) = (is_lt (slice_cmp nat_cmp (key x) t) ≡ false) × Climbs key (key x) xs

climbs : {A : Type 0} (key : A → List ℕ) (x : A) (xs : List A) → ((k : ℕ) (d : A) → suc k < length (x ∷ xs) → is_lt (slice_cmp nat_cmp (key (slice_index_or (x ∷ xs) (suc k) d)) (key (slice_index_or (x ∷ xs) k d))) ≡ false)
    → Climbs key (key x) xs
climbs key x [] h = tt
climbs key x (y ∷ ys) h = (h 0 x (omega arith), climbs key y ys (λ k d lt. h (suc k) d (omega arith)))

between : (t u : List ℕ) (o : Ordering) → slice_cmp nat_cmp t u ≡ o → is_lt o ≡ false → is_lt (ordering_reverse o) ≡ false → t ≡ u
between t u Less e a b = cc a
between t u Equal e a b = tied t u e
between t u Greater e a b = cc b

-- of each key but the last that was kept the first item is kept
same_first : {A : Type 0} (key : A → List ℕ) (t u : List ℕ) (xs : List A) → bytes_eq t u ≡ false → Climbs key u xs → first key t (kept key (Some u) xs) ≡ first key t xs
same_first key t u [] n h = refl
same_first {A} key t u (x ∷ xs) n h = by (is_lt (slice_cmp nat_cmp u (key x))) refl (same_first key t (key x) xs) (same_first key t u xs n)
  where
    by : (b : Bool) → is_lt (slice_cmp nat_cmp u (key x)) ≡ b → (bytes_eq t (key x) ≡ false → Climbs key (key x) xs → first key t (kept key (Some (key x)) xs) ≡ first key t xs)
        → (Climbs key u xs → first key t (kept key (Some u) xs) ≡ first key t xs)
        → first key t (cond b (x ∷ kept key (Some (key x)) xs) (kept key (Some u) xs)) ≡ cond (bytes_eq t (key x)) (Some x) (first key t xs)
    by true q more other = behind (bytes_eq t (key x)) refl
      where
        behind : (c : Bool) → bytes_eq t (key x) ≡ c → cond c (Some x) (first key t (kept key (Some (key x)) xs)) ≡ cond c (Some x) (first key t xs)
        behind true e = refl
        behind false e = more e h.1
    by false q more other =
        let turned : is_lt (ordering_reverse (slice_cmp nat_cmp u (key x))) ≡ false = ap is_lt (sym (nat_list_cmp_total.antisymm (key x) u)) ∙ h.0 in
        let same : u ≡ key x = between u (key x) (slice_cmp nat_cmp u (key x)) refl q turned in
        let apart : bytes_eq t (key x) ≡ false = ap (bytes_eq t) (sym same) ∙ n in
        other (subst (λ v. Climbs key v xs) (sym same) h.1) ∙ ap (λ c. cond c (Some x) (first key t xs)) (sym apart)

same_firsts : {A : Type 0} (key : A → List ℕ) (t : List ℕ) (x : A) (xs : List A) → Climbs key (key x) xs → first key t (x ∷ kept key (Some (key x)) xs) ≡ first key t (x ∷ xs)
same_firsts key t x xs h = behind (bytes_eq t (key x)) refl
  where
    behind : (c : Bool) → bytes_eq t (key x) ≡ c → cond c (Some x) (first key t (kept key (Some (key x)) xs)) ≡ cond c (Some x) (first key t xs)
    behind true e = refl
    behind false e = same_first key t (key x) xs e h

-- of a sorted list they are the list in order
pub kept-in_order : {A : Type 0} (key : A → List ℕ) (xs : List A) → IsSortedByKey key (slice_cmp nat_cmp) xs → kept key None xs ≡ in_order key xs
kept-in_order key [] h = refl
kept-in_order key (x ∷ xs) h =
    let climb = climbs key x xs (λ k d lt. rw add-one at (h k d (omega arith) (omega arith))) in
    let list = x ∷ kept key (Some (key x)) xs in
    let stays = stays_in_order key None list (kept-rises key None (x ∷ xs)) in
    let up : RiseBy key list = subst (RiseBy key) stays (rise-in_order key list) in
    alike key list (in_order key (x ∷ xs)) up (rise-in_order key (x ∷ xs)) (λ a. same_firsts key (key a) x xs climb ∙ sym (first-in_order key (key a) (x ∷ xs)))

-- ---- the key of the last item

pub last_key-push : {A : Type 0} (key : A → List ℕ) (xs : List A) (x : A) → last_key key (xs ++ x ∷ []) ≡ Some (key x)
last_key-push key [] x = refl
last_key-push key (y ∷ []) x = refl
last_key-push key (y ∷ z ∷ zs) x = last_key-push key (z ∷ zs) x

pub last_key-get : {A : Type 0} (key : A → List ℕ) (xs : List A) → last_key key xs ≡ option_map key (slice_get xs (length xs - 1))
last_key-get key [] = refl
last_key-get key (x ∷ []) = refl
last_key-get key (x ∷ y ∷ ys) =
    let one : suc (length ys) - 1 ≡ length ys = omega arith in
    let two : suc (suc (length ys)) - 1 ≡ suc (length ys) = omega arith in
    last_key-get key (y ∷ ys) ∙ ap (λ i. option_map key (slice_get (y ∷ ys) i)) one ∙ sym (ap (λ i. option_map key (slice_get (x ∷ y ∷ ys) i)) two)

-- ---- one item more

pub kept-on : {A : Type 0} (key : A → List ℕ) (done rest : List A) (x : A)
    → with_item key done x ++ kept key (last_key key (with_item key done x)) rest ≡ done ++ kept key (last_key key done) (x ∷ rest)
kept-on {A} key done rest x = by (is_below (last_key key done) (key x))
  where
    by : (b : Bool) → cond b (done ++ x ∷ []) done ++ kept key (last_key key (cond b (done ++ x ∷ []) done)) rest
        ≡ done ++ cond b (x ∷ kept key (Some (key x)) rest) (kept key (last_key key done) rest)
    by true =
        ap (λ last. (done ++ x ∷ []) ++ kept key last rest) (last_key-push key done x)
        ∙ append_assoc done (x ∷ []) (kept key (Some (key x)) rest)
    by false = refl
