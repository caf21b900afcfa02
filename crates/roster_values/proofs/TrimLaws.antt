-- What is left of a text without the spaces at its ends.
use Rattle.std.proofs.Common.{◌≡◌, ◌≢◌, ℕ, ◌-◌, ◌<◌, ◌&&◌, cond, List, [], ◌∷◌, ◌++◌, length, length-append, get_or}
use Rattle.std.proofs.Common.{reverse, Bool, true, false, refl, sym, ap, ◌∙◌, arith}
use Rattle.std.proofs.lemmas.Bool.{and_from, and_parts, eqb-false}
use Rattle.std.proofs.lemmas.Bool.Decides.{nat_tests}
use Rattle.std.proofs.lemmas.List.{get_or-append-add, length-reverse, reverse-append, reverse-reverse}
use Rattle.std.proofs.lemmas.List.Folds.{list_all-append}
use Rattle.std.specs.List.{list_all}
use Rattle.roster_values.specs.Lists.{is_filled}
use Rattle.roster_texts.specs.Signs.{space}
use Rattle.roster_texts.specs.Texts.{has_plain_ends}
use Rattle.roster_texts.specs.Trim.{is_space, trimmed, without_end, without_front}
use Rattle.roster_texts.proofs.Spaces.{last_is, trimmed_plain_text}
pub use Rattle.roster_texts.proofs.Spaces.{first_of_plain, last_of_plain}

pub filled_long : (t : List ℕ) → is_filled t ≡ true → 0 < length t
filled_long t h = grind (arith, nat_tests)

pub plain_from : (t : List ℕ) → get_or t 0 0 ≢ space → get_or t (length t - 1) 0 ≢ space → has_plain_ends t ≡ true
plain_from t h k = grind (arith, nat_tests)

pub trimmed_same : (t : List ℕ) → is_filled t ≡ true → has_plain_ends t ≡ true → trimmed t ≡ t
trimmed_same t filled h = trimmed_plain_text t (filled_long t filled) h

head_step : (b : ℕ) (t : List ℕ) (r : Bool) → is_space b ≡ r → (0 < length (without_front t) → get_or (without_front t) 0 0 ≢ space)
    → 0 < length (cond r (without_front t) (b ∷ t)) → get_or (cond r (without_front t) (b ∷ t)) 0 0 ≢ space
head_step b t true e below = below
head_step b t false e below = λ long same. eqb-false b space e same

front_head : (t : List ℕ) → 0 < length (without_front t) → get_or (without_front t) 0 0 ≢ space
front_head [] = λ h. absurd (omega arith)
front_head (b ∷ t) = head_step b t (is_space b) refl (front_head t)

suffix_step : (b : ℕ) (t s : List ℕ) (r : Bool) → t ≡ s ++ without_front t → (front : List ℕ) × ((b ∷ t) ≡ front ++ cond r (without_front t) (b ∷ t))
suffix_step b t s true e = (b ∷ s, ap (λ x. b ∷ x) e)
suffix_step b t s false e = ([], refl)

front_suffix : (t : List ℕ) → (s : List ℕ) × (t ≡ s ++ without_front t)
front_suffix [] = ([], refl)
front_suffix (b ∷ t) = let rest = front_suffix t in suffix_step b t rest.0 (is_space b) rest.1

pub head_append : (v r : List ℕ) → 0 < length v → get_or (v ++ r) 0 0 ≡ get_or v 0 0
head_append [] r h = absurd (omega arith)
head_append (x ∷ v) r h = refl

-- a text is what is left without the spaces at its end, and then the rest
end_prefix : (u : List ℕ) → (r : List ℕ) × (u ≡ without_end u ++ r)
end_prefix u =
    let cut = front_suffix (reverse u) in
    (reverse cut.0, sym (reverse-reverse u) ∙ ap reverse cut.1 ∙ reverse-append cut.0 (without_front (reverse u)))

end_first : (u : List ℕ) → 0 < length (without_end u) → get_or (without_end u) 0 0 ≡ get_or u 0 0
end_first u long =
    let cut = end_prefix u in
    sym (head_append (without_end u) cut.0 long) ∙ ap (λ x. get_or x 0 0) (sym cut.1)

end_last : (u : List ℕ) → 0 < length (without_end u) → get_or (without_end u) (length (without_end u) - 1) 0 ≢ space
end_last u long e =
    let front_long : 0 < length (without_front (reverse u)) = omega (arith, length-reverse (without_front (reverse u))) in
    front_head (reverse u) front_long
    (ap (λ x. get_or x 0 0) (sym (reverse-reverse (without_front (reverse u)))) ∙ last_is (without_end u) long ∙ e)

front_longer : (u : List ℕ) → 0 < length (without_end u) → 0 < length u
front_longer u long = let cut = end_prefix u in omega (arith, ap length cut.1, length-append (without_end u) cut.0)

pub trimmed_plain : (t : List ℕ) → is_filled (trimmed t) ≡ true → has_plain_ends (trimmed t) ≡ true
unfolding trimmed
trimmed_plain t filled =
    let u : List ℕ = without_front t in
    let long : 0 < length (without_end (without_front t)) = filled_long (without_end (without_front t)) filled in
    let first : get_or (without_end (without_front t)) 0 0 ≢ space = λ e. front_head t (front_longer (without_front t) long) (sym (end_first (without_front t) long) ∙ e) in
    plain_from (without_end (without_front t)) first (end_last (without_front t) long)

front_all_step : (p : ℕ → Bool) (b : ℕ) (t : List ℕ) (r : Bool) → list_all p (b ∷ t) ≡ true → list_all p (without_front t) ≡ true → list_all p (cond r (without_front t) (b ∷ t)) ≡ true
front_all_step p b t true h below = below
front_all_step p b t false h below = h

front_all : (p : ℕ → Bool) (t : List ℕ) → list_all p t ≡ true → list_all p (without_front t) ≡ true
front_all p [] h = h
front_all p (b ∷ t) h = front_all_step p b t (is_space b) h (front_all p t (and_parts (p b) (list_all p t) h).1)

reverse_all : (p : ℕ → Bool) (t : List ℕ) → list_all p t ≡ true → list_all p (reverse t) ≡ true
reverse_all p [] h = refl
reverse_all p (b ∷ t) h =
    let rest : list_all p (reverse t) ≡ true = reverse_all p t (and_parts (p b) (list_all p t) h).1 in
    let mine : p b ≡ true = (and_parts (p b) (list_all p t) h).0 in
    ap (list_all p) (reverse-append (b ∷ []) t) ∙ list_all-append p (reverse t) (b ∷ []) ∙ (rw (rest, mine) refl)

-- what holds of each byte holds of each that is left
pub trimmed_all : (p : ℕ → Bool) (t : List ℕ) → list_all p t ≡ true → list_all p (trimmed t) ≡ true
unfolding trimmed
trimmed_all p t h = reverse_all p _ (front_all p _ (reverse_all p _ (front_all p t h)))

pub last_append : (t r : List ℕ) → 0 < length r → get_or (t ++ r) (length (t ++ r) - 1) 0 ≡ get_or r (length r - 1) 0
last_append t r h = ap (λ k. get_or (t ++ r) k 0) (omega (arith, length-append t r)) ∙ get_or-append-add t r (length r - 1) 0

filled_from : (t : List ℕ) → 0 < length t → is_filled t ≡ true
filled_from t h = grind (arith, nat_tests)

-- a text with a first and a last byte that are no spaces
pub plain_text_from : (t : List ℕ) → 0 < length t → get_or t 0 0 ≢ space → get_or t (length t - 1) 0 ≢ space → (is_filled t && has_plain_ends t) ≡ true
plain_text_from t h first last = and_from (is_filled t) (has_plain_ends t) (filled_from t h) (plain_from t first last)
