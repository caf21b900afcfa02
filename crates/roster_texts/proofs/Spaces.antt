-- Spaces taken off a text one by one.
use Rattle.std.proofs.Common.{◌≡◌, ◌≢◌, ◌-◌, ◌<◌, ℕ, List, [], ◌∷◌, ◌++◌, true, false, get_or, length, refl, sym, ap}
use Rattle.std.proofs.Common.{◌∙◌, reverse, arith}
use Rattle.std.proofs.lemmas.Bool.{ne_eqb}
use Rattle.std.proofs.lemmas.Bool.Decides.{nat_tests}
use lib.Dec.{eqb}
use Rattle.std.proofs.lemmas.List.{get_or-reverse, reverse-append, reverse-reverse}
use Rattle.roster_texts.specs.Signs.{space}
use Rattle.roster_texts.specs.Texts.{has_plain_ends}
use Rattle.roster_texts.specs.Trim.{trimmed, without_end, without_front}

pub front_done : (t : List ℕ) → ((rest : List ℕ) → t ≢ space ∷ rest) → t ≡ without_front t
front_done [] h = refl
front_done (b ∷ t) h =
    let other : eqb b space ≡ false = ne_eqb b space (λ e. h t (ap (λ x. x ∷ t) e)) in rw other refl

-- what is reversed and begins with a space ends with one
ends_so : (t rest : List ℕ) → reverse t ≡ space ∷ rest → t ≡ reverse rest ++ space ∷ []
ends_so t rest e = sym (reverse-reverse t) ∙ ap reverse e ∙ reverse-append (space ∷ []) rest

pub end_done : (t : List ℕ) → ((front : List ℕ) → t ≢ front ++ space ∷ []) → t ≡ without_end t
end_done t h =
    sym (reverse-reverse t) ∙ ap reverse (front_done (reverse t) (λ rest e. h (reverse rest) (ends_so t rest e)))

pub end_step : (t shorter : List ℕ) → t ≡ shorter ++ space ∷ [] → without_end t ≡ without_end shorter
end_step t shorter e = ap without_end e ∙ (rw reverse-append refl)

pub first_of_plain : (t : List ℕ) → has_plain_ends t ≡ true → get_or t 0 0 ≢ space
first_of_plain t h = grind (arith, nat_tests)

pub last_of_plain : (t : List ℕ) → has_plain_ends t ≡ true → get_or t (length t - 1) 0 ≢ space
last_of_plain t h = grind (arith, nat_tests)

-- the last byte is the first of the text from its end
pub last_is : (t : List ℕ) → 0 < length t → get_or (reverse t) 0 0 ≡ get_or t (length t - 1) 0
last_is t h = get_or-reverse t 0 0 h ∙ ap (λ k. get_or t k 0) (omega arith)

front_kept : (t : List ℕ) → get_or t 0 0 ≢ space → without_front t ≡ t
front_kept t h = sym (front_done t (λ rest e. h (ap (λ x. get_or x 0 0) e)))

-- a text without spaces at its ends stays as it is
pub trimmed_plain_text : (t : List ℕ) → 0 < length t → has_plain_ends t ≡ true → trimmed t ≡ t
unfolding trimmed
trimmed_plain_text t long h =
    let back : get_or (reverse t) 0 0 ≢ space = λ e. last_of_plain t h (sym (last_is t long) ∙ e) in
    ap without_end (front_kept t (first_of_plain t h)) ∙ ap reverse (front_kept (reverse t) back) ∙ reverse-reverse t
