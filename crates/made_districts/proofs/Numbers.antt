-- Numbers from 1 on.
use Rattle.std.proofs.Common.{◌≡◌, ◌++◌, ◌+◌, ℕ, List, [], ◌∷◌, add-one, append-nil, append_assoc, ap, suc, sym, ◌∙◌}
use Rattle.std.proofs.lemmas.Grind.{flat_map-append}
use Rattle.std.specs.List.{flat_map}
use Rattle.made_districts.specs.Districts.{numbers_to}

numbers_on : (f : ℕ → List ℕ) (n : ℕ) → flat_map f (numbers_to (n + 1)) ≡ flat_map f (numbers_to n) ++ f (n + 1)
numbers_on f n = rw add-one (flat_map-append f (numbers_to n) (suc n ∷ []) ∙ ap (λ (t : List ℕ). flat_map f (numbers_to n) ++ t) (append-nil (f (suc n))))

-- a text of the lines of numbers, with those of one number more
pub numbers_step : (f : ℕ → List ℕ) (n : ℕ) (head text line new : List ℕ) → new ≡ text ++ line → text ≡ head ++ flat_map f (numbers_to n) → line ≡ f (n + 1) → new ≡ head ++ flat_map f (numbers_to (n + 1))
numbers_step f n head text line new is was one =
    is ∙ ap (λ (t : List ℕ). t ++ line) was ∙ append_assoc head (flat_map f (numbers_to n)) line ∙ ap (λ (t : List ℕ). head ++ (flat_map f (numbers_to n) ++ t)) one ∙ ap (λ (t : List ℕ). head ++ t) (sym (numbers_on f n))
