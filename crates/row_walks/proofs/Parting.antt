-- A part of a list, made row by row.
use Rattle.std.proofs.Common.{◌≡◌, ℕ, zero, suc, ◌+◌, ◌-◌, ◌<◌, ◌≤◌, List, [], ◌∷◌, ◌++◌, append_assoc, append-nil}
use Rattle.std.proofs.Common.{true, false, ◌&&◌, cond, drop, map, take, length, leb, ltb, refl, sym, ap, ◌∙◌, arith}
use Rattle.std.proofs.lemmas.Bool.Decides.{nat_tests}
use Rattle.std.proofs.lemmas.List.{length-append}
use Rattle.row_walks.specs.Parts.{with_row}
use Rattle.hub_spec.specs.views.Pages.{slice}

module _ {A : Type 0} where
  -- with what is left of the list, the rows so far make the part
  abbrev pub Parts : ℕ → ℕ → ℕ → List A → List A → List A → Type 0
  Parts limit offset before found left whole = found ++ take (limit - length found) (drop (offset - before) left) ≡ whole

  before_part : (limit offset before : ℕ) (row : A) (found left whole : List A) → before < offset → Parts limit offset before found (row ∷ left) whole → Parts limit offset (before + 1) found left whole
  before_part limit offset before row found left whole lt so =
      let e : offset - before ≡ suc (offset - (before + 1)) = omega arith in
      ap (λ n. found ++ take (limit - length found) (drop n (row ∷ left))) (sym e) ∙ so

  behind_part : (limit offset before : ℕ) (row : A) (found left whole : List A) → limit ≤ length found → Parts limit offset before found (row ∷ left) whole → Parts limit offset (before + 1) found left whole
  behind_part limit offset before row found left whole full so =
      let e : limit - length found ≡ 0 = omega arith in
      ap (λ n. found ++ take n (drop (offset - (before + 1)) left)) e ∙ ap (λ n. found ++ take n (drop (offset - before) (row ∷ left))) (sym e) ∙ so

  in_part : (limit offset before : ℕ) (row : A) (found left whole : List A) → offset ≤ before → length found < limit → Parts limit offset before found (row ∷ left) whole → Parts limit offset (before + 1) (found ++ row ∷ []) left whole
  in_part limit offset before row found left whole le lt so =
      let e : suc (limit - length (found ++ row ∷ [])) ≡ limit - length found = omega (arith, length-append found (row ∷ [])) in
      let here : 0 ≡ offset - before = omega arith in
      let later : offset - (before + 1) ≡ 0 = omega arith in
      ap (λ n. (found ++ row ∷ []) ++ take (limit - length (found ++ row ∷ [])) (drop n left)) later
      ∙ append_assoc found (row ∷ []) (take (limit - length (found ++ row ∷ [])) left)
      ∙ ap (λ n. found ++ take n (row ∷ left)) e
      ∙ ap (λ n. found ++ take (limit - length found) (drop n (row ∷ left))) here
      ∙ so

  -- one row of the list further
  pub part_on : (limit offset before : ℕ) (row : A) (found left whole : List A) → Parts limit offset before found (row ∷ left) whole → Parts limit offset (before + 1) (with_row limit offset before row found) left whole
  part_on limit offset before row found left whole so =
      elim (leb offset before) as (λ a. leb offset before ≡ a → Parts limit offset (before + 1) (cond (a && ltb (length found) limit) (found ++ row ∷ []) found) left whole) [
        | true ↦ λ reached. elim (ltb (length found) limit) as (λ b. ltb (length found) limit ≡ b → Parts limit offset (before + 1) (cond b (found ++ row ∷ []) found) left whole) [
          | true ↦ λ room. let le : offset ≤ before = grind (arith, nat_tests) in let lt : length found < limit = grind (arith, nat_tests) in in_part limit offset before row found left whole le lt so
          | false ↦ λ full. let le : limit ≤ length found = grind (arith, nat_tests) in behind_part limit offset before row found left whole le so
        ] refl
        | false ↦ λ early. let lt : before < offset = grind (arith, nat_tests) in before_part limit offset before row found left whole lt so
      ] refl

  drop_none : (n : ℕ) → let none : List A = [] in drop n none ≡ none
  drop_none zero = refl
  drop_none (suc n) = refl

  take_none : (n : ℕ) → let none : List A = [] in take n none ≡ none
  take_none zero = refl
  take_none (suc n) = refl

  -- nothing is left
  pub part_end : (limit offset before : ℕ) (found whole : List A) → Parts limit offset before found [] whole → found ≡ whole
  part_end limit offset before found whole so =
      sym (append-nil found) ∙ ap (λ ys. found ++ ys) (sym (ap (take (limit - length found)) (drop_none (offset - before)) ∙ take_none (limit - length found))) ∙ so

  pub part_start : (limit offset : ℕ) (left : List A) → Parts limit offset 0 [] left (slice limit offset left)
  part_start limit offset left =
      let all : limit - 0 ≡ limit = omega arith in
      let front : offset - 0 ≡ offset = omega arith in
      ap (λ n. take n (drop (offset - 0) left)) all ∙ ap (λ n. take limit (drop n left)) front

take-map : {A B : Type 0} (f : A → B) (n : ℕ) (xs : List A) → map f (take n xs) ≡ take n (map f xs)
take-map f zero xs = refl
take-map f (suc n) [] = refl
take-map f (suc n) (x ∷ xs) = ap (λ ys. f x ∷ ys) (take-map f n xs)

drop-map : {A B : Type 0} (f : A → B) (n : ℕ) (xs : List A) → map f (drop n xs) ≡ drop n (map f xs)
drop-map f zero xs = refl
drop-map f (suc n) [] = refl
drop-map f (suc n) (x ∷ xs) = drop-map f n xs

pub slice-map : {A B : Type 0} (f : A → B) (limit offset : ℕ) (xs : List A) → map f (slice limit offset xs) ≡ slice limit offset (map f xs)
slice-map f limit offset xs = take-map f limit (drop offset xs) ∙ ap (take limit) (drop-map f offset xs)
