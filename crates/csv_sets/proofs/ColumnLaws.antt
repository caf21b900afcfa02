-- The columns of a header.
use Rattle.std.proofs.Common.{◌≡◌, ◌+◌, ℕ, suc, List, [], ◌∷◌, Bool, true, false, Option, Some, None, cond, length, map}
use Rattle.std.proofs.Common.{refl, sym, ap, ◌∙◌, arith, bytes_eq, nat_lt, option_map, is_some, find, position}
use Rattle.std.proofs.Common.{add-zero}
use Rattle.std.proofs.lemmas.Bool.Decides.{nat_tests}
use Rattle.std.specs.List.{list_any, position_or_len, range_with_len}
use Rattle.csv.specs.Records.{field_at}
use Rattle.roster_texts.specs.Trim.{trimmed}
use Rattle.csv_sets.specs.Cells.{cell_at}
use Rattle.csv_sets.specs.Headers.{columns_of, has_column, place_of}

later : (k n : ℕ) (b : Bool) → option_map (λ i. k + 1 + i) (cond b (Some n) None) ≡ option_map (λ i. k + i) (cond b (Some (1 + n)) None)
later k n true = ap (λ i. Some i) (omega arith)
later k n false = refl

below_same : (n m : ℕ) → nat_lt (1 + n) (suc m) ≡ nat_lt n m
below_same n m = grind (arith, nat_tests)

some_below : (m : ℕ) → nat_lt 0 (suc m) ≡ true
some_below m = grind (arith, nat_tests)

-- a search that looks at a first place before the others
search_step : {A : Type 0} (p : A → Bool) (x : A) (xs : List A) (k : ℕ) (b : Bool) (rest : Option ℕ) → p x ≡ b → rest ≡ option_map (λ i. k + 1 + i) (position p xs)
    → cond b (Some k) rest ≡ option_map (λ i. k + i) (position p (x ∷ xs))
search_step p x xs k true rest e r = rw (e, some_below (length xs)) (ap (λ i. Some i) (sym (add-zero k)))
search_step p x xs k false rest e r = rw (e, r, below_same (position_or_len p xs) (length xs)) (later k (position_or_len p xs) (nat_lt (position_or_len p xs) (length xs)))

find_from : (fields : List (List ℕ)) (name : List ℕ) (k : ℕ) (test : ℕ → Bool) → ((i : ℕ) → test (k + i) ≡ bytes_eq (trimmed (cell_at fields (Some i))) name)
    → find test (range_with_len k (length fields)) ≡ option_map (λ i. k + i) (place_of (columns_of fields) name)
unfolding field_at
find_from [] name k test h = refl
find_from (f ∷ fs) name k test h =
    let here : test k ≡ bytes_eq (trimmed f) name = ap test (sym (add-zero k)) ∙ h 0 in
    rw here (search_step (λ c. bytes_eq c name) (trimmed f) (map trimmed fs) k (bytes_eq (trimmed f) name) _ refl
    (find_from fs name (k + 1) test (λ i. ap test (omega arith) ∙ h (suc i))))

same_place : (o : Option ℕ) → option_map (λ i. 0 + i) o ≡ o
same_place None = refl
same_place (Some i) = ap (λ n. Some n) (omega arith)

pub itself : (o : Option ℕ) → option_map (λ i. i) o ≡ o
itself None = refl
itself (Some i) = refl

-- a search over the places of a header
pub find-place : (fields : List (List ℕ)) (name : List ℕ) → find (λ i. bytes_eq (trimmed (cell_at fields (Some i))) name) (range_with_len 0 (length fields)) ≡ place_of (columns_of fields) name
find-place fields name = find_from fields name 0 _ (λ i. ap (λ n. bytes_eq (trimmed (cell_at fields (Some n))) name) (omega arith)) ∙ same_place _

found_step : (p : List ℕ → Bool) (x : List ℕ) (xs : List (List ℕ)) (b : Bool) → p x ≡ b → list_any p xs ≡ is_some (position p xs) → list_any p (x ∷ xs) ≡ is_some (position p (x ∷ xs))
found_step p x xs true e h = rw (e, some_below (length xs)) refl
found_step p x xs false e h = rw (e, below_same (position_or_len p xs) (length xs), h) (kept (nat_lt (position_or_len p xs) (length xs)) _ _)
  where
    kept : (b : Bool) (n m : ℕ) → is_some (cond b (Some n) None) ≡ is_some (cond b (Some m) None)
    kept true n m = refl
    kept false n m = refl

found_any : (p : List ℕ → Bool) (xs : List (List ℕ)) → list_any p xs ≡ is_some (position p xs)
found_any p [] = refl
found_any p (x ∷ xs) = found_step p x xs (p x) refl (found_any p xs)

-- a column is there where it has a place
pub has_column-place : (columns : List (List ℕ)) (name : List ℕ) → has_column columns name ≡ is_some (place_of columns name)
has_column-place columns name = found_any (λ c. bytes_eq c name) columns
