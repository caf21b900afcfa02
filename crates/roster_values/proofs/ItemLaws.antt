-- Lists of items, joined and read.
use Rattle.std.proofs.Common.{◌≡◌, ℕ, cond, List, [], ◌∷◌, map, Bool, true, false, refl, ap, ◌∙◌, All}
use Rattle.std.proofs.lemmas.Bool.{and_from, and_parts, not-true}
use Rattle.std.proofs.lemmas.List.Elements.{All-cons, All-nil}
use Rattle.std.proofs.lemmas.List.Splits.{slice_split_at, slice_split_none}
use Rattle.std.specs.List.{filter, join_with_byte, list_all, onto_first, slice_split}
use Rattle.roster_values.specs.Fit.{is_item, is_plain_text, is_no_comma}
use Rattle.roster_values.specs.Lists.{is_comma, is_filled, items_of}
use Rattle.roster_texts.specs.Trim.{trimmed}
use Rattle.roster_texts.specs.Texts.{has_plain_ends}
use Rattle.roster_values.proofs.TrimLaws.{trimmed_all, trimmed_plain, trimmed_same}

-- no part has a comma
onto_plain : (b : ℕ) (parts : List (List ℕ)) → is_comma b ≡ false → list_all (list_all is_no_comma) parts ≡ true → list_all (list_all is_no_comma) (onto_first b parts) ≡ true
onto_plain b [] e h = rw e refl
onto_plain b (part ∷ parts) e h = rw e h

part_step : (b : ℕ) (parts : List (List ℕ)) (r : Bool) → is_comma b ≡ r → list_all (list_all is_no_comma) parts ≡ true
    → list_all (list_all is_no_comma) (cond r ([] ∷ parts) (onto_first b parts)) ≡ true
part_step b parts true e h = h
part_step b parts false e h = onto_plain b parts e h

parts_plain : (t : List ℕ) → list_all (list_all is_no_comma) (slice_split is_comma t) ≡ true
parts_plain [] = refl
parts_plain (b ∷ t) = part_step b (slice_split is_comma t) (is_comma b) refl (parts_plain t)

item_step : (t : List ℕ) (ts : List (List ℕ)) (r : Bool) → is_filled (trimmed t) ≡ r → list_all is_no_comma t ≡ true → list_all is_item ts ≡ true
    → list_all is_item (cond r (trimmed t ∷ ts) ts) ≡ true
item_step t ts true e h k =
    let good : is_item (trimmed t) ≡ true =
    and_from (is_plain_text (trimmed t)) (list_all is_no_comma (trimmed t)) (and_from (is_filled (trimmed t)) (has_plain_ends (trimmed t)) e (trimmed_plain t e)) (trimmed_all is_no_comma t h) in
    rw (good, k) refl
item_step t ts false e h k = k

from_parts : (parts : List (List ℕ)) → list_all (list_all is_no_comma) parts ≡ true → list_all is_item (filter is_filled (map trimmed parts)) ≡ true
from_parts [] h = refl
from_parts (part ∷ parts) h =
    item_step part (filter is_filled (map trimmed parts)) (is_filled (trimmed part)) refl
    (and_parts (list_all is_no_comma part) (list_all (list_all is_no_comma) parts) h).0
    (from_parts parts (and_parts (list_all is_no_comma part) (list_all (list_all is_no_comma) parts) h).1)

-- each item that is read is one
pub items_good : (t : List ℕ) → list_all is_item (items_of t) ≡ true
unfolding items_of
items_good t = from_parts (slice_split is_comma t) (parts_plain t)

no_commas : (t : List ℕ) → list_all is_no_comma t ≡ true → All (λ b. is_comma b ≡ false) t
no_commas [] h = All-nil (λ b. is_comma b ≡ false)
no_commas (b ∷ t) h =
    All-cons (λ b'. is_comma b' ≡ false) b t (not-true (is_comma b) (and_parts (is_no_comma b) (list_all is_no_comma t) h).0) (no_commas t (and_parts (is_no_comma b) (list_all is_no_comma t) h).1)

pub plain_of : (t : List ℕ) → is_item t ≡ true → is_plain_text t ≡ true
plain_of t h = (and_parts (is_plain_text t) (list_all is_no_comma t) h).0

commas_of : (t : List ℕ) → is_item t ≡ true → All (λ b. is_comma b ≡ false) t
commas_of t h = no_commas t (and_parts (is_plain_text t) (list_all is_no_comma t) h).1

same_item : (t : List ℕ) → is_item t ≡ true → trimmed t ≡ t
same_item t h = trimmed_same t (and_parts (is_filled t) (has_plain_ends t) (plain_of t h)).0 (and_parts (is_filled t) (has_plain_ends t) (plain_of t h)).1

kept_first : (t : List ℕ) (parts : List (List ℕ)) → is_item t ≡ true → filter is_filled (map trimmed (t ∷ parts)) ≡ t ∷ filter is_filled (map trimmed parts)
kept_first t parts h =
    let filled : is_filled t ≡ true = (and_parts (is_filled t) (has_plain_ends t) (plain_of t h)).0 in
    rw (same_item t h, filled) refl

-- items that are joined with commas are read as they were
pub joined_read : (ts : List (List ℕ)) → list_all is_item ts ≡ true → items_of (join_with_byte 44 ts) ≡ ts
unfolding items_of trimmed
joined_read [] h = refl
joined_read (t ∷ []) h =
    let good : is_item t ≡ true = (and_parts (is_item t) true h).0 in
    ap (λ parts. filter is_filled (map trimmed parts)) (slice_split_none is_comma t (commas_of t good)) ∙ kept_first t [] good
joined_read (t ∷ u ∷ us) h =
    let good : is_item t ≡ true = (and_parts (is_item t) (list_all is_item (u ∷ us)) h).0 in
    ap (λ parts. filter is_filled (map trimmed parts)) (slice_split_at is_comma t 44 (join_with_byte 44 (u ∷ us)) (commas_of t good) refl)
    ∙ kept_first t (slice_split is_comma (join_with_byte 44 (u ∷ us))) good
    ∙ ap (λ xs. t ∷ xs) (joined_read (u ∷ us) (and_parts (is_item t) (list_all is_item (u ∷ us)) h).1)
