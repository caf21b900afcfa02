-- Texts compared without regard to the case of their letters, where they stand.
use Rattle.std.proofs.Common.{◌≡◌, ◌∙◌, ◌↔◌, ℕ, Bool, true, List, length, take, sym, ap}
use Rattle.std.proofs.lemmas.List.{length-map, take-map}
use Rattle.std.proofs.lemmas.Slice.Eq.{bytes_eq-Decides}
use Rattle.std.specs.Char.{to_ascii_lowercase}
use Rattle.std.specs.Cmp.{both_ways}
use Rattle.std.specs.List.{starts_with}
use Rattle.std.specs.Prelude.{nat_eq}
use Rattle.filter_grammar.specs.rows.Filters.{folded}

front : (part text : List ℕ) → take (length (folded part)) (folded text) ≡ folded (take (length part) text)
front part text = ap (λ n. take n (folded text)) (length-map part to_ascii_lowercase) ∙ take-map to_ascii_lowercase (length part) text

-- a text begins with a part where its first bytes are the part
pub begins_so : (part text : List ℕ) (r : Bool) → ((r ≡ true) ↔ (folded (take (length part) text) ≡ folded part)) → r ≡ starts_with nat_eq (folded text) (folded part)
begins_so part text r h =
    let same = bytes_eq-Decides (folded part) (take (length (folded part)) (folded text)) in
    both_ways r (starts_with nat_eq (folded text) (folded part))
    (λ yes. same.1 (sym (front part text ∙ h.0 yes)))
    (λ yes. h.1 (sym (same.0 yes ∙ front part text)))
