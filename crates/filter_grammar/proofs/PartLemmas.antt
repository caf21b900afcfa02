-- A text that stands somewhere in another.
use Rattle.std.proofs.Common.{◌≡◌, ℕ, Bool, true, ⊎_elim, List, [], ◌∷◌, ◌++◌, drop, length, refl, sym, ap, ◌↔◌}
use Rattle.std.specs.Prelude.{nat_eq}
use Rattle.std.specs.Cmp.{both_ways}
use Rattle.std.specs.List.{starts_with}
use Rattle.std.specs.Str.Iter.{HasSubslice}
use Rattle.std.proofs.lemmas.Bool.{or_cases, or_left, or_right}
use Rattle.std.proofs.lemmas.Bool.Decides.{Decides-eqb}
use Rattle.std.proofs.lemmas.Slice.Eq.{starts_is}
use Rattle.filter_grammar.specs.rows.Filters.{occurs_in}

begins : (part text b : List ℕ) → text ≡ part ++ b → starts_with nat_eq text part ≡ true
begins part text b e = (starts_is Decides-eqb text part _ refl).1 b e

begun : (part text : List ℕ) → starts_with nat_eq text part ≡ true → HasSubslice text part
begun part text starts = ([], drop (length part) text, (starts_is Decides-eqb text part true (sym starts)).0 refl)

stands : (part text a b : List ℕ) → text ≡ a ++ (part ++ b) → occurs_in part text ≡ true
unfolding occurs_in
stands part [] [] b e = begins part [] b e
stands part [] (x ∷ a) b e = cc
stands part (c ∷ text) [] b e = or_left (starts_with nat_eq (c ∷ text) part) (occurs_in part text) (begins part (c ∷ text) b e)
stands part (c ∷ text) (x ∷ a) b e =
    let rest : text ≡ a ++ (part ++ b) = ap (drop 1) e in
    or_right (starts_with nat_eq (c ∷ text) part) (occurs_in part text) (stands part text a b rest)

further : (c : ℕ) (text part : List ℕ) → HasSubslice text part → HasSubslice (c ∷ text) part
further c text part h = (c ∷ h.0, h.1, ap (λ t. c ∷ t) h.2)

found : (part text : List ℕ) → occurs_in part text ≡ true → HasSubslice text part
unfolding occurs_in
found part [] yes_there = begun part [] yes_there
found part (c ∷ text) yes_there =
    ⊎_elim (begun part (c ∷ text)) (λ later. further c text part (found part text later)) (or_cases (starts_with nat_eq (c ∷ text) part) (occurs_in part text) yes_there)

-- what `contains` of std says
pub occurs_in_is : (part text : List ℕ) (r : Bool) → ((r ≡ true) ↔ HasSubslice text part) → r ≡ occurs_in part text
occurs_in_is part text r h =
    both_ways r (occurs_in part text) (λ contains. let there = h.0 contains in stands part text there.0 there.1 there.2) (λ there. h.1 (found part text there))
