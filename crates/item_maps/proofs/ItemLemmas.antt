-- The order of labels.
use Rattle.std.proofs.Common.{◌≡◌, ℕ, List, Ordering, Less, Equal, Greater, true, refl}
use Rattle.std.specs.FinMap.{nat_cmp-IsAntisymmetric, slice_cmp-IsAntisymmetric}
use Rattle.std.specs.Ordering.{eq_by_cmp, is_eq}
use Rattle.item_maps.specs.Items.{bytes_cmp}

pub same_bytes : (a b : List ℕ) → bytes_cmp a b ≡ Equal → a ≡ b
same_bytes = slice_cmp-IsAntisymmetric nat_cmp-IsAntisymmetric

pub equal_is : (o : Ordering) → is_eq o ≡ true → o ≡ Equal
equal_is Less h = absurd cc
equal_is Equal h = refl
equal_is Greater h = absurd cc

-- labels that are tied are equal
pub tied_same : (a b : List ℕ) → eq_by_cmp bytes_cmp a b ≡ true → a ≡ b
tied_same a b tie = same_bytes a b (equal_is (bytes_cmp a b) tie)
