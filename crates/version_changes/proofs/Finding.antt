-- What is found in a list, and what each of its items meets.
use Rattle.std.proofs.Common.{◌≡◌, ℕ, Bool, true, false, cond, List, [], ◌∷◌, Some, bytes_eq, find, refl, sym, subst}
use Rattle.std.proofs.lemmas.Bool.Decides.{same_from_decides}
use Rattle.std.proofs.lemmas.Slice.Eq.{bytes_eq-Decides}
use Rattle.std.specs.List.{AllByRecursion}
pub use Rattle.version_core.proofs.PartsLemmas.{all_both as all_two}
pub use Rattle.version_core.proofs.RoomLemmas.{all_weaken as all_each}

pub same_text : (xs ys : List ℕ) → bytes_eq xs ys ≡ true → xs ≡ ys
same_text xs ys e = (bytes_eq-Decides xs ys).0 e

pub bytes_flip : (x y : List ℕ) → bytes_eq x y ≡ bytes_eq y x
bytes_flip x y =
    let back = bytes_eq-Decides y x in
    same_from_decides (bytes_eq x y) (bytes_eq y x) (bytes_eq-Decides x y) ((λ t. sym (back.0 t)), (λ e. back.1 (sym e)))

-- what is found passes, and meets what all meet
pub found_passes : {X : Type 0} (p : X → Bool) (xs : List X) (x : X) → find p xs ≡ Some x → p x ≡ true
found_passes p [] x e = cc
found_passes p (y ∷ ys) x e =
    elim (p y) as (λ b. p y ≡ b → cond b (Some y) (find p ys) ≡ Some x → p x ≡ true) [
      | true ↦ λ here is. let same : y ≡ x = cc in subst (λ z. p z ≡ true) same here
      | false ↦ λ _ later. found_passes p ys x later
    ] refl e

pub found_meets : {X : Type 0} (P : X → Type 0) (p : X → Bool) (xs : List X) (x : X) → AllByRecursion P xs → find p xs ≡ Some x → P x
found_meets P p [] x all e = cc
found_meets P p (y ∷ ys) x all e =
    elim (p y) as (λ b. cond b (Some y) (find p ys) ≡ Some x → P x) [
      | true ↦ λ is. let same : y ≡ x = cc in subst P same all.0
      | false ↦ λ later. found_meets P p ys x all.1 later
    ] e
