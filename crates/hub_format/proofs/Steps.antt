-- One step more of a loop over a list.
use Rattle.std.proofs.Common.{◌≡◌, ◌+◌, ◌<◌, ℕ, List, [], ◌∷◌, ◌++◌, append-nil, append_assoc, get_or, length, map, sym}
use Rattle.std.proofs.Common.{ap, take, ◌∙◌}
use Rattle.std.proofs.lemmas.List.{take_more}
use Rattle.std.specs.List.{AllByRecursion}
use Rattle.item_maps.specs.declared.item.Edit.{Edit}
use Rattle.version_core.proofs.RoomLemmas.{map_push}
use Rattle.version_core.proofs.VersionLemmas.{AllByRecursion-push}
use Rattle.hub_format.specs.Edits.{put_at, puts}
use Rattle.hub_format.specs.Format.{Entry}
use Rattle.hub_format.specs.Pieces.{all_sized, sized}

pub more_puts : {X : Type 0} (area : ℕ) (f : X → Entry) (front edits : List Edit) (xs : List X) (i : ℕ) (x : X) (edit : Edit) → edits ≡ front ++ puts area (map f (take i xs)) → i < length xs
    → x ≡ get_or xs i x → edit ≡ put_at area (f x) → edits ++ edit ∷ [] ≡ front ++ puts area (map f (take (i + 1) xs))
more_puts area f front edits xs i x edit so_far within is here =
    rw (take_more xs i x within, ← is, map_push f (take i xs) x, map_push (put_at area) (map f (take i xs)) (f x), so_far, here) (append_assoc front (puts area (map f (take i xs))) (put_at area (f x) ∷ []))

pub more_all : {X : Type 0} (P : X → Type 0) (xs : List X) (i : ℕ) (x : X) → AllByRecursion P (take i xs) → i < length xs → x ≡ get_or xs i x → P x → AllByRecursion P (take (i + 1) xs)
more_all P xs i x all within is here = rw (take_more xs i x within, ← is) (AllByRecursion-push P (take i xs) x all here)

pub all_sized-push : (texts : List (List ℕ)) (text : List ℕ) → all_sized (texts ++ text ∷ []) ≡ all_sized texts ++ sized text
all_sized-push [] text = append-nil (sized text)
all_sized-push (first ∷ texts) text = ap (λ bytes. sized first ++ bytes) (all_sized-push texts text) ∙ sym (append_assoc (sized first) (all_sized texts) (sized text))

pub more_sized : (front bytes : List ℕ) (xs : List (List ℕ)) (i : ℕ) (x : List ℕ) → bytes ≡ front ++ all_sized (take i xs) → i < length xs → x ≡ get_or xs i x → bytes ++ sized x ≡ front ++ all_sized (take (i + 1) xs)
more_sized front bytes xs i x so_far within is =
    rw (take_more xs i x within, ← is, all_sized-push (take i xs) x, so_far) (append_assoc front (all_sized (take i xs)) (sized x))
