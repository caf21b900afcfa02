-- Items that go behind another prefix.
use Rattle.std.proofs.Common.{◌≡◌, ◌+◌, ◌<◌, ℕ, List, [], ◌∷◌, ◌++◌, append_assoc, get_or, length, map, ap, take, ◌∙◌}
use Rattle.std.proofs.lemmas.List.{take_more}
use Rattle.item_maps.specs.Edits.{entry_of}
use Rattle.item_maps.specs.declared.item.Edit.{Edit}
use Rattle.item_maps.specs.declared.item.Item.{Item}
use Rattle.version_core.proofs.RoomLemmas.{map_push}
use Rattle.hub_format.specs.Edits.{put_at, puts}
use Rattle.hub_format.specs.Moves.{all_moved, moved_to}

pub more_moved : (area : ℕ) (prefix : List ℕ) (front edits : List Edit) (items : List Item) (i : ℕ) (item : Item) (edit : Edit) → edits ≡ front ++ puts area (all_moved prefix (map entry_of (take i items))) → i < length items
    → item ≡ get_or items i item → edit ≡ put_at area (moved_to prefix (entry_of item)) → edits ++ edit ∷ [] ≡ front ++ puts area (all_moved prefix (map entry_of (take (i + 1) items)))
more_moved area prefix front edits items i item edit so_far within is here =
    let taken = take i items in
    rw (take_more items i item within, ← is, map_push entry_of taken item, map_push (moved_to prefix) (map entry_of taken) (entry_of item), map_push (put_at area) (all_moved prefix (map entry_of taken)) (moved_to prefix (entry_of item)), so_far, here)
    (append_assoc front (puts area (all_moved prefix (map entry_of taken))) (put_at area (moved_to prefix (entry_of item)) ∷ []))

-- edits that were added one after another
pub pushed_thrice : (old one two three : List Edit) (a b c d e f : Edit) → one ≡ old ++ a ∷ [] → two ≡ one ++ b ∷ [] → three ≡ two ++ c ∷ [] → a ≡ d → b ≡ e → c ≡ f → three ≡ old ++ d ∷ e ∷ f ∷ []
pushed_thrice old one two three a b c d e f first second third is_a is_b is_c =
    third ∙ ap (λ es. es ++ c ∷ []) (second ∙ ap (λ es. es ++ b ∷ []) first) ∙ append_assoc (old ++ a ∷ []) (b ∷ []) (c ∷ []) ∙ append_assoc old (a ∷ []) (b ∷ c ∷ [])
    ∙ (λ i. old ++ is_a i ∷ is_b i ∷ is_c i ∷ [])

pub pushed_parts : (old one two three four rows grants clears : List Edit) (a b : Edit) → one ≡ old ++ a ∷ [] → a ≡ b → two ≡ one ++ rows → three ≡ two ++ grants → four ≡ three ++ clears → four ≡ old ++ (b ∷ rows ++ grants ++ clears)
pushed_parts old one two three four rows grants clears a b first is second third fourth =
    fourth ∙ ap (λ es. es ++ clears) (third ∙ ap (λ es. es ++ grants) (second ∙ ap (λ es. es ++ rows) (first ∙ ap (λ e. old ++ e ∷ []) is) ∙ append_assoc old (b ∷ []) rows) ∙ append_assoc old (b ∷ rows) grants)
    ∙ append_assoc old (b ∷ rows ++ grants) clears
