-- A stage, or a token, whose item is another's is that one.
use Rattle.std.proofs.Common.{◌≡◌, ◌<◌, ◌≤◌, ℕ, length, arith, ◌∷◌, [], List, get_or, map, None, Option, Some, sym, ap}
use Rattle.std.proofs.Common.{◌∙◌}
use Rattle.std.specs.Prelude.{IfSome, option_map}
use Rattle.keeper_memory.specs.copy.Copies.{IsStage, Stage}
use Rattle.keeper_memory.specs.copy.States.{state_of}
use Rattle.keeper_memory.specs.declared.copy.state.StageState.{StageState}
use Rattle.hub_format.specs.Format.{Entry}
use Rattle.item_maps.specs.Edits.{entry_of}
use Rattle.item_maps.specs.declared.item.Item.{Item}
use Rattle.copy_format.specs.Bodies.{stage_body}
use Rattle.copy_format.specs.Format.{FitsSmall, FitsStage, stage_entries, token_entries}
use Rattle.copy_format.proofs.Decoding.{stage_back}
use Rattle.copy_format.proofs.CopyListings.{small_fits}

pub one_item : (items : List Item) (item : Item) → 1 ≤ length items → length items < 2 → item ≡ get_or items 0 item → map entry_of items ≡ entry_of item ∷ []
one_item [] item some few is = absurd (omega arith)
one_item (x ∷ []) item some few is = ap (λ i. entry_of i ∷ []) (sym is)
one_item (x ∷ y ∷ items) item some few is = absurd (omega arith)

pub stage_found : (o : Option Stage) (items : List Item) (item : Item) (stage : StageState) → IfSome o IsStage → IfSome o FitsStage → map entry_of items ≡ stage_entries o → map entry_of items ≡ entry_of item ∷ []
    → entry_of item ≡ ([], stage_body stage) → FitsSmall stage → Some stage ≡ option_map state_of o
stage_found None items item stage is fit told one here small = let some : entry_of item ∷ [] ≡ [] = sym one ∙ told in absurd cc
stage_found (Some s) items item stage is fit told one here small =
    let entries : ([], stage_body stage) ∷ [] ≡ ([], stage_body (state_of s)) ∷ [] = ap (λ (e : Entry). e ∷ []) (sym here) ∙ sym one ∙ told in
    ap Some (stage_back stage (state_of s) small (small_fits s is.pin fit) (ap (λ (es : List Entry). (get_or es 0 ([], [])).1) entries))

pub token_found : (o : Option (List ℕ)) (items : List Item) (item : Item) (token : List ℕ) → map entry_of items ≡ token_entries o → map entry_of items ≡ entry_of item ∷ [] → entry_of item ≡ ([], token) → Some token ≡ o
token_found None items item token told one here = let some : entry_of item ∷ [] ≡ [] = sym one ∙ told in absurd cc
token_found (Some other) items item token told one here =
    let entries : ([], token) ∷ [] ≡ ([], other) ∷ [] = ap (λ (e : Entry). e ∷ []) (sym here) ∙ sym one ∙ told in
    ap (λ (es : List Entry). Some (get_or es 0 ([], [])).1) entries
