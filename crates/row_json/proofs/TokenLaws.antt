-- The tokens of arrays and of metadata.
use Rattle.std.proofs.Common.{◌≡◌, ◌++◌, ◌==◌, ℕ, Bool, true, false, List, [], ◌∷◌, Option, codes, flat_map, length}
use Rattle.std.proofs.Common.{map, if◌then◌else◌, refl, sym, arith, true≢false, ap, ◌∙◌, append_assoc}
use Rattle.std.proofs.lemmas.Bool.Decides.{nat_tests}
use Rattle.json.specs.Token.{Token, begin_array, begin_object, end_array, end_object, key}
use Rattle.json.specs.Token as token
use Rattle.json.specs.Tree.{items_tokens, members_tokens}
use Rattle.serde_json.specs.Data.{Data, array}
use Rattle.serde_json.specs.View.{items_of}
use Rattle.serde_json.specs.Written.{items_outline, members_outline}
use Rattle.roster_types.specs.declared.metadata.Entry.{Entry}
use Rattle.roster_types.specs.Records.{IsMetadata}
use Rattle.row_json.specs.Tokens.{data_tokens, entry_tokens, is_chosen, member_tokens, metadata_data, slot_tokens}
use Rattle.row_json.proofs.RowBack.{entries-in-turn, members_of}

-- tokens that were written one after another
pub three_parts : {A : Type 0} (a b c d x y z : List A) → b ≡ a ++ x → c ≡ b ++ y → d ≡ c ++ z → d ≡ a ++ (x ++ (y ++ z))
three_parts a b c d x y z e f g =
    g ∙ ap (λ (t : List _). t ++ z) (f ∙ ap (λ (t : List _). t ++ y) e) ∙ append_assoc (a ++ x) y z ∙ append_assoc a x (y ++ z)

items-tokens : {A : Type 0} (f : A → Data) (xs : List A) → items_tokens (items_outline (items_of (map f xs))) ≡ flat_map (λ x. data_tokens (f x)) xs ++ end_array ∷ []
items-tokens f [] = refl
items-tokens f (x ∷ xs) =
    ap (λ (ts : List Token). data_tokens (f x) ++ ts) (items-tokens f xs) ∙ sym (append_assoc (data_tokens (f x)) (flat_map (λ x. data_tokens (f x)) xs) (end_array ∷ []))

-- an array's tokens are those of its items, one after another
pub array_tokens : {A : Type 0} (f : A → Data) (xs : List A) → data_tokens (array (items_of (map f xs))) ≡ begin_array ∷ (flat_map (λ x. data_tokens (f x)) xs ++ end_array ∷ [])
array_tokens f xs = ap (λ (ts : List Token). begin_array ∷ ts) (items-tokens f xs)

entries-tokens : (es : List Entry) → members_tokens (members_outline (members_of es)) ≡ flat_map entry_tokens es ++ end_object ∷ []
unfolding members_of
entries-tokens [] = refl
entries-tokens (e ∷ es) = ap (λ (ts : List Token). key e.key ∷ token.string e.text ∷ ts) (entries-tokens es)

metadata-tokens : (e : Entry) (es : List Entry) → IsMetadata (e ∷ es)
    → member_tokens (codes "metadata") (metadata_data (e ∷ es)) ≡ key (codes "metadata") ∷ begin_object ∷ (flat_map entry_tokens (e ∷ es) ++ end_object ∷ [])
metadata-tokens e es m =
    ap (λ (ts : List Token). key (codes "metadata") ∷ begin_object ∷ ts) (ap (λ ms. members_tokens (members_outline ms)) (entries-in-turn (e ∷ es) m.rise) ∙ entries-tokens (e ∷ es))

-- a member that the choice leaves out has no tokens
pub left_out : (only : Option (List (List ℕ))) (name : List ℕ) (o : Option Data) → is_chosen only name ≡ false → slot_tokens only (name, o) ≡ []
unfolding slot_tokens
left_out only name o h = rw h refl

not_empty : (e : Entry) (es : List Entry) → (length (e ∷ es) == 0) ≡ false
not_empty e es = grind (arith, nat_tests)

-- nor has empty metadata
pub no_metadata : (only : Option (List (List ℕ))) (es : List Entry) → (length es == 0) ≡ true → slot_tokens only (codes "metadata", metadata_data es) ≡ []
unfolding slot_tokens
no_metadata only [] h = by (is_chosen only (codes "metadata")) []
  where
    by : (b : Bool) (none : List Token) → (if b then none else none) ≡ none
    by true none = refl
    by false none = refl
no_metadata only (e ∷ es) h = absurd (true≢false (sym h ∙ not_empty e es))

-- the tokens of other metadata are those of its entries in their order
pub some_metadata : (only : Option (List (List ℕ))) (es : List Entry) → (length es == 0) ≡ false → is_chosen only (codes "metadata") ≡ true → IsMetadata es
    → slot_tokens only (codes "metadata", metadata_data es) ≡ key (codes "metadata") ∷ begin_object ∷ (flat_map entry_tokens es ++ end_object ∷ [])
unfolding slot_tokens
some_metadata only [] h chosen m = cc h
some_metadata only (e ∷ es) h chosen m = rw chosen (metadata-tokens e es m)
