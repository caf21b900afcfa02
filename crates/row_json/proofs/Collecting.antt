-- The text of a row, that of a row under its key, and that of a collection, by their tokens.
use Rattle.std.proofs.Common.{◌≡◌, ◌++◌, ℕ, List, [], ◌∷◌, Option, ap, flat_map, map, sym, ◌∙◌}
use Rattle.json.specs.Print.{print}
use Rattle.json.specs.Token.{Token, begin_array, begin_object, end_array, end_object, key}
use Rattle.serde_json.proofs.Texts.{print-outline}
use Rattle.serde_json.specs.Data.{Data, array, no_members, object, put}
use Rattle.serde_json.specs.View.{items_of}
use Rattle.serde_json.specs.Written.{compact_text}
use Rattle.roster_values.specs.declared.kind.Kind.{Kind}
use Rattle.roster_values.specs.Kinds.{plural_of, single_of}
use Rattle.roster_types.specs.Records.{Record}
use Rattle.row_json.specs.Json.{collection_text, row_data, row_text, single_text}
use Rattle.row_json.specs.Tokens.{data_tokens}
use Rattle.row_json.proofs.TokenLaws.{array_tokens}

printed : (d : Data) (ts : List Token) (text : List ℕ) → text ≡ print ts → ts ≡ data_tokens d → text ≡ compact_text d
printed d ts text e is = e ∙ ap print is ∙ print-outline d

pub row-text : (only : Option (List (List ℕ))) (r : Record) (ts : List Token) (text : List ℕ) → text ≡ print ts → ts ≡ data_tokens (row_data only r) → text ≡ row_text only r
unfolding row_text
row-text only r = printed (row_data only r)

pub single-text : (only : Option (List (List ℕ))) (r : Record) (ts : List Token) (text : List ℕ) → text ≡ print ts
    → ts ≡ (begin_object ∷ key (single_of r.kind) ∷ [] ++ data_tokens (row_data only r)) ++ end_object ∷ [] → text ≡ single_text only r
unfolding single_text
single-text only r = printed (object (put (single_of r.kind) (row_data only r) no_members))

pub collection-text : (only : Option (List (List ℕ))) (kind : Kind) (rs : List Record) (ts : List Token) (text : List ℕ) → text ≡ print ts
    → ts ≡ ((begin_object ∷ key (plural_of kind) ∷ begin_array ∷ [] ++ flat_map (λ r. data_tokens (row_data only r)) rs) ++ end_array ∷ []) ++ end_object ∷ [] → text ≡ collection_text only kind rs
unfolding collection_text
collection-text only kind rs ts text e is = printed (object (put (plural_of kind) (array (items_of (map (row_data only) rs))) no_members)) ts text e (is ∙ ap (λ (t : List Token). begin_object ∷ key (plural_of kind) ∷ (t ++ end_object ∷ [])) (sym (array_tokens (row_data only) rs)))
