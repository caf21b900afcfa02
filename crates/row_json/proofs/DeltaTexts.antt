-- The text of what differs, and what is read of it.
use Rattle.std.proofs.Common.{◌≡◌, ◌++◌, ℕ, false, List, [], ◌∷◌, append_assoc, ap, refl, if◌then◌else◌, ◌∙◌}
use Rattle.std.specs.Cmp.Lexicographic.{slice_cmp}
use Rattle.std.specs.Ordering.{is_eq, is_lt, match_ordering, nat_cmp}
use Rattle.std.specs.declared.cmp.Ordering.TheVariants.{Less, Equal, Greater}
use Rattle.json.specs.Token.{Token, begin_array, begin_object, end_array, end_object, key}
use Rattle.row_json.proofs.TokenLaws.{three_parts}
use Rattle.serde_json.specs.Data.{Data, member, no_members, object}
use Rattle.roster_types.specs.Records.{Record}
use Rattle.roster_values.specs.Kinds.{plural_of}
use Rattle.roster_values.specs.declared.kind.Kind.{Kind}
use Rattle.roster_values.specs.declared.kind.Kind.TheVariants.{Orgs}
use Rattle.row_json.specs.Deltas.{delta_data, gone_data, gone_tokens, gone_word, member_tokens, rows_data, rows_tokens}
use Rattle.row_json.specs.Tokens.{data_tokens}

two_members : (name : List ℕ) (d : Data) (other : List ℕ) (e : Data)
    → begin_object ∷ (((key name ∷ data_tokens d) ++ (key other ∷ data_tokens e)) ++ end_object ∷ []) ≡ data_tokens (object (member name d (member other e no_members)))
two_members name d other e =
    ap (λ (ts : List Token). begin_object ∷ key name ∷ ts) (append_assoc (data_tokens d) (key other ∷ data_tokens e) (end_object ∷ []))

-- no kind's word is that of the ids
pub apart : (kind : Kind) → is_eq (slice_cmp nat_cmp gone_word (plural_of kind)) ≡ false
apart Orgs = refl
apart kind = refl

-- the tokens of both members, in the order of their names, are those of the object
pub delta_tokens : (kind : Kind) (rows : List Record) (gone : List (List ℕ)) → begin_object ∷ (member_tokens kind rows gone ++ end_object ∷ []) ≡ data_tokens (delta_data kind rows gone)
unfolding delta_data
delta_tokens kind rows gone =
    let ids = gone_data gone in
    let put_rows = rows_data rows in
    elim (slice_cmp nat_cmp gone_word (plural_of kind)) as (λ o. is_eq o ≡ false
    → begin_object ∷ ((if is_lt o then gone_tokens gone ++ rows_tokens kind rows else rows_tokens kind rows ++ gone_tokens gone) ++ end_object ∷ [])
    ≡ data_tokens (object (match_ordering o (member gone_word ids (member (plural_of kind) put_rows no_members)) (member (plural_of kind) ids no_members) (member (plural_of kind) put_rows (member gone_word ids no_members))))) [
      | Less ↦ λ _. two_members gone_word ids (plural_of kind) put_rows
      | Equal ↦ λ impossible. cc
      | Greater ↦ λ _. two_members (plural_of kind) put_rows gone_word ids
    ] (apart kind)

-- the tokens of a member that is an array, written one after another
pub member_parts : (a b c d e : List Token) (name : List ℕ) (items : List Token) → b ≡ a ++ key name ∷ [] → c ≡ b ++ begin_array ∷ [] → d ≡ c ++ items → e ≡ d ++ end_array ∷ []
    → e ≡ a ++ key name ∷ begin_array ∷ (items ++ end_array ∷ [])
member_parts a b c d e name items named opened within closed =
    three_parts b c d e (begin_array ∷ []) items (end_array ∷ []) opened within closed
    ∙ ap (λ (ts : List Token). ts ++ begin_array ∷ (items ++ end_array ∷ [])) named
    ∙ append_assoc a (key name ∷ []) (begin_array ∷ (items ++ end_array ∷ []))
