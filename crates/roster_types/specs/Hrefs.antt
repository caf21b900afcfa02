-- The path of a row.
use Rattle.std.specs.Prelude.{ℕ, ◌++◌, ◌==◌, ◌||◌, Bool, List, [], ◌∷◌, codes, if◌then◌else◌}
use Rattle.std.specs.Char.{is_ascii_alphanumeric}
use Rattle.std.specs.List.{flat_map}
use Rattle.percent_encoding.specs.Percent.{percent_encode_byte}
use Rattle.roster_texts.specs.Signs.{dot, hyphen, tilde, underscore}
use Rattle.roster_values.specs.declared.kind.Kind.{Kind}
use Rattle.roster_values.specs.Kinds.{collections_root, plural_of}

-- letters, digits and `-._~`
abbrev pub is_unreserved : ℕ → Bool
is_unreserved b = is_ascii_alphanumeric b || (b == hyphen) || (b == dot) || (b == underscore) || (b == tilde)

-- any other byte stands as `%` and two upper-case hexadecimal digits
abbrev pub encoded_byte : ℕ → List ℕ
encoded_byte b = if is_unreserved b then b ∷ [] else percent_encode_byte b

-- where a row of a kind is found
unfoldable pub href : Kind → List ℕ → List ℕ
href kind id = collections_root ++ plural_of kind ++ codes "/" ++ flat_map encoded_byte id
