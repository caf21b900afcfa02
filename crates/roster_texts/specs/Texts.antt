-- The checked texts: ids, names and tokens.
use Rattle.std.specs.Prelude.{ℕ, ◌==◌, ◌&&◌, ◌||◌, ◌-◌, not, Bool, List, length, drop, take_while, nat_lt, nat_le}
use Rattle.std.specs.Prelude.{slice_index}
use Rattle.std.specs.Char.{is_ascii_alphanumeric}
use Rattle.std.specs.List.{list_all}
use Rattle.roster_texts.specs.Signs.{comma, delete, dot, equals_sign, hyphen, plus_sign, slash, space, tilde}
use Rattle.roster_texts.specs.Signs.{underscore}

-- no control character of ASCII and no comma
abbrev pub is_id_byte : ℕ → Bool
is_id_byte b = nat_le space b && not (b == delete) && not (b == comma)

-- neither the first nor the last byte is a space
abbrev pub has_plain_ends : List ℕ → Bool
has_plain_ends t = not (slice_index t 0 == space) && not (slice_index t (length t - 1) == space)

-- 1 to 255 bytes that an id may have, with plain ends
abbrev pub is_id : List ℕ → Bool
is_id t = nat_lt 0 (length t) && (nat_le (length t) 255 && (list_all is_id_byte t && has_plain_ends t))

-- a letter or a digit of ASCII, '.', '_' or '-'
abbrev pub is_name_byte : ℕ → Bool
is_name_byte b = is_ascii_alphanumeric b || (b == dot) || (b == underscore) || (b == hyphen)

-- the most bytes of a name
abbrev pub longest_name : ℕ
longest_name = 64

-- 1 to 64 bytes that a name may have
abbrev pub is_name : List ℕ → Bool
is_name t = nat_lt 0 (length t) && (nat_le (length t) longest_name && list_all is_name_byte t)

-- a letter or a digit of ASCII, or one of "-._~+/"
abbrev pub is_token_byte : ℕ → Bool
is_token_byte b =
    is_ascii_alphanumeric b
    || (b == hyphen) || (b == dot) || (b == underscore) || (b == tilde) || (b == plus_sign) || (b == slash)

-- what stands before the padding
abbrev pub token_body : List ℕ → List ℕ
token_body t = take_while is_token_byte t

-- nothing but '='
abbrev pub is_padding : List ℕ → Bool
is_padding t = list_all (λ b. b == equals_sign) t

-- at least one byte of a token's body, then any padding, at most 256 bytes in all
abbrev pub is_token : List ℕ → Bool
is_token t =
    nat_lt 0 (length (token_body t)) && (nat_le (length t) 256 && is_padding (drop (length (token_body t)) t))
