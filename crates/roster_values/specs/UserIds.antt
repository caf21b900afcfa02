-- User ids: a type and an identifier.
use Rattle.std.specs.Prelude.{ℕ, ◌-◌, ◌==◌, ◌&&◌, not, Bool, List, Option, Some, None, length, take, drop, nat_lt}
use Rattle.std.specs.Prelude.{nat_le, slice_index, if◌then◌else◌}
use Rattle.std.specs.List.{list_all}
use Rattle.roster_texts.specs.Signs.{close_brace, colon, comma, open_brace}
use Rattle.roster_texts.specs.Texts.{has_plain_ends}

-- what a user id says: whose it is, as "LDAP", and what that system calls the user
pub record UserIdParts : Type 0 where
  pub form : List ℕ
  pub identifier : List ℕ

-- no comma and no brace
abbrev pub is_identifier_byte : ℕ → Bool
is_identifier_byte b = not (b == comma) && (not (b == open_brace) && not (b == close_brace))

-- no comma, no brace and no colon
abbrev pub is_type_byte : ℕ → Bool
is_type_byte b = not (b == colon) && is_identifier_byte b

-- what the type of a user id may be
abbrev pub is_type : List ℕ → Bool
is_type t = nat_lt 0 (length t) && (list_all is_type_byte t && has_plain_ends t)

-- what its identifier may be
abbrev pub is_identifier : List ℕ → Bool
is_identifier t = nat_lt 0 (length t) && (list_all is_identifier_byte t && has_plain_ends t)

-- what a user id may be
abbrev pub is_user_id : List ℕ → List ℕ → Bool
is_user_id form identifier = is_type form && is_identifier identifier

-- the user id of a type and an identifier, if they may be one
unfoldable pub user_id_from : List ℕ → List ℕ → Option UserIdParts
user_id_from form identifier =
    if is_user_id form identifier then Some (record { form = form; identifier = identifier }) else None

-- what stands between the first and the last byte
abbrev pub inner : List ℕ → List ℕ
inner t = take (length t - 1 - 1) (drop 1 t)

-- a text between braces
abbrev pub is_braced : List ℕ → Bool
is_braced t = nat_le 2 (length t) && ((slice_index t 0 == open_brace) && (slice_index t (length t - 1) == close_brace))
