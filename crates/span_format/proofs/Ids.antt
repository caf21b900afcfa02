-- No id has a 0.
use Rattle.std.proofs.Common.{◌≡◌, ◌<◌, ℕ, zero, suc, List, [], ◌∷◌, true, length, arith}
use Rattle.std.specs.Prelude.{nat_le, nat_lt, ◌&&◌}
use Rattle.std.specs.List.{list_all}
use Rattle.std.proofs.lemmas.Bool.{and_parts}
use Rattle.roster_texts.specs.Texts.{has_plain_ends, is_id, is_id_byte}
use Rattle.hub_format.specs.Pieces.{HasNoZero}

positive : (b : ℕ) → is_id_byte b ≡ true → 0 < b
positive zero good = absurd cc
positive (suc b) good = omega arith

all_positive : (bytes : List ℕ) → list_all is_id_byte bytes ≡ true → HasNoZero bytes
all_positive [] good = tt
all_positive (b ∷ bytes) good =
    let parts = and_parts (is_id_byte b) (list_all is_id_byte bytes) good in
    (positive b parts.0, all_positive bytes parts.1)

pub id_has_no_zero : (id : List ℕ) → is_id id ≡ true → HasNoZero id
id_has_no_zero id good =
    let some = and_parts (nat_lt 0 (length id)) (nat_le (length id) 255 && (list_all is_id_byte id && has_plain_ends id)) good in
    let short = and_parts (nat_le (length id) 255) (list_all is_id_byte id && has_plain_ends id) some.1 in
    let bytes = and_parts (list_all is_id_byte id) (has_plain_ends id) short.1 in
    all_positive id bytes.0
