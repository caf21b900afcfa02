-- A part of a list, made of items that there may be.
use Rattle.std.proofs.Common.{◌≡◌, ℕ, ◌+◌, List, ◌++◌, length, Option, None, Some, arith}
use Rattle.std.specs.Option.{option_to_list}
use Rattle.delta_parts.specs.Parts.{count_on, with_option}
use Rattle.row_walks.proofs.Parting.{Parts, part_on}

-- one item of the list further, or none
pub part_turn : {A : Type 0} (limit offset before : ℕ) (o : Option A) (found left whole : List A) → Parts limit offset before found (option_to_list o ++ left) whole → Parts limit offset (count_on before o) (with_option limit offset before o found) left whole
part_turn limit offset before None found left whole so = so
part_turn limit offset before (Some item) found left whole so = part_on limit offset before item found left whole so

-- how many there are in all
pub count_turn : {A : Type 0} (before : ℕ) (o : Option A) (left : List A) (n : ℕ) → before + length (option_to_list o ++ left) ≡ n → count_on before o + length left ≡ n
count_turn before None left n so = so
count_turn before (Some item) left n so = omega arith
