-- Numbers, years and flags as texts.
use Rattle.std.specs.Prelude.{bytes_eq, codes, ℕ, ◌==◌, ◌&&◌, ◌||◌, not, Bool, true, false, List, Result, Ok, Err, ℤ}
use Rattle.std.specs.Prelude.{pos, negsuc, int_le, length, nat_le, take, drop, slice_index, if◌then◌else◌}
use Rattle.std.specs.Str.{str_to_ascii_lowercase}
use Rattle.std.specs.List.{list_all, prefix_len}
use Rattle.roster_base.specs.Reading.{◌>>=◌}
use Rattle.roster_texts.specs.declared.fault.ValueFault.{ValueFault}
use Rattle.roster_texts.specs.declared.fault.ValueFault.TheVariants.{BadNumber, Fractional, NotInList}
use Rattle.roster_texts.specs.Digits.{decimal_value, is_digit, signed}
use Rattle.roster_texts.specs.Signs.{digit_zero, dot, hyphen}

-- a minus sign in front
abbrev pub is_negative : List ℕ → Bool
is_negative t = slice_index t 0 == hyphen

-- the text behind the minus sign, if there is one
abbrev pub without_sign : List ℕ → List ℕ
without_sign t = drop (if is_negative t then 1 else 0) t

-- the digits in front
abbrev pub first_digits : List ℕ → List ℕ
first_digits t = take (prefix_len is_digit t) t

-- what follows them
abbrev pub after_digits : List ℕ → List ℕ
after_digits t = drop (prefix_len is_digit t) t

-- nothing, or '.' and one or more digits
abbrev pub is_fraction : List ℕ → Bool
is_fraction t =
    (length t == 0) || ((slice_index t 0 == dot) && (nat_le 2 (length t) && list_all is_digit (drop 1 t)))

-- a fraction of zeros
abbrev pub is_zero_fraction : List ℕ → Bool
is_zero_fraction t = list_all (λ b. b == digit_zero) (drop 1 t)

-- 1 to 12 digits, and then perhaps a fraction
abbrev pub has_number_form : List ℕ → Bool
has_number_form t =
    nat_le 1 (prefix_len is_digit t) && (nat_le (prefix_len is_digit t) 12 && is_fraction (after_digits t))

-- the number that a text of that form writes: Fractional where the fraction is not zeros alone
unfoldable pub unsigned_of : List ℕ → Result ℕ ValueFault
unsigned_of t =
    if not (has_number_form t) then Err BadNumber
    else if not (is_zero_fraction (after_digits t)) then Err Fractional
    else Ok (decimal_value (first_digits t))

-- the same, perhaps after '-'
unfoldable pub number_of : List ℕ → Result ℤ ValueFault
number_of t = do
  n ← unsigned_of (without_sign t)
  Ok (signed (is_negative t) n)

-- a whole number of at most 12 digits
abbrev pub is_number : ℤ → Bool
is_number n = int_le (negsuc 999999999998) n && int_le n (pos 999999999999)

-- four digits
abbrev pub is_year : List ℕ → Bool
is_year t = (length t == 4) && list_all is_digit t

-- the year that four digits write
unfoldable pub year_of : List ℕ → Result ℕ ValueFault
year_of t = if is_year t then Ok (decimal_value t) else Err BadNumber

-- `true` or `false`, whatever the case of the letters
unfoldable pub flag_of : List ℕ → Result Bool ValueFault
flag_of t =
    if bytes_eq (str_to_ascii_lowercase t) (codes "true") then Ok true
    else if bytes_eq (str_to_ascii_lowercase t) (codes "false") then Ok false
    else Err NotInList
