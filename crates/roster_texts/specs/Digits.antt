-- Numbers written in digits.
use Rattle.std.specs.Prelude.{ℕ, ℤ, pos, neg_ℤ, ◌+◌, ◌-◌, ◌*◌, ◌/◌, ◌%◌, ◌&&◌, Bool, true, false, List, [], ◌∷◌, ◌++◌}
use Rattle.std.specs.Prelude.{Option, Some, None, fold, nat_le, if◌then◌else◌}
use Rattle.std.specs.List.{list_all}
use Rattle.roster_texts.specs.Signs.{digit_nine, digit_zero}

-- a digit of ASCII
abbrev pub is_digit : ℕ → Bool
is_digit b = nat_le digit_zero b && nat_le b digit_nine

-- the number that a run of digits writes
abbrev pub decimal_value : List ℕ → ℕ
decimal_value t = fold (λ n b. n * 10 + (b - digit_zero)) 0 t

-- the same, where the text is digits alone
unfoldable pub digits_value : List ℕ → Option ℕ
digits_value t = if list_all is_digit t then Some (decimal_value t) else None

-- from one reading to the next, where the first gave something
infixl 10 ◌>>=◌
abbrev pub ◌>>=◌ : {A B : Type 0} → Option A → (A → Option B) → Option B
(Some x) >>= f = f x
None >>= f = None

-- a number in two digits
abbrev pub two : ℕ → List ℕ
two n = (digit_zero + n / 10) ∷ (digit_zero + n % 10) ∷ []

-- a number in three digits
abbrev pub three : ℕ → List ℕ
three n = (digit_zero + n / 100) ∷ two (n % 100)

-- a number in four digits
abbrev pub four : ℕ → List ℕ
four n = two (n / 100) ++ two (n % 100)

-- the number with this absolute value: `true` stands for a minus sign
abbrev pub signed : Bool → ℕ → ℤ
signed true n = neg_ℤ (pos n)
signed false n = pos n
