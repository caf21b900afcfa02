-- The bytes of the characters that texts are made of.
use Rattle.std.specs.Prelude.{ℕ}

abbrev pub space : ℕ
space = 32

abbrev pub plus_sign : ℕ
plus_sign = 43

abbrev pub comma : ℕ
comma = 44

abbrev pub hyphen : ℕ
hyphen = 45

abbrev pub dot : ℕ
dot = 46

abbrev pub slash : ℕ
slash = 47

abbrev pub digit_zero : ℕ
digit_zero = 48

abbrev pub digit_nine : ℕ
digit_nine = 57

abbrev pub colon : ℕ
colon = 58

abbrev pub equals_sign : ℕ
equals_sign = 61

abbrev pub letter_t : ℕ
letter_t = 84

abbrev pub letter_z : ℕ
letter_z = 90

abbrev pub underscore : ℕ
underscore = 95

abbrev pub open_brace : ℕ
open_brace = 123

abbrev pub close_brace : ℕ
close_brace = 125

abbrev pub tilde : ℕ
tilde = 126

-- the control character that comes after all that can be printed
abbrev pub delete : ℕ
delete = 127
