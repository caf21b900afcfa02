-- A number that is written is read again.
use Rattle.std.proofs.Common.{◌≡◌, ◌<◌, ◌≤◌, ℕ, ◌+◌, ◌-◌, ◌*◌, ◌^◌, Bool, true, false, List, [], ◌∷◌, length, Some}
use Rattle.std.proofs.Common.{if◌then◌else◌, ◌==◌, nat_le, nat_lt, refl, sym, ap, ◌∙◌, subst, arith, get_or, take, drop}
use Rattle.std.proofs.Common.{zero, suc}
use Rattle.std.proofs.lemmas.Bool.{and_parts, le-ltb}
use Rattle.std.specs.Prelude.{codes, decimal, ◌&&◌, ◌++◌}
use Rattle.std.specs.List.{after_first, before_first, position_or_len, prefix_len}
use Rattle.std.proofs.Math.Seq.{drop-append-add, take-append_seam}
use Rattle.std.specs.Char.{is_ascii_digit, digit_value}
use Rattle.std.specs.Str.Parse.{AllDigits, digits_value_after}
use Rattle.std.proofs.lemmas.Fmt.{decimal_is_IsNumeral, first_decimal, length-decimal-le}
use Rattle.std.proofs.lemmas.Str.{digit_value_digit}
use Rattle.std.proofs.lemmas.Str.Parse.{digit_from_value}
use Rattle.std.proofs.lemmas.Bool.Decides.{nat_tests}
use Rattle.roster_texts.specs.Texts.{is_padding, is_token, is_token_byte, token_body}
use Rattle.http_wire.specs.Texts.{count_of, digits_after, digits_of, has_leading_zero, echo_of, is_dot, number_of}
use Rattle.http_wire.specs.Texts.{last_number, skip_spaces, token_of}

is_digit : (c : ℕ) → 48 ≤ c → c ≤ 57 → is_ascii_digit c ≡ true
is_digit c low high = grind (arith, nat_tests)

digits_read : (n : ℕ) (ds : List ℕ) → AllDigits 10 ds → digits_after n ds ≡ Some (digits_value_after 10 n ds)
digits_read n [] all = refl
digits_read n (c ∷ cs) all =
    let (low, high) = digit_from_value c all.0 in
    let value : c - 48 ≡ digit_value c = omega (arith, digit_value_digit c (low, high)) in
    rw (is_digit c low high)
    (subst (λ (k : ℕ). digits_after (n * 10 + k) cs ≡ Some (digits_value_after 10 (n * 10 + digit_value c) cs)) (sym value)
    (digits_read (n * 10 + digit_value c) cs all.1))

pub not_zero : (k : ℕ) → 0 < k → (k == 0) ≡ false
not_zero k some = grind (arith, nat_tests)

no_zero_first : (ds : List ℕ) → 48 < get_or ds 0 0 → has_leading_zero ds ≡ false
no_zero_first ds first = grind (arith, nat_tests)

-- 0 is written by itself, and any other number begins with another digit
no_leading_zero : (n : ℕ) → n < 2 ^ 64 → has_leading_zero (decimal n) ≡ false
no_leading_zero zero bound =
    let short : length (decimal 0) ≤ 1 = length-decimal-le 1 0 (omega arith) (omega arith) bound in rw (le-ltb 1 (length (decimal 0)) short) refl
no_leading_zero (suc n) bound = no_zero_first (decimal (suc n)) (first_decimal (suc n) (omega arith) bound)

pub digits_of_decimal : (n : ℕ) → n < 10 ^ 18 → digits_of (decimal n) ≡ Some n
unfolding digits_of
digits_of_decimal n small =
    let bound : n < 2 ^ 64 = omega arith in
    let (numeral, value) = decimal_is_IsNumeral n bound in
    let short : length (decimal n) ≤ 18 = length-decimal-le 18 n (omega arith) small bound in
    let whole : digits_after 0 (decimal n) ≡ Some n = digits_read 0 (decimal n) numeral.1 ∙ ap (λ (k : ℕ). Some k) value in
    simp (not_zero (length (decimal n)) numeral.0, le-ltb 18 (length (decimal n)) short) whole

-- a number from 0 to most
pub count_again : (most n : ℕ) → most < 10 ^ 18 → n ≤ most → count_of most (decimal n) ≡ Some n
unfolding count_of
count_again most n limit most_of =
    let small : n < 10 ^ 18 = omega arith in
    let bound : n < 2 ^ 64 = omega arith in
    simp (no_leading_zero n bound, digits_of_decimal n small, le-ltb most n most_of) refl

-- a number from 1 to most
pub number_again : (most n : ℕ) → most < 10 ^ 18 → 1 ≤ n → n ≤ most → number_of most (decimal n) ≡ Some n
unfolding number_of
number_again most n limit some most_of =
    simp (count_again most n limit most_of, not_zero n (omega arith)) refl

-- ---- two numbers with a dot between them

digit_no_dot : (c : ℕ) → 48 ≤ c → is_dot c ≡ false
digit_no_dot c low = grind (arith, nat_tests)

dot_place : (ds rest : List ℕ) → AllDigits 10 ds → position_or_len is_dot (ds ++ 46 ∷ rest) ≡ length ds
dot_place [] rest all = refl
dot_place (c ∷ cs) rest all =
    let (low, high) = digit_from_value c all.0 in
    rw (digit_no_dot c low) (omega (arith, dot_place cs rest all.1))

pub echo_again : (run count : ℕ) → 1 ≤ run → run ≤ last_number → 1 ≤ count → count ≤ 100 * last_number
    → echo_of (decimal run ++ 46 ∷ decimal count) ≡ Some (record { run = run; count = count })
unfolding echo_of
echo_again run count run_some run_most count_some count_most =
    let bound : run < 2 ^ 64 = omega arith in
    let (numeral, value) = decimal_is_IsNumeral run bound in
    let place = dot_place (decimal run) (decimal count) numeral.1 in
    let before : before_first is_dot (decimal run ++ 46 ∷ decimal count) ≡ decimal run =
    ap (λ (k : ℕ). take k (decimal run ++ 46 ∷ decimal count)) place ∙ take-append_seam (decimal run) (46 ∷ decimal count) in
    let behind : after_first is_dot (decimal run ++ 46 ∷ decimal count) ≡ decimal count =
    ap (λ (k : ℕ). drop (k + 1) (decimal run ++ 46 ∷ decimal count)) place ∙ drop-append-add (decimal run) (46 ∷ decimal count) 1 in
    simp (before, behind, number_again last_number run (omega arith) run_some run_most, number_again (100 * last_number) count (omega arith) count_some count_most) refl

-- ---- a token behind `Bearer `

space_is : (b : ℕ) → (b == 32) ≡ true → b ≡ 32
space_is b h = grind (arith, nat_tests)

space_is_none : is_token_byte 32 ≡ false
space_is_none = refl

no_space : (e : Bool) (b : ℕ) (bytes : List ℕ) → (b == 32) ≡ e → is_token_byte b ≡ true → (if e then skip_spaces bytes else b ∷ bytes) ≡ b ∷ bytes
no_space true b bytes e h =
    let wrong : is_token_byte 32 ≡ true = subst (λ (k : ℕ). is_token_byte k ≡ true) (space_is b e) h in
    let never : false ≡ true = sym space_is_none ∙ wrong in cc
no_space false b bytes e h = refl

has_first : (t : Bool) (b : ℕ) (bytes : List ℕ) (n : ℕ) → nat_lt 0 (length (take (if t then 1 + n else 0) (b ∷ bytes))) ≡ true → t ≡ true
has_first true b bytes n h = refl
has_first false b bytes n h = cc

no_spaces : (t : List ℕ) → is_token t ≡ true → skip_spaces t ≡ t
no_spaces [] h = refl
no_spaces (b ∷ bytes) h =
    let t = b ∷ bytes in
    let (some, rest) = and_parts (nat_lt 0 (length (token_body t))) (nat_le (length t) 256 && is_padding (drop (length (token_body t)) t)) h in
    no_space (b == 32) b bytes refl (has_first (is_token_byte b) b bytes (prefix_len is_token_byte bytes) some)

pub token_again : (t : List ℕ) → is_token t ≡ true → token_of (codes "Bearer " ++ t) ≡ Some t
unfolding token_of
token_again t h = rw (no_spaces t h, h) refl
