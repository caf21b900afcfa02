-- What a text reads as lies in the range of its type.
use Rattle.std.proofs.Common.{◌≡◌, ℕ, suc, ◌+◌, ◌-◌, ◌*◌, ◌<◌, ◌≤◌, ◌^◌, cond, not, List, [], ◌∷◌, length, fold, Bool}
use Rattle.std.proofs.Common.{true, false, Option, Some, None, Result, Ok, Err, IfOk, IfSome, option_map, slice_range}
use Rattle.std.proofs.Common.{take, drop, refl, arith, ℤ, pos, nat_le, nat_lt, nat_eq, add-one, add-zero, zero-add}
use Rattle.std.proofs.Common.{subst, lit<, length-take}
use Rattle.std.proofs.lemmas.Bool.{and_parts, eqb-true}
use Rattle.std.proofs.lemmas.Bool.Decides.{nat_tests}
use Rattle.std.proofs.lemmas.Int.{ints}
use Rattle.std.proofs.Math.Nat.{pow-suc}
use Rattle.std.specs.List.{list_all, prefix_len}
use Rattle.jiff_core.specs.Calendar.{days_from_civil}
use Rattle.roster_texts.specs.declared.fault.ValueFault.{ValueFault}
use Rattle.roster_texts.specs.declared.fault.ValueFault.TheVariants as fault
use Rattle.roster_texts.specs.Days.{day_at, day_of, has_day_form, is_calendar_day, is_day, IsDay}
use Rattle.roster_texts.specs.Digits.{decimal_value, digits_value, is_digit, ◌>>=◌ as ◌some>>=◌, signed}
use Rattle.roster_texts.specs.Moments.{instant_of, is_moment, midnight, milliseconds_at, milliseconds_of, moment_at}
use Rattle.roster_texts.specs.Moments.{moment_of, offset_of, seconds_of, written_day_of, zone_len}
use Rattle.roster_texts.specs.Numbers.{after_digits, first_digits, has_number_form, is_negative, is_number, is_year}
use Rattle.roster_texts.specs.Numbers.{is_zero_fraction, number_of, unsigned_of, without_sign, year_of}
use Rattle.roster_base.specs.Reading.{◌>>=◌}
use Rattle.roster_texts.proofs.DayLemmas.{calendar_in_range}
use Rattle.roster_texts.proofs.DigitLemmas.{all_first_digits, twelve_digits}

-- how large a number of digits may be
next_digit : (n k b : ℕ) → n < 10 ^ k → is_digit b ≡ true → n * 10 + (b - 48) < 10 ^ (k + 1)
next_digit n k b small h =
    let most : b ≤ 57 = grind (arith, nat_tests) in
    rw add-one (rw (pow-suc 10 k) (omega arith))

pub digits_bound : (t : List ℕ) (n k : ℕ) → n < 10 ^ k → list_all is_digit t ≡ true → fold (λ m b. m * 10 + (b - 48)) n t < 10 ^ (k + length t)
digits_bound [] n k small h = rw add-zero small
digits_bound (b ∷ t) n k small h =
    let rest : fold (λ m c. m * 10 + (c - 48)) (n * 10 + (b - 48)) t < 10 ^ (k + 1 + length t) =
    digits_bound t (n * 10 + (b - 48)) (k + 1) (next_digit n k b small (and_parts (is_digit b) (list_all is_digit t) h).0) (and_parts (is_digit b) (list_all is_digit t) h).1 in
    let lengths : k + 1 + length t ≡ k + suc (length t) = omega arith in
    let P : ℕ → Type 0 = λ m. fold (λ m' c. m' * 10 + (c - 48)) (n * 10 + (b - 48)) t < 10 ^ m in
    subst P lengths rest

value_bound : (t : List ℕ) → list_all is_digit t ≡ true → decimal_value t < 10 ^ length t
value_bound t h =
    let all : decimal_value t < 10 ^ (0 + length t) = digits_bound t 0 0 (lit< tt) h in
    let P : ℕ → Type 0 = λ m. decimal_value t < 10 ^ m in
    subst P (zero-add (length t)) all

number_cases : (t : List ℕ) (form zeros : Bool) → has_number_form t ≡ form
    → IfOk (cond (not form) (Err fault.BadNumber) (cond (not zeros) (Err fault.Fractional) (Ok (decimal_value (first_digits t))))) (λ n. n < 10 ^ 12)
number_cases t false zeros e = tt
number_cases t true false e = tt
number_cases t true true e =
    let few : prefix_len is_digit t ≤ 12 = grind (arith, nat_tests) in
    twelve_digits (decimal_value (first_digits t)) (length (first_digits t)) (value_bound (first_digits t) (all_first_digits t)) (omega (arith, length-take (prefix_len is_digit t) t))

signed_good : (minus : Bool) (n : ℕ) → n < 10 ^ 12 → is_number (signed minus n) ≡ true
signed_good true n h = grind (arith, ints)
signed_good false n h = grind (arith, ints)

bind_number : (minus : Bool) (r : Result ℕ ValueFault) → IfOk r (λ n. n < 10 ^ 12) → IfOk (r >>= (λ n. Ok (signed minus n))) (λ z. is_number z ≡ true)
bind_number minus (Ok n) h = signed_good minus n h
bind_number minus (Err e) h = tt

unsigned_good : (t : List ℕ) → IfOk (unsigned_of t) (λ n. n < 10 ^ 12)
unfolding unsigned_of
unsigned_good t = number_cases t (has_number_form t) (is_zero_fraction (after_digits t)) refl

pub number_good : (t : List ℕ) → IfOk (number_of t) (λ z. is_number z ≡ true)
unfolding number_of
number_good t = bind_number (is_negative t) (unsigned_of (without_sign t)) (unsigned_good (without_sign t))

year_cases : (t : List ℕ) (r : Bool) → is_year t ≡ r → IfOk (cond r (Ok (decimal_value t)) (Err fault.BadNumber)) (λ y. nat_le y 9999 ≡ true)
year_cases t true e =
    let four : length t ≡ 4 = eqb-true (length t) 4 (and_parts (nat_eq (length t) 4) (list_all is_digit t) e).0 in
    let P : ℕ → Type 0 = λ m. decimal_value t < 10 ^ m in
    let small : decimal_value t < 10 ^ 4 = subst P four (value_bound t (and_parts (nat_eq (length t) 4) (list_all is_digit t) e).1) in
    grind (arith, nat_tests)
year_cases t false e = tt

pub year_good : (t : List ℕ) → IfOk (year_of t) (λ y. nat_le y 9999 ≡ true)
unfolding year_of
year_good t = year_cases t (is_year t) refl

in_days : (z : ℤ) → IsDay z → is_day z ≡ true
in_days z h = grind (arith, ints)

day_cases : (y m d : ℕ) (r : Bool) → is_calendar_day y m d ≡ r → IfSome (cond r (Some (days_from_civil (pos y) m d)) None) (λ z. is_day z ≡ true)
day_cases y m d true e = in_days (days_from_civil (pos y) m d) (calendar_in_range y m d e)
day_cases y m d false e = tt

day_at_good : (y m d : ℕ) → IfSome (day_at y m d) (λ z. is_day z ≡ true)
unfolding day_at
day_at_good y m d = day_cases y m d (is_calendar_day y m d) refl

bind_some : {A B : Type 0} (P : B → Type 0) (o : Option A) (f : A → Option B) → ((x : A) → IfSome (f x) P) → IfSome (o some>>= f) P
bind_some P (Some x) f h = h x
bind_some P None f h = tt

none_or : {A : Type 0} (P : A → Type 0) (r : Bool) (o : Option A) → IfSome o P → IfSome (cond r None o) P
none_or P true o h = tt
none_or P false o h = h

day_of_good : (t : List ℕ) → IfSome (day_of t) (λ z. is_day z ≡ true)
unfolding day_of
day_of_good t = none_or (λ z. is_day z ≡ true) (not (has_day_form t)) _
    (bind_some _ (digits_value (slice_range t 0 4)) _ (λ y. bind_some _ (digits_value (slice_range t 5 7)) _ (λ m. bind_some _ (digits_value (slice_range t 8 10)) _ (λ d. day_at_good y m d))))

moment_cases : (z : ℤ) (r : Bool) → is_moment z ≡ r → IfSome (cond r (Some z) None) (λ x. is_moment x ≡ true)
moment_cases z true e = e
moment_cases z false e = tt

moment_at_good : (z : ℤ) → IfSome (moment_at z) (λ x. is_moment x ≡ true)
unfolding moment_at
moment_at_good z = moment_cases z (is_moment z) refl

instant_good : (t : List ℕ) → IfSome (instant_of t) (λ z. is_moment z ≡ true)
unfolding instant_of
instant_good t = none_or (λ z. is_moment z ≡ true) (nat_lt (length t) (19 + zone_len t)) _
    (bind_some _ (day_of (take 10 t)) _ (λ day. bind_some _ (seconds_of (slice_range t 10 19)) _ (λ s. bind_some _ (milliseconds_of (slice_range t 19 (length t - zone_len t))) _
    (λ ms. bind_some _ (offset_of (drop (length t - zone_len t) t)) _ (λ z. moment_at_good (milliseconds_at day s ms z))))))

midnight_in : (z : ℤ) → is_day z ≡ true → is_moment (midnight z) ≡ true
midnight_in z h = grind (arith, ints)

midnight_good : (o : Option ℤ) → IfSome o (λ z. is_day z ≡ true) → IfSome (option_map midnight o) (λ z. is_moment z ≡ true)
midnight_good (Some z) h = midnight_in z h
midnight_good None h = tt

either_good : {A : Type 0} (P : A → Type 0) (r : Bool) (a b : Option A) → IfSome a P → IfSome b P → IfSome (cond r a b) P
either_good P true a b h k = h
either_good P false a b h k = k

pub moment_good : (t : List ℕ) → IfSome (moment_of t) (λ z. is_moment z ≡ true)
unfolding moment_of
moment_good t =
    either_good (λ z. is_moment z ≡ true) (nat_eq (length t) 10) (option_map midnight (day_of t)) (instant_of t) (midnight_good (day_of t) (day_of_good t)) (instant_good t)

pub written_day_good : (t : List ℕ) → IfSome (written_day_of t) (λ z. is_day z ≡ true)
unfolding written_day_of
written_day_good t =
    either_good (λ z. is_day z ≡ true) (nat_eq (length t) 10) (day_of t) (instant_of t some>>= (λ z. day_of (take 10 t)))
    (day_of_good t) (bind_some _ (instant_of t) _ (λ z. day_of_good (take 10 t)))
