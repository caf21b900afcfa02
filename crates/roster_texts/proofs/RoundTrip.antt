-- What is printed reads as itself.
use Rattle.std.proofs.Common.{◌≡◌, ℕ, ◌/◌, ◌%◌, ◌<◌, ◌≤◌, List, ◌∷◌, ◌++◌, true, Some, refl, ap, ◌∙◌, arith, ℤ, pos}
use Rattle.std.proofs.Common.{◌&&◌, nat_le, codes}
use Rattle.std.proofs.lemmas.Bool.Decides.{nat_tests}
use Rattle.std.proofs.lemmas.Int.{ints}
use Rattle.std.specs.Int.{int_rem_euclid}
use Rattle.std.specs.List.{list_all}
use Rattle.jiff_core.proofs.SignedLemmas.{int_div_euclid-parts, int_rem_euclid-parts, signed_arith, unsigned_abs-parts}
use Rattle.roster_texts.specs.Digits.{decimal_value, digits_value, four, is_digit, three, two}
use Rattle.roster_texts.specs.Days.{day_at, day_of, day_of_month, day_text, is_day, month_of_day, year_of_day, IsDay}
use Rattle.roster_base.specs.Moments.{IsMoment}
use Rattle.roster_texts.specs.Moments.{clock_text, clock_time, day_part, fraction_text, instant_of, is_moment}
use Rattle.roster_texts.specs.Moments.{milliseconds_at, milliseconds_of, moment_at, moment_of, moment_text, offset_of}
use Rattle.roster_texts.specs.Moments.{day_milliseconds, day_seconds, seconds_of, time_part, written_day_of}
use Rattle.roster_texts.proofs.CalendarDays.{part_bounds, split}

pub digits_two : (n : ℕ) → n < 100 → digits_value (two n) ≡ Some n
unfolding digits_value
digits_two n h =
    let digits : list_all is_digit (two n) ≡ true = grind (arith, nat_tests) in
    let value : decimal_value (two n) ≡ n = omega arith in
    rw (digits, value) refl

pub digits_four : (n : ℕ) → n < 10000 → digits_value (four n) ≡ Some n
unfolding digits_value
digits_four n h =
    let digits : list_all is_digit (four n) ≡ true = grind (arith, nat_tests) in
    let value : decimal_value (four n) ≡ n = omega arith in
    rw (digits, value) refl

abbrev pub written_day : ℕ → ℕ → ℕ → List ℕ
written_day y m d = four y ++ codes "-" ++ two m ++ codes "-" ++ two d

pub day_read : (y m d : ℕ) → y < 10000 → m < 100 → d < 100 → day_of (written_day y m d) ≡ day_at y m d
unfolding day_of
day_read y m d a b c = rw (digits_four y a, digits_two m b, digits_two d c) refl

clock_in_bounds : (hour minute second : ℕ) → hour ≤ 23 → minute ≤ 59 → second ≤ 59 → (nat_le hour 23 && (nat_le minute 59 && nat_le second 59)) ≡ true
clock_in_bounds hour minute second a b c = grind (arith, nat_tests)

in_clock : (s : ℕ) → s < day_seconds → clock_time (s / 3600) (s / 60 % 60) (s % 60) ≡ Some s
unfolding clock_time
in_clock s h =
    let hours : s / 3600 ≤ 23 = omega arith in
    let minutes : s / 60 % 60 ≤ 59 = omega arith in
    let seconds : s % 60 ≤ 59 = omega arith in
    let there : (nat_le (s / 3600) 23 && (nat_le (s / 60 % 60) 59 && nat_le (s % 60) 59)) ≡ true = clock_in_bounds _ _ _ hours minutes seconds in
    rw there (ap (λ n. Some n) (omega arith))

pub clock_read : (s : ℕ) → s < day_seconds → seconds_of (clock_text s) ≡ Some s
unfolding seconds_of clock_text
clock_read s h =
    rw (digits_two (s / 3600) (omega arith), digits_two (s / 60 % 60) (omega arith), digits_two (s % 60) (omega arith)) (in_clock s h)

pub fraction_read : (ms : ℕ) → ms < 1000 → milliseconds_of (46 ∷ three ms) ≡ Some ms
unfolding milliseconds_of
fraction_read ms h =
    let digits : list_all is_digit (three ms) ≡ true = grind (arith, nat_tests) in
    rw digits (ap (λ n. Some n) (omega arith))

pub instant_written : (y m d s ms : ℕ) (day : ℤ) → y < 10000 → m < 100 → d < 100 → s < day_seconds → ms < 1000 → day_at y m d ≡ Some day
    → instant_of (written_day y m d ++ (clock_text s ++ fraction_text ms)) ≡ moment_at (milliseconds_at day s ms (pos 0))
unfolding instant_of clock_text fraction_text offset_of
instant_written y m d s ms day a b c e f at =
    let on : day_of (written_day y m d) ≡ Some day = day_read y m d a b c ∙ at in
    let clock : seconds_of (codes "T" ++ two (s / 3600) ++ codes ":" ++ two (s / 60 % 60) ++ codes ":" ++ two (s % 60)) ≡ Some s = clock_read s e in
    rw (on, clock, fraction_read ms f) refl

parts_make_moment : (z : ℤ) → milliseconds_at (day_part z) (time_part z / 1000) (time_part z % 1000) (pos 0) ≡ z
parts_make_moment z =
    omega (arith, signed_arith, int_div_euclid-parts z day_milliseconds (omega arith), int_rem_euclid-parts z day_milliseconds (omega arith), unsigned_abs-parts (int_rem_euclid z (pos day_milliseconds)))

pub time_small : (z : ℤ) → time_part z < day_milliseconds
time_small z = omega (arith, signed_arith, int_rem_euclid-parts z day_milliseconds (omega arith), unsigned_abs-parts (int_rem_euclid z (pos day_milliseconds)))

pub day_in_range : (z : ℤ) → IsMoment z → IsDay (day_part z)
day_in_range z h = omega (arith, signed_arith, int_div_euclid-parts z day_milliseconds (omega arith), h.0, h.1)

in_moments : (z : ℤ) → IsMoment z → moment_at z ≡ Some z
unfolding moment_at
in_moments z h = let there : is_moment z ≡ true = grind (arith, ints) in rw there refl

calendar_day : (day : ℤ) → IsDay day → day_at (year_of_day day) (month_of_day day) (day_of_month day) ≡ Some day
unfolding day_at
calendar_day day h = let s = split day h in rw (s.known, s.same) refl

pub day_reads_back : (day : ℤ) → IsDay day → day_of (day_text day) ≡ Some day
unfolding day_text
day_reads_back day h =
    let bounds = part_bounds day h in
    day_read (year_of_day day) (month_of_day day) (day_of_month day) (omega (arith, bounds.0)) (omega (arith, bounds.1)) (omega (arith, bounds.2)) ∙ calendar_day day h

pub instant_reads_back : (z : ℤ) → IsMoment z → instant_of (moment_text z) ≡ Some z
unfolding moment_text day_text
instant_reads_back z h =
    let day : ℤ = day_part z in
    let in_days : IsDay (day_part z) = day_in_range z h in
    let bounds = part_bounds (day_part z) in_days in
    instant_written (year_of_day (day_part z)) (month_of_day (day_part z)) (day_of_month (day_part z)) (time_part z / 1000) (time_part z % 1000) (day_part z)
    (omega (arith, bounds.0)) (omega (arith, bounds.1)) (omega (arith, bounds.2)) (omega (arith, time_small z)) (omega arith) (calendar_day (day_part z) in_days)
    ∙ ap moment_at (parts_make_moment z) ∙ in_moments z h

moment_text_is_instant : (z : ℤ) → moment_of (moment_text z) ≡ instant_of (moment_text z)
unfolding moment_of moment_text day_text clock_text fraction_text
moment_text_is_instant z = refl

pub moment_reads_back : (z : ℤ) → IsMoment z → moment_of (moment_text z) ≡ Some z
moment_reads_back z h = moment_text_is_instant z ∙ instant_reads_back z h

pub day_from : (z : ℤ) → is_day z ≡ true → IsDay z
day_from z h = (grind (arith, ints), grind (arith, ints))

pub moment_from : (z : ℤ) → is_moment z ≡ true → IsMoment z
moment_from z h = (grind (arith, ints), grind (arith, ints))

day_text_is_day : (z : ℤ) → written_day_of (day_text z) ≡ day_of (day_text z)
unfolding written_day_of day_text
day_text_is_day z = refl

pub day_written : (z : ℤ) → IsDay z → written_day_of (day_text z) ≡ Some z
unfolding written_day_of
day_written z h = day_text_is_day z ∙ day_reads_back z h
