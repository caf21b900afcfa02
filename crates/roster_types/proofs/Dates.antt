-- All moments are printed in one length.
use Rattle.std.proofs.Common.{◌≡◌, ◌<◌, ◌+◌, ◌/◌, ◌%◌, ◌&&◌, ℕ, ℤ, true, Bool, List, [], ◌∷◌, ◌++◌, Some, codes, length}
use Rattle.std.proofs.Common.{nat_le, sum_by, refl, ◌∙◌, arith}
use Rattle.std.proofs.lemmas.Bool.{and_from, and_parts}
use Rattle.std.proofs.lemmas.Bool.Decides.{nat_tests}
use Rattle.std.proofs.lemmas.List.Folds.{list_all-append}
use Rattle.std.proofs.lemmas.List.Sums.{sum_by-cons}
use Rattle.std.specs.List.{list_all}
use Rattle.roster_base.specs.Moments.{IsMoment}
use Rattle.roster_texts.specs.Days.{day_of_month, day_text, month_of_day, year_of_day}
use Rattle.roster_texts.specs.Digits.{four, three, two}
use Rattle.roster_texts.specs.Moments.{clock_text, day_part, fraction_text, is_moment, moment_text, time_part}
use Rattle.roster_texts.specs.Moments.{day_seconds}
use Rattle.roster_texts.proofs.CalendarDays.{part_bounds}
use Rattle.roster_texts.proofs.RoundTrip.{day_in_range, moment_from, time_small}
use Rattle.roster_values.specs.CellText.{cell_text}
use Rattle.roster_values.specs.declared.value.Value.TheVariants.{Moment}
use Rattle.roster_values.specs.Table.{Info}
use Rattle.roster_types.specs.Lengths.{escaped_length, field_length, fields_length, object_length, row_length}
use Rattle.roster_types.specs.Lengths.{text_length, value_length}
use Rattle.roster_types.specs.declared.status.Status.{Status}
use Rattle.roster_types.specs.Records.{Record}
use Rattle.roster_types.specs.Rows.{IsRow}
use Rattle.roster_types.proofs.Fitting.{in_moments, own_moment, rechanged, table-common}

-- digits, capital letters and `-.:`, none of which is escaped
abbrev is_plain : ℕ → Bool
is_plain b = nat_le 45 b && nat_le b 90

one_byte : (b : ℕ) → is_plain b ≡ true → escaped_length b ≡ 1
one_byte b h = grind (arith, nat_tests, h)

plain_sum : (bs : List ℕ) → list_all is_plain bs ≡ true → sum_by escaped_length bs ≡ length bs
plain_sum [] h = refl
plain_sum (b ∷ bs) h =
    let p = and_parts (is_plain b) (list_all is_plain bs) h in
    let one = one_byte b p.0 in
    let rest = plain_sum bs p.1 in
    sum_by-cons escaped_length b bs ∙ omega (arith, one, rest)

two_plain : (n : ℕ) → n < 100 → list_all is_plain (two n) ≡ true
two_plain n h = grind (arith, nat_tests)

three_plain : (n : ℕ) → n < 1000 → list_all is_plain (three n) ≡ true
three_plain n h = grind (arith, nat_tests)

four_plain : (n : ℕ) → n < 10000 → list_all is_plain (four n) ≡ true
four_plain n h = grind (arith, nat_tests)

both_plain : (xs ys : List ℕ) → list_all is_plain xs ≡ true → list_all is_plain ys ≡ true → list_all is_plain (xs ++ ys) ≡ true
both_plain xs ys a b = list_all-append is_plain xs ys ∙ and_from _ _ a b

day_plain : (y m d : ℕ) → y < 10000 → m < 100 → d < 100 → list_all is_plain (four y ++ codes "-" ++ two m ++ codes "-" ++ two d) ≡ true
day_plain y m d a b c =
    both_plain (four y ++ codes "-" ++ two m ++ codes "-") (two d)
    (both_plain (four y ++ codes "-" ++ two m) (codes "-") (both_plain (four y ++ codes "-") (two m) (both_plain (four y) (codes "-") (four_plain y a) refl) (two_plain m b)) refl)
    (two_plain d c)

clock_plain : (s : ℕ) → s < day_seconds → list_all is_plain (clock_text s) ≡ true
unfolding clock_text
clock_plain s h =
    both_plain (codes "T" ++ two (s / 3600) ++ codes ":" ++ two (s / 60 % 60) ++ codes ":") (two (s % 60))
    (both_plain (codes "T" ++ two (s / 3600) ++ codes ":" ++ two (s / 60 % 60)) (codes ":")
    (both_plain (codes "T" ++ two (s / 3600) ++ codes ":") (two (s / 60 % 60))
    (both_plain (codes "T" ++ two (s / 3600)) (codes ":") (both_plain (codes "T") (two (s / 3600)) refl (two_plain (s / 3600) (omega arith))) refl)
    (two_plain (s / 60 % 60) (omega arith)))
    refl)
    (two_plain (s % 60) (omega arith))

fraction_plain : (ms : ℕ) → ms < 1000 → list_all is_plain (fraction_text ms) ≡ true
unfolding fraction_text
fraction_plain ms h = both_plain (codes "." ++ three ms) (codes "Z") (both_plain (codes ".") (three ms) refl (three_plain ms h)) refl

moment_plain : (z : ℤ) → IsMoment z → list_all is_plain (moment_text z) ≡ true
unfolding moment_text day_text
moment_plain z h =
    let bounds = part_bounds (day_part z) (day_in_range z h) in
    let small = time_small z in
    both_plain (four (year_of_day (day_part z)) ++ codes "-" ++ two (month_of_day (day_part z)) ++ codes "-" ++ two (day_of_month (day_part z))) (clock_text (time_part z / 1000) ++ fraction_text (time_part z % 1000))
    (day_plain (year_of_day (day_part z)) (month_of_day (day_part z)) (day_of_month (day_part z)) (omega (arith, bounds.0)) (omega (arith, bounds.1)) (omega (arith, bounds.2)))
    (both_plain (clock_text (time_part z / 1000)) (fraction_text (time_part z % 1000)) (clock_plain (time_part z / 1000) (omega (arith, small))) (fraction_plain (time_part z % 1000) (omega arith)))

pub moment_bytes : (z : ℤ) → length (moment_text z) ≡ 24
unfolding moment_text day_text clock_text fraction_text
moment_bytes z = refl

pub text_length-moment : (z : ℤ) → is_moment z ≡ true → text_length (moment_text z) ≡ 26
unfolding text_length
text_length-moment z h = let sum = plain_sum (moment_text z) (moment_plain z (moment_from z h)) in omega (arith, sum, moment_bytes z)

date_length : (i : Info) (z : ℤ) → is_moment z ≡ true → field_length i (Some (Moment z)) ≡ text_length i.name + 28
unfolding field_length value_length cell_text
date_length i z h = let n = text_length-moment z h in omega (arith, n)

-- so another date leaves the length of a row
row_length-dated : (r : Record) (z : ℤ) → is_moment r.modified ≡ true → is_moment z ≡ true → row_length (record r { modified = z }) ≡ row_length r
unfolding object_length fields_length
row_length-dated r z a b =
    rw (table-common r.kind, date_length _ z b, date_length _ r.modified a) refl

-- and its length counts with one status whatever it has
pub row_length-changed : (r : Record) (status : Status) (z : ℤ) → IsMoment z → IsRow r → row_length (record r { status = status; modified = z }) ≡ row_length r
row_length-changed r status z m h = row_length-dated r z (own_moment r h.fitting) (in_moments z m)

pub IsRow-changed : (r : Record) (status : Status) (z : ℤ) → IsMoment z → IsRow r → IsRow (record r { status = status; modified = z })
IsRow-changed r status z m h =
    record { fitting = rechanged r status z m h.fitting; short = rw (row_length-changed r status z m h) h.short }
