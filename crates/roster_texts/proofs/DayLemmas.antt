-- The day numbers of the years 1 to 9999.
use Rattle.std.proofs.Common.{◌≡◌, ℕ, ◌≤◌, true, Some, refl, sym, ap, ◌∙◌, arith, ℤ, pos, ◌≤ℤ◌, w32, to_z, of_z}
use Rattle.std.proofs.Common.{to_z-of_z}
use Rattle.std.proofs.lemmas.Bool.Decides.{nat_tests}
use Rattle.std.proofs.lemmas.Int.{by_lt_z}
use Rattle.jiff_core.specs.Calendar.{day_count, days_from_civil, days_in_month, IsCivilDate, IsEpochDay}
use Rattle.jiff_core.specs.Date.{epoch_day, IsYmd}
use Rattle.jiff_core.specs.declared.civil.date.Date.{Date}
use Rattle.jiff_core.proofs.SignedLemmas.{signed_arith, fits_between}
use Rattle.jiff_core.proofs.MarchLemmas.{day_count-early}
use Rattle.jiff_core.proofs.CalendarLemmas.{day_count-day_of_year, day_count-later_year, day_count_bounds}
use Rattle.jiff_core.proofs.CalendarLemmas.{days_from_civil-day_count}
use Rattle.jiff_core.proofs.DateLemmas.{civil}
use Rattle.roster_texts.specs.Days.{day_at, is_calendar_day, IsDay}

pub day_count-first : day_count (pos 1) 1 1 ≡ 3_652_791
day_count-first = day_count-early (pos 1) 10000 1 1 refl (omega arith) (omega arith) (omega arith)

-- no day of the years from 1 on lies before 0001-01-01
pub from_year_one : (y : ℤ) (m d : ℕ) → pos 1 ≤ℤ y → 1 ≤ d → 3_652_791 ≤ day_count y m d
from_year_one y m d late day =
    let whole = day_count-day_of_year y m d day in
    by_lt_z (pos 1) y
    (λ lt. omega (arith, day_count-first, day_count-later_year (pos 1) y (omega (arith, signed_arith)) lt))
    (λ le. let e : y ≡ pos 1 = omega (arith, signed_arith) in omega (arith, day_count-first, ap (λ z. day_count z 1 1) e))

pub in_range : (date : Date) (y : ℕ) → 1 ≤ y → date.year ≡ pos y → IsDay (epoch_day date)
in_range date y late e =
    let year : pos 1 ≤ℤ date.year = omega (arith, signed_arith) in
    omega (arith, signed_arith, days_from_civil-day_count, day_count_bounds _ _ _ (civil date), from_year_one date.year date.month date.day year date.day_in.0)

is_known : (y m d : ℕ) → 1 ≤ y → IsCivilDate (pos y) m d → is_calendar_day y m d ≡ true
is_known y m d late h = grind (arith, nat_tests)

pub known_day : (date : Date) (y m d : ℕ) → 1 ≤ y → IsYmd (pos y) (pos m) (pos d) date → day_at y m d ≡ Some (epoch_day date)
unfolding day_at
known_day date y m d late h =
    let same_month : date.month ≡ m = cc h.1 in
    let same_day : date.day ≡ d = cc h.2 in
    let on_calendar : IsCivilDate date.year date.month date.day = civil date in
    let there : is_calendar_day y m d ≡ true = is_known y m d late (rw (h.0, same_month, same_day) at on_calendar) in
    rw (there, h.0, same_month, same_day) refl

-- a number as an `i32` keeps it
as_stored : (z : ℤ) → IsEpochDay z → to_z w32 (of_z w32 z) ≡ z
as_stored z h = to_z-of_z (fits_between w32 z (omega (arith, signed_arith), omega (arith, signed_arith)))

pub stored_in_range : (z : ℤ) (date : Date) (y : ℕ) → z ≡ epoch_day date → IsEpochDay z → 1 ≤ y → date.year ≡ pos y → IsDay (to_z w32 (of_z w32 z))
stored_in_range z date y e range late year = rw (as_stored z range, e) (in_range date y late year)

pub stored_day : (z : ℤ) (date : Date) (y m d : ℕ) → z ≡ epoch_day date → IsEpochDay z → 1 ≤ y → IsYmd (pos y) (pos m) (pos d) date → Some (to_z w32 (of_z w32 z)) ≡ day_at y m d
stored_day z date y m d e range late h = ap (λ n. Some n) (as_stored z range ∙ e) ∙ sym (known_day date y m d late h)

civil_from : (y m d : ℕ) → is_calendar_day y m d ≡ true → (1 ≤ y) × (y ≤ 9999) × (1 ≤ m) × (m ≤ 12) × (1 ≤ d) × (d ≤ days_in_month (pos y) m)
civil_from y m d h =
    (grind (arith, nat_tests), grind (arith, nat_tests), grind (arith, nat_tests), grind (arith, nat_tests), grind (arith, nat_tests), grind (arith, nat_tests))

-- a day of the calendar lies in the range
pub calendar_in_range : (y m d : ℕ) → is_calendar_day y m d ≡ true → IsDay (days_from_civil (pos y) m d)
calendar_in_range y m d h =
    let c = civil_from y m d h in
    let on_calendar : IsCivilDate (pos y) m d = ((omega (arith, signed_arith, c.1), omega (arith, signed_arith)), (c.2, c.3), (c.4, c.5)) in
    let year : pos 1 ≤ℤ pos y = omega (arith, signed_arith, c.0) in
    omega (arith, signed_arith, days_from_civil-day_count (pos y) m d, day_count_bounds (pos y) m d on_calendar, from_year_one (pos y) m d year c.4)
