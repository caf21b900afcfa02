-- Days as texts: YYYY-MM-DD. A day is the number of days since 1 January 1970.
use Rattle.std.specs.Prelude.{ℕ, zero, suc, int_le, codes, ◌++◌, ◌==◌, ◌&&◌, not, Bool, List, Option, Some, None, ℤ}
use Rattle.std.specs.Prelude.{pos, negsuc, ◌≤ℤ◌, length, nat_le, slice_index, slice_range, if◌then◌else◌}
use Rattle.jiff_core.specs.Calendar.{days_from_civil, days_in_month}
use Rattle.roster_texts.specs.Digits.{digits_value, four, two, ◌>>=◌}
use Rattle.roster_texts.specs.Signs.{hyphen}

-- the calendar has this day, and its year is one of 1 to 9999
abbrev pub is_calendar_day : ℕ → ℕ → ℕ → Bool
is_calendar_day year month day =
    nat_le 1 year && nat_le year 9999 && nat_le 1 month && nat_le month 12
    && nat_le 1 day && nat_le day (days_in_month (pos year) month)

-- the day of a year, a month and a day of the month, where the calendar has it
unfoldable pub day_at : ℕ → ℕ → ℕ → Option ℤ
day_at year month day =
    if is_calendar_day year month day then Some (days_from_civil (pos year) month day) else None

-- ten bytes, with hyphens where a day has them
abbrev pub has_day_form : List ℕ → Bool
has_day_form t = (length t == 10) && ((slice_index t 4 == hyphen) && (slice_index t 7 == hyphen))

-- the day that a text writes as YYYY-MM-DD
unfoldable pub day_of : List ℕ → Option ℤ
day_of t = if not (has_day_form t) then None else do
  year ← digits_value (slice_range t 0 4)
  month ← digits_value (slice_range t 5 7)
  day ← digits_value (slice_range t 8 10)
  day_at year month day

-- from 0001-01-01 to 9999-12-31
abbrev pub IsDay : ℤ → Type 0
IsDay day = (negsuc 719161 ≤ℤ day) × (day ≤ℤ pos 2932896)

-- the same, as a test
abbrev pub is_day : ℤ → Bool
is_day day = int_le (negsuc 719161) day && int_le day (pos 2932896)

-- the last of the numbers up to n whose start is not after the day
unfoldable pub last_start : (ℕ → ℤ) → ℕ → ℤ → ℕ
last_start start zero day = 0
last_start start (suc n) day = if int_le (start (suc n)) day then suc n else last_start start n day

-- the last year that begins no later than a day
abbrev pub year_of_day : ℤ → ℕ
year_of_day day = last_start (λ y. days_from_civil (pos y) 1 1) 9999 day

-- the last month of that year that begins no later
abbrev pub month_of_day : ℤ → ℕ
month_of_day day = last_start (λ m. days_from_civil (pos (year_of_day day)) m 1) 12 day

-- the day of that month
abbrev pub day_of_month : ℤ → ℕ
day_of_month day = last_start (λ d. days_from_civil (pos (year_of_day day)) (month_of_day day) d) 31 day

-- a day as YYYY-MM-DD
unfoldable pub day_text : ℤ → List ℕ
day_text day = four (year_of_day day) ++ codes "-" ++ two (month_of_day day) ++ codes "-" ++ two (day_of_month day)
