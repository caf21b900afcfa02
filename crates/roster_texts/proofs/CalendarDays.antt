-- Each day from 0001-01-01 to 9999-12-31 has its year, its month and its day in the month.
use Rattle.std.proofs.Common.{◌≡◌, ℕ, zero, suc, ◌+◌, ◌<◌, ◌≤◌, ◌⊎◌, inl, inr, cond, Bool, true, false, refl, sym, ap}
use Rattle.std.proofs.Common.{◌∙◌, arith, ℤ, pos, ◌+ℤ◌, ◌≤ℤ◌, ◌<ℤ◌, int_le, unsigned_abs, to_z, of_z, to_z-of_z}
use mir.Syntax.{w16}
use Rattle.std.proofs.lemmas.Bool.Decides.{nat_tests}
use Rattle.std.proofs.lemmas.Int.{ints}
use Rattle.jiff_core.specs.Calendar.{days_from_civil, days_in_month, days_in_year}
use Rattle.jiff_core.specs.Calendar.{IsYear}
use Rattle.jiff_core.specs.Date.{epoch_day}
use Rattle.jiff_core.specs.declared.civil.date.Date.{Date}
use Rattle.jiff_core.proofs.DateLemmas.{epoch_day_injective}
use Rattle.jiff_core.proofs.SignedLemmas.{fits_between, signed_arith}
use Rattle.jiff_core.proofs.CalendarLemmas.{day_count-day, day_count-end, day_count-last_of_year, day_count-next_month}
use Rattle.jiff_core.proofs.CalendarLemmas.{day_count-next_year, days_from_civil-day_count, days_in_month_bounds}
use Rattle.roster_texts.specs.Days.{day_of_month, is_calendar_day, last_start, month_of_day, year_of_day, IsDay}
use Rattle.roster_texts.proofs.DayLemmas.{day_count-first}

-- where the search for the last start ended
pub record EndsAt (start : ℕ → ℤ) (n : ℕ) (day : ℤ) (k : ℕ) : Type 0 where
  pub positive : 1 ≤ k
  pub most : k ≤ n
  pub begun : start k ≤ℤ day
  pub later : (j : ℕ) → k < j → j ≤ n → day <ℤ start j

end_here : (start : ℕ → ℤ) (n : ℕ) (day : ℤ) → start (suc n) ≤ℤ day → EndsAt start (suc n) day (suc n)
end_here start n day h = record {
  positive = omega arith;
  most = omega arith;
  begun = h;
  later = λ j after before. absurd (omega arith);
}

one_more : (start : ℕ → ℤ) (n : ℕ) (day : ℤ) (k j : ℕ) → day <ℤ start (suc n) → EndsAt start n day k → k < j → (j ≡ suc n) ⊎ (j ≤ n) → day <ℤ start j
one_more start n day k j h e after (inl last) = rw last h
one_more start n day k j h e after (inr before) = e.later j after before

last_or_before : (j n : ℕ) → j ≤ suc n → (j ≡ suc n) ⊎ (j ≤ n)
last_or_before j n h = grind arith

end_below : (start : ℕ → ℤ) (n : ℕ) (day : ℤ) (k : ℕ) → day <ℤ start (suc n) → EndsAt start n day k → EndsAt start (suc n) day k
end_below start n day k h e = record {
  positive = e.positive;
  most = omega (arith, e.most);
  begun = e.begun;
  later = λ j after before. one_more start n day k j h e after (last_or_before j n before);
}

told_le : (a b : ℤ) → int_le a b ≡ true → a ≤ℤ b
told_le a b h = grind (arith, ints)

told_lt : (a b : ℤ) → int_le a b ≡ false → b <ℤ a
told_lt a b h = grind (arith, ints)

last_start_step : (start : ℕ → ℤ) (n : ℕ) (day : ℤ) (r : Bool) → int_le (start (suc n)) day ≡ r → (day <ℤ start (suc n) → EndsAt start n day (last_start start n day))
    → EndsAt start (suc n) day (cond r (suc n) (last_start start n day))
last_start_step start n day true e below = end_here start n day (told_le _ _ e)
last_start_step start n day false e below = end_below start n day _ (told_lt _ _ e) (below (told_lt _ _ e))

-- where the first number's start is not after the day, the last such number is found
pub ends : (start : ℕ → ℤ) (n : ℕ) (day : ℤ) → start 1 ≤ℤ day → EndsAt start (suc n) day (last_start start (suc n) day)
unfolding last_start
ends start zero day h = last_start_step start 0 day (int_le (start 1) day) refl (λ before. absurd (omega (arith, signed_arith)))
ends start (suc n) day h = last_start_step start (suc n) day (int_le (start (suc (suc n))) day) refl (λ before. ends start n day h)

-- the year of a day, and where it ends
pub record InYear (day : ℤ) (y : ℕ) : Type 0 where
  pub first : 1 ≤ y
  pub last : y ≤ 9999
  pub begun : days_from_civil (pos y) 1 1 ≤ℤ day
  pub over : day <ℤ (days_from_civil (pos y) 1 1 +ℤ pos (days_in_year (pos y)))

next_year : (y : ℕ) → days_from_civil (pos (y + 1)) 1 1 ≡ days_from_civil (pos y) 1 1 +ℤ pos (days_in_year (pos y))
next_year y =
    omega (arith, signed_arith, days_from_civil-day_count (pos (y + 1)) 1 1, days_from_civil-day_count (pos y) 1 1, day_count-next_year (pos y) (pos (y + 1)) (omega (arith, signed_arith)) (omega (arith, signed_arith)))

before_next : (day : ℤ) (y : ℕ) → IsDay day → EndsAt (λ k. days_from_civil (pos k) 1 1) 9999 day y → (y ≡ 9999) ⊎ (y + 1 ≤ 9999) → day <ℤ days_from_civil (pos (y + 1)) 1 1
before_next day y h e (inl last) = rw last (omega (arith, signed_arith, h.1, days_from_civil-day_count (pos 10000) 1 1, day_count-end))
before_next day y h e (inr more) = e.later (y + 1) (omega arith) more

more_or_last : (y n : ℕ) → y ≤ n → (y ≡ n) ⊎ (y + 1 ≤ n)
more_or_last y n h = grind arith

pub in_year : (day : ℤ) → IsDay day → InYear day (year_of_day day)
in_year day h =
    let start : days_from_civil (pos 1) 1 1 ≤ℤ day = omega (arith, signed_arith, h.0, days_from_civil-day_count (pos 1) 1 1, day_count-first) in
    let e : EndsAt (λ k. days_from_civil (pos k) 1 1) 9999 day (year_of_day day) = ends (λ k. days_from_civil (pos k) 1 1) 9998 day start in
    record {
      first = e.positive;
      last = e.most;
      begun = e.begun;
      over = rw (← next_year (year_of_day day)) (before_next day (year_of_day day) h e (more_or_last _ _ e.most));
    }

-- the month of a day of a year, and where it ends
pub record InMonth (day : ℤ) (y : ℤ) (m : ℕ) : Type 0 where
  pub first : 1 ≤ m
  pub last : m ≤ 12
  pub begun : days_from_civil y m 1 ≤ℤ day
  pub over : day <ℤ (days_from_civil y m 1 +ℤ pos (days_in_month y m))

next_month : (y : ℤ) (m : ℕ) → 1 ≤ m → days_from_civil y (m + 1) 1 ≡ days_from_civil y m 1 +ℤ pos (days_in_month y m)
next_month y m h =
    omega (arith, signed_arith, days_from_civil-day_count y (m + 1) 1, days_from_civil-day_count y m 1, day_count-next_month y m h)

year_end : (y : ℤ) → days_from_civil y 1 1 +ℤ pos (days_in_year y) ≡ days_from_civil y 12 1 +ℤ pos 31
year_end y =
    omega (arith, signed_arith, days_from_civil-day_count y 1 1, days_from_civil-day_count y 12 1, day_count-last_of_year y, day_count-day y 12 31 1 (omega arith) (omega arith))

month_over : (day : ℤ) (y : ℤ) (m : ℕ) → day <ℤ (days_from_civil y 1 1 +ℤ pos (days_in_year y)) → EndsAt (λ k. days_from_civil y k 1) 12 day m → (m ≡ 12) ⊎ (m + 1 ≤ 12)
    → day <ℤ (days_from_civil y m 1 +ℤ pos (days_in_month y m))
month_over day y m h e (inl last) = rw last (rw (year_end y) at h)
month_over day y m h e (inr more) = rw (← next_month y m e.positive) (e.later (m + 1) (omega arith) more)

pub in_month : (day : ℤ) (y : ℤ) → days_from_civil y 1 1 ≤ℤ day → day <ℤ (days_from_civil y 1 1 +ℤ pos (days_in_year y))
    → InMonth day y (last_start (λ k. days_from_civil y k 1) 12 day)
in_month day y begun over =
    let e : EndsAt (λ k. days_from_civil y k 1) 12 day (last_start (λ k. days_from_civil y k 1) 12 day) = ends (λ k. days_from_civil y k 1) 11 day begun in
    record {
      first = e.positive;
      last = e.most;
      begun = e.begun;
      over = month_over day y _ over e (more_or_last _ _ e.most);
    }

day_in : (y : ℤ) (m d : ℕ) → 1 ≤ d → days_from_civil y m d +ℤ pos 1 ≡ days_from_civil y m 1 +ℤ pos d
day_in y m d h =
    omega (arith, signed_arith, days_from_civil-day_count y m d, days_from_civil-day_count y m 1, day_count-day y m d 1 h (omega arith))

-- a day of a month is that day's number
pub record IsDayOf (day : ℤ) (y : ℤ) (m d : ℕ) : Type 0 where
  pub first : 1 ≤ d
  pub last : d ≤ days_in_month y m
  pub same : days_from_civil y m d ≡ day

day_before_next : (day : ℤ) (y : ℤ) (m d : ℕ) → InMonth day y m → EndsAt (λ k. days_from_civil y m k) 31 day d → (d ≡ 31) ⊎ (d + 1 ≤ 31) → day <ℤ (days_from_civil y m 1 +ℤ pos d)
day_before_next day y m d h e (inl last) = rw last (omega (arith, signed_arith, h.over, days_in_month_bounds y m))
day_before_next day y m d h e (inr more) = omega (arith, signed_arith, e.later (d + 1) (omega arith) more, day_in y m (d + 1) (omega arith))

pub in_day : (day : ℤ) (y : ℤ) (m : ℕ) → InMonth day y m → IsDayOf day y m (last_start (λ k. days_from_civil y m k) 31 day)
in_day day y m h =
    let e : EndsAt (λ k. days_from_civil y m k) 31 day (last_start (λ k. days_from_civil y m k) 31 day) = ends (λ k. days_from_civil y m k) 30 day h.begun in
    let d : ℕ = last_start (λ k. days_from_civil y m k) 31 day in
    let whole = day_in y m d e.positive in
    let begun : days_from_civil y m d ≤ℤ day = e.begun in
    let next = day_before_next day y m d h e (more_or_last _ _ e.most) in
    record {
      first = e.positive;
      last = omega (arith, signed_arith, whole, begun, next, h.over);
      same = omega (arith, signed_arith, whole, begun, next);
    }

-- the three numbers of a day are one of the calendar's days, and that day
pub record IsSplit (day : ℤ) (y m d : ℕ) : Type 0 where
  pub known : is_calendar_day y m d ≡ true
  pub same : days_from_civil (pos y) m d ≡ day

known_from : (y m d : ℕ) → 1 ≤ y → y ≤ 9999 → 1 ≤ m → m ≤ 12 → 1 ≤ d → d ≤ days_in_month (pos y) m → is_calendar_day y m d ≡ true
known_from y m d a b c e f g = grind (arith, nat_tests)

split_from : (day : ℤ) (y m d : ℕ) → InYear day y → InMonth day (pos y) m → IsDayOf day (pos y) m d → IsSplit day y m d
split_from day y m d a b c = record { known = known_from y m d a.first a.last b.first b.last c.first c.last; same = c.same }

pub split : (day : ℤ) → IsDay day → IsSplit day (year_of_day day) (month_of_day day) (day_of_month day)
split day h =
    let year = in_year day h in
    let month = in_month day (pos (year_of_day day)) year.begun year.over in
    split_from day _ _ _ year month (in_day day (pos (year_of_day day)) (month_of_day day) month)

year_in : (y : ℕ) → y ≤ 9999 → IsYear (pos y)
year_in y h = (omega (arith, signed_arith), omega (arith, signed_arith))

-- that date
made_date : (day : ℤ) (y m d : ℕ) → InYear day y → InMonth day (pos y) m → IsDayOf day (pos y) m d → (date : Date) × (date.year ≡ pos y) × (date.month ≡ m) × (date.day ≡ d)
made_date day y m d a b c =
    (record { year = pos y; month = m; day = d; year_in = year_in y a.last; month_in = (b.first, b.last); day_in = (c.first, c.last) }, refl, refl, refl)

same_parts : (date : Date) (day : ℤ) (y m d : ℕ) → epoch_day date ≡ day → InYear day y → InMonth day (pos y) m → IsDayOf day (pos y) m d → (date.year ≡ pos y) × (date.month ≡ m) × (date.day ≡ d)
same_parts date day y m d e a b c =
    let made = made_date day y m d a b c in
    let number : epoch_day made.0 ≡ day = rw (made.1, made.2, made.3) c.same in
    let parts = epoch_day_injective made.0 date (number ∙ sym e) in
    (sym parts.0 ∙ made.1, sym parts.1 ∙ made.2, sym parts.2 ∙ made.3)

-- the date with a day's number has the day's year, month and day
pub date_parts : (date : Date) (day : ℤ) → IsDay day → epoch_day date ≡ day → (date.year ≡ pos (year_of_day day)) × (date.month ≡ month_of_day day) × (date.day ≡ day_of_month day)
date_parts date day h e =
    let year = in_year day h in
    let month = in_month day (pos (year_of_day day)) year.begun year.over in
    let number = in_day day (pos (year_of_day day)) (month_of_day day) month in
    same_parts date day _ _ _ e year month number

-- how large the three numbers of a day are
pub part_bounds : (day : ℤ) → IsDay day → (year_of_day day ≤ 9999) × (month_of_day day ≤ 12) × (day_of_month day ≤ 31)
part_bounds day h =
    let year = in_year day h in
    let month = in_month day (pos (year_of_day day)) year.begun year.over in
    let number = in_day day (pos (year_of_day day)) (month_of_day day) month in
    (year.last, month.last, omega (arith, number.last, days_in_month_bounds (pos (year_of_day day)) (month_of_day day)))

-- an `i16` that holds a year
pub year_kept : (z : ℤ) (y : ℕ) → z ≡ pos y → y ≤ 9999 → unsigned_abs (to_z w16 (of_z w16 z)) ≡ y
year_kept z y e h = rw e (ap unsigned_abs (to_z-of_z (fits_between w16 (pos y) (omega (arith, signed_arith), omega (arith, signed_arith)))))
