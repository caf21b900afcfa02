-- Moments as texts. A moment is the number of milliseconds since 1 January 1970, 00:00:00 UTC.
use Rattle.std.specs.Prelude.{codes, ◌++◌, ◌/◌, ◌%◌, unsigned_abs, ℕ, ◌+◌, ◌-◌, ◌*◌, ◌==◌, ◌&&◌, ◌||◌, not, Bool, List}
use Rattle.std.specs.Prelude.{Option, Some, None, option_map, ℤ, pos, negsuc, ◌+ℤ◌, ◌-ℤ◌, ◌*ℤ◌, int_le, length, nat_le}
use Rattle.std.specs.Prelude.{nat_lt, take, drop, slice_index, slice_index_or, slice_range, if◌then◌else◌}
use Rattle.std.specs.Int.{int_div_euclid, int_rem_euclid}
use Rattle.std.specs.List.{list_all}
use Rattle.roster_texts.specs.Digits.{digits_value, is_digit, signed, three, two, ◌>>=◌}
use Rattle.roster_texts.specs.Signs.{colon, digit_zero, dot, hyphen, letter_t, letter_z, plus_sign}
use Rattle.roster_texts.specs.Days.{day_of, day_text}

-- from 0001-01-01T00:00:00.000Z to 9999-12-31T23:59:59.999Z, as a test
abbrev pub is_moment : ℤ → Bool
is_moment ms = int_le (negsuc 62135596799999) ms && int_le ms (pos 253402300799999)

-- a moment, if it is one of the range
unfoldable pub moment_at : ℤ → Option ℤ
moment_at ms = if is_moment ms then Some ms else None

-- the length of a day, which has no leap second
abbrev pub day_seconds : ℕ
day_seconds = 86400

abbrev pub day_milliseconds : ℕ
day_milliseconds = 86400000

-- the seconds from midnight to a time of day, which has no leap second
unfoldable pub clock_time : ℕ → ℕ → ℕ → Option ℕ
clock_time hour minute second =
    if nat_le hour 23 && (nat_le minute 59 && nat_le second 59) then Some ((hour * 60 + minute) * 60 + second) else None

-- nine bytes, with 'T' and colons where Thh:mm:ss has them
abbrev pub has_time_form : List ℕ → Bool
has_time_form t =
    (length t == 9) && ((slice_index t 0 == letter_t) && ((slice_index t 3 == colon) && (slice_index t 6 == colon)))

-- the seconds from midnight that Thh:mm:ss writes
unfoldable pub seconds_of : List ℕ → Option ℕ
seconds_of t = if not (has_time_form t) then None else do
  hour ← digits_value (slice_range t 1 3)
  minute ← digits_value (slice_range t 4 6)
  second ← digits_value (slice_range t 7 9)
  clock_time hour minute second

-- the digit at a place, and 0 past the end
abbrev pub digit_at : List ℕ → ℕ → ℕ
digit_at t k = slice_index_or t k digit_zero - digit_zero

-- '.' and 1 to 9 digits
abbrev pub has_fraction_form : List ℕ → Bool
has_fraction_form t =
    (slice_index t 0 == dot) && (nat_le 2 (length t) && (nat_le (length t) 10 && list_all is_digit (drop 1 t)))

-- the milliseconds that a fraction writes, none where it is empty: digits past the third are dropped
unfoldable pub milliseconds_of : List ℕ → Option ℕ
milliseconds_of t =
    if length t == 0 then Some 0
    else if has_fraction_form t then Some (100 * digit_at t 1 + 10 * digit_at t 2 + digit_at t 3)
    else None

-- six bytes, with a sign and a colon where ±hh:mm has them
abbrev pub has_offset_form : List ℕ → Bool
has_offset_form t =
    (length t == 6) && (((slice_index t 0 == plus_sign) || (slice_index t 0 == hyphen)) && (slice_index t 3 == colon))

-- the zone of UTC, as one letter
abbrev pub is_zulu : List ℕ → Bool
is_zulu t = (length t == 1) && (slice_index t 0 == letter_z)

-- hours and minutes west or east of UTC, as minutes ahead of it
unfoldable pub offset_at : Bool → ℕ → ℕ → Option ℤ
offset_at is_west hour minute =
    if nat_le hour 23 && nat_le minute 59 then Some (signed is_west (hour * 60 + minute)) else None

-- the minutes ahead of UTC that 'Z' or ±hh:mm writes
unfoldable pub offset_of : List ℕ → Option ℤ
offset_of t =
    if is_zulu t then Some (pos 0)
    else if not (has_offset_form t) then None
    else do
      hour ← digits_value (slice_range t 1 3)
      minute ← digits_value (slice_range t 4 6)
      offset_at (slice_index t 0 == hyphen) hour minute

-- the moment of a day, a time and its milliseconds, written where clocks are so many minutes ahead of UTC
abbrev pub milliseconds_at : ℤ → ℕ → ℕ → ℤ → ℤ
milliseconds_at day seconds ms offset =
    ((day *ℤ pos day_milliseconds) +ℤ pos (seconds * 1000 + ms)) -ℤ (offset *ℤ pos 60000)

-- how many bytes the zone at the end of a text takes: 'Z', or ±hh:mm
abbrev pub zone_len : List ℕ → ℕ
zone_len t = if slice_index t (length t - 1) == letter_z then 1 else 6

-- the moment that a day, a time, perhaps a fraction, and a zone write
unfoldable pub instant_of : List ℕ → Option ℤ
instant_of t = if nat_lt (length t) (19 + zone_len t) then None else do
  day ← day_of (take 10 t)
  seconds ← seconds_of (slice_range t 10 19)
  ms ← milliseconds_of (slice_range t 19 (length t - zone_len t))
  offset ← offset_of (drop (length t - zone_len t) t)
  moment_at (milliseconds_at day seconds ms offset)

-- the first moment of a day, in UTC
abbrev pub midnight : ℤ → ℤ
midnight day = day *ℤ pos day_milliseconds

-- the moment that a text writes: a day alone is its midnight UTC
unfoldable pub moment_of : List ℕ → Option ℤ
moment_of t = if length t == 10 then option_map midnight (day_of t) else instant_of t

-- the day that a text writes: in a moment the written day counts
unfoldable pub written_day_of : List ℕ → Option ℤ
written_day_of t = if length t == 10 then day_of t else do
  moment ← instant_of t
  day_of (take 10 t)

-- the day on which a moment lies, in UTC
abbrev pub day_part : ℤ → ℤ
day_part ms = int_div_euclid ms (pos day_milliseconds)

-- the milliseconds from that day's midnight to the moment
abbrev pub time_part : ℤ → ℕ
time_part ms = unsigned_abs (int_rem_euclid ms (pos day_milliseconds))

-- the seconds of a day as Thh:mm:ss
unfoldable pub clock_text : ℕ → List ℕ
clock_text s = codes "T" ++ two (s / 3600) ++ codes ":" ++ two (s / 60 % 60) ++ codes ":" ++ two (s % 60)

-- the rest of a moment in UTC, as .mmmZ
unfoldable pub fraction_text : ℕ → List ℕ
fraction_text ms = codes "." ++ three ms ++ codes "Z"

-- the milliseconds of a day as Thh:mm:ss.mmmZ
abbrev pub time_text : ℕ → List ℕ
time_text ms = clock_text (ms / 1000) ++ fraction_text (ms % 1000)

-- a moment as YYYY-MM-DDThh:mm:ss.mmmZ
unfoldable pub moment_text : ℤ → List ℕ
moment_text ms = day_text (day_part ms) ++ time_text (time_part ms)
