-- Instants as text: the date and the time of day in UTC, in the proleptic Gregorian calendar (RFC 3339).
use Rattle.std.specs.Prelude.{ℕ, zero, suc, ℤ, pos, ◌+ℤ◌, ◌-ℤ◌, ◌+◌, ◌-◌, ◌/◌, ◌%◌, ◌==◌, nat_le, unsigned_abs, Bool, List, [], ◌∷◌, ◌++◌, codes, Option, if◌then◌else◌}
use Rattle.std.specs.Int.{int_div_euclid, int_rem_euclid}
use Rattle.std.specs.Result.{result_ok}
use Rattle.jiff_core.specs.Calendar.{days_of_months, days_of_years}
use Rattle.jiff_fmt.specs.Temporal.{parse_timestamp}
use Rattle.jiff_fmt.specs.Text.{pad2, places, year_text}

-- the instant that a text tells, as `jiff` reads RFC 3339 and more
abbrev pub time_of : List ℕ → Option ℤ
time_of text = result_ok (parse_timestamp text)

-- the last number up to n that passes a test, and 0 where none does
unfoldable pub last_that : (ℕ → Bool) → ℕ → ℕ
last_that test zero = 0
last_that test (suc n) = if test (suc n) then suc n else last_that test n

abbrev pub nanoseconds_a_day : ℤ
nanoseconds_a_day = pos 86_400_000_000_000

-- the days from 1 January of the year -10000 to the day of an instant, of which 1 January 1970 is 4371953
unfoldable pub day_of : ℤ → ℕ
day_of instant = unsigned_abs (int_div_euclid instant nanoseconds_a_day +ℤ pos 4_371_953)

-- the last year, counted from -10000, that begins no later than a day
unfoldable pub years_passed : ℕ → ℕ
years_passed day = last_that (λ y. nat_le (days_of_years y) day) 20_000

abbrev pub year_of : ℕ → ℤ
year_of day = pos (years_passed day) -ℤ pos 10_000

-- the days of the year that have passed
abbrev pub days_passed : ℕ → ℕ
days_passed day = day - days_of_years (years_passed day)

-- the months of the year that have passed: the most whose days have
unfoldable pub months_passed : ℕ → ℕ
months_passed day = last_that (λ m. nat_le (days_of_months (year_of day) m) (days_passed day)) 11

-- `2024-06-19`, with a sign and six digits for a year below 0
unfoldable pub date_text : ℕ → List ℕ
date_text day =
    year_text (year_of day) ++ 45 ∷ pad2 (months_passed day + 1)
    ++ 45 ∷ pad2 (days_passed day - days_of_months (year_of day) (months_passed day) + 1)

-- the nanoseconds of the day that have passed
unfoldable pub time_of_day : ℤ → ℕ
time_of_day instant = unsigned_abs (int_rem_euclid instant nanoseconds_a_day)

-- `17:30:05`
unfoldable pub clock_text : ℕ → List ℕ
clock_text time =
    pad2 (time / 3_600_000_000_000) ++ 58 ∷ pad2 (time / 60_000_000_000 % 60) ++ 58 ∷ pad2 (time / 1_000_000_000 % 60)

-- a dot and nine digits, unless the second is whole
abbrev pub fraction_text : ℕ → List ℕ
fraction_text nanosecond = if nanosecond == 0 then [] else 46 ∷ places 9 1_000_000_000 nanosecond

-- the digits that are written of a fraction: none of a whole second, and else nine
abbrev pub precision_of : ℕ → ℕ
precision_of nanosecond = if nanosecond == 0 then 0 else 9

-- `2024-06-19T17:30:05Z`
unfoldable pub time_text : ℤ → List ℕ
time_text instant =
    date_text (day_of instant) ++ 84 ∷ clock_text (time_of_day instant) ++ fraction_text (time_of_day instant % 1_000_000_000) ++ codes "Z"

-- `2024-06-19 17:30:05 UTC`, without the fraction of the second
unfoldable pub limit_text : ℤ → List ℕ
limit_text instant = date_text (day_of instant) ++ 32 ∷ clock_text (time_of_day instant) ++ codes " UTC"
