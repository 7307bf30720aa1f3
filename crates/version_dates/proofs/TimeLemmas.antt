-- The text of an instant is that of the date and the time that a clock shows in UTC.
use Rattle.std.proofs.Math.Nat.{le-suc_iff}
use Rattle.std.specs.Prelude.{◌==◌, [], ◌∷◌, ◌++◌, Some, codes, if◌then◌else◌}
use Rattle.jiff_fmt.specs.Text as Text
use Rattle.jiff_fmt.specs.Text.{fraction_part, pad2}
use Rattle.std.proofs.Common.{◌≡◌, ◌⊎◌, ℕ, ℤ, pos, negsuc, zero, suc, ◌+◌, ◌-◌, ◌/◌, ◌%◌, ◌<◌, ◌≤◌, ◌+ℤ◌, ◌-ℤ◌, ◌≤ℤ◌, nat_le, unsigned_abs, Bool, true, false, inl, inr, refl, sym, ap, subst, ◌∙◌, append_assoc, arith}
use Rattle.std.proofs.lemmas.Bool.Decides.{nat_tests}
use Rattle.std.specs.Int.{int_div_euclid}
use Rattle.jiff_core.specs.declared.civil.date.Date.{Date}
use Rattle.jiff_core.specs.declared.civil.time.Time.{Time}
use Rattle.jiff_core.specs.declared.civil.datetime.DateTime.{DateTime}
use Rattle.jiff_core.specs.Calendar.{days_in_year, day_count, day_of_year, days_from_civil, days_of_months, days_of_years}
use Rattle.jiff_core.specs.Date.{epoch_day}
use Rattle.jiff_core.specs.DateTime.{civil_nanos}
use Rattle.jiff_core.specs.Time.{time_nanos}
use Rattle.jiff_core.proofs.CalendarLemmas.{day_count-epoch, day_of_year_before, day_of_year_bound}
use Rattle.jiff_core.proofs.DateLemmas.{civil}
use Rattle.jiff_core.proofs.DateTimeLemmas.{civil_nanos-parts, epoch_day-civil_nanos, time_nanos_bound}
use Rattle.jiff_core.proofs.SignedLemmas.{signed_arith}
use Rattle.version_dates.specs.Times.{last_that, day_of, years_passed, months_passed, days_passed, year_of, date_text, clock_text, time_of_day, time_text, limit_text, fraction_text, precision_of}

-- ---- the last number that passes

last_step : (test : ℕ → Bool) (bound n : ℕ) (b : Bool) → test (suc bound) ≡ b → test n ≡ true → (n ≤ bound) ⊎ (n ≡ suc bound)
    → (n ≤ bound → last_that test bound ≡ n) → ((k : ℕ) → n < k → test k ≡ false) → last_that test (suc bound) ≡ n
unfolding last_that
last_step test bound n true h at (inl le) later above = let lt : n < suc bound = omega arith in cc (sym h ∙ above (suc bound) lt)
last_step test bound n true h at (inr e) later above = rw h (sym e)
last_step test bound n false h at (inl le) later above = rw h (later le)
last_step test bound n false h at (inr e) later above = cc (sym h ∙ ap test (sym e) ∙ at)

pub last_is : (test : ℕ → Bool) (bound n : ℕ) → n ≤ bound → test n ≡ true → ((k : ℕ) → n < k → test k ≡ false) → last_that test bound ≡ n
unfolding last_that
last_is test zero n le at above = omega arith
last_is test (suc bound) n le at above =
    last_step test bound n (test (suc bound)) refl at (le-suc_iff.0 le) (λ h. last_is test bound n h at above) above

yes : (a b : ℕ) → a ≤ b → nat_le a b ≡ true
yes a b h = grind (arith, nat_tests)

no : (a b : ℕ) → b < a → nat_le a b ≡ false
no a b h = grind (arith, nat_tests)

-- ---- the date

years_by : (n m : ℕ) → (n ≤ m) ⊎ (n ≡ suc m) → (n ≤ m → days_of_years n ≤ days_of_years m) → days_of_years n ≤ days_of_years (suc m)
unfolding days_of_years
years_by n m (inl h) later = omega (arith, later h)
years_by n m (inr e) later = subst (λ k. days_of_years n ≤ days_of_years k) e (omega arith)

years_le : (n m : ℕ) → n ≤ m → days_of_years n ≤ days_of_years m
years_le n zero h = let e : n ≡ 0 = omega arith in subst (λ k. days_of_years n ≤ days_of_years k) e (omega arith)
years_le n (suc m) h = years_by n m (le-suc_iff.0 h) (years_le n m)

-- how a day is counted
record Counted (d : Date) : Type 0 where
  years : ℕ
  year_is : pos years -ℤ pos 10_000 ≡ d.year
  small : years ≤ 20_000
  count : day_count d.year d.month d.day ≡ days_of_years years + (day_of_year d.year d.month d.day - 1)
  next : days_of_years (suc years) ≡ days_of_years years + days_in_year d.year
  starts : 1 ≤ day_of_year d.year d.month d.day
  ends : day_of_year d.year d.month d.day ≤ days_in_year d.year

from_zero : (z : ℤ) → pos 0 ≤ℤ z → pos (unsigned_abs z) ≡ z
from_zero (pos n) h = refl
from_zero (negsuc n) h = omega (arith, signed_arith, h)

counted : (d : Date) → Counted d
unfolding day_count days_of_years
counted d =
    let is = civil d in
    let count : pos (unsigned_abs (d.year +ℤ pos 10_000)) ≡ d.year +ℤ pos 10_000 = from_zero _ (omega (arith, signed_arith, is.0.0, is.0.1)) in
    let e : pos (unsigned_abs (d.year +ℤ pos 10_000)) -ℤ pos 10_000 ≡ d.year = omega (arith, signed_arith, count) in
    record {
      years = unsigned_abs (d.year +ℤ pos 10_000);
      year_is = e;
      small = omega (arith, signed_arith, is.0.0, is.0.1, count);
      count = refl;
      next = ap (λ y. days_of_years (unsigned_abs (d.year +ℤ pos 10_000)) + days_in_year y) e;
      starts = omega (arith, is.2.0);
      ends = day_of_year_bound d.year d.month d.day is;
    }

years_are : (d : Date) (c : Counted d) → years_passed (day_count d.year d.month d.day) ≡ c.years
unfolding years_passed
years_are d c =
    let day = day_count d.year d.month d.day in
    let test = λ (y : ℕ). nat_le (days_of_years y) day in
    last_is test 20_000 c.years c.small (yes _ _ (omega (arith, c.count)))
    (λ k lt. no _ _ (omega (arith, c.count, c.next, c.starts, c.ends, years_le (suc c.years) k (omega arith))))

days_are : (d : Date) (c : Counted d) → days_passed (day_count d.year d.month d.day) ≡ day_of_year d.year d.month d.day - 1
days_are d c = rw (years_are d c) (omega (arith, c.count))

year_are : (d : Date) (c : Counted d) → year_of (day_count d.year d.month d.day) ≡ d.year
year_are d c = rw (years_are d c) c.year_is

months_are : (d : Date) (c : Counted d) → months_passed (day_count d.year d.month d.day) ≡ d.month - 1
unfolding months_passed
months_are d c =
    let is = civil d in
    let test = λ (m : ℕ). nat_le (days_of_months d.year m) (day_of_year d.year d.month d.day - 1) in
    let found : last_that test 11 ≡ d.month - 1 =
    last_is test 11 (d.month - 1) (omega (arith, is.1.1)) (yes _ _ (omega (arith, is.2.0)))
    (λ k lt. no _ _ (omega (arith, c.starts, day_of_year_before d.year d.month d.day k is.1.0 is.2.1 (omega (arith, is.1.0))))) in
    rw (year_are d c, days_are d c) found

-- the text of the day that a date is
pub date_is : (d : Date) → date_text (day_count d.year d.month d.day) ≡ Text.date_text d
unfolding date_text
date_is d =
    let c = counted d in
    let is = civil d in
    let month : d.month - 1 + 1 ≡ d.month = omega (arith, is.1.0) in
    let day : day_of_year d.year d.month d.day - 1 - days_of_months d.year (d.month - 1) + 1 ≡ d.day = omega (arith, is.2.0) in
    rw (year_are d c, days_are d c, months_are d c, month, day) (simp append_assoc refl)

-- the day of a datetime's instant
day_is : (dt : DateTime) → day_of (civil_nanos dt) ≡ day_count dt.date.year dt.date.month dt.date.day
unfolding day_of days_from_civil
day_is dt =
    let e : int_div_euclid (civil_nanos dt) (pos 86_400_000_000_000) ≡ epoch_day dt.date = sym (epoch_day-civil_nanos dt) in
    let count : epoch_day dt.date +ℤ pos 4_371_953 ≡ pos (day_count dt.date.year dt.date.month dt.date.day) = omega (arith, signed_arith, day_count-epoch) in
    rw e (ap unsigned_abs count)

-- ---- the time of day

time_is : (dt : DateTime) → time_of_day (civil_nanos dt) ≡ time_nanos dt.time
unfolding time_of_day
time_is dt = omega (arith, signed_arith, civil_nanos-parts dt, time_nanos_bound dt.time)

clock_is : (t : Time) → clock_text (time_nanos t) ≡ pad2 t.hour ++ 58 ∷ pad2 t.minute ++ 58 ∷ pad2 t.second
unfolding clock_text
clock_is t =
    let h : time_nanos t / 3_600_000_000_000 ≡ t.hour = omega (arith, t.hour_in, t.minute_in, t.second_in, t.subsec_in) in
    let m : time_nanos t / 60_000_000_000 % 60 ≡ t.minute = omega (arith, t.hour_in, t.minute_in, t.second_in, t.subsec_in) in
    let s : time_nanos t / 1_000_000_000 % 60 ≡ t.second = omega (arith, t.hour_in, t.minute_in, t.second_in, t.subsec_in) in
    rw (h, m, s)

fraction_is : (t : Time) → time_nanos t % 1_000_000_000 ≡ t.subsec_nanosecond
fraction_is t = omega (arith, t.subsec_in)

-- ---- what is written

written_by : (n : ℕ) (b : Bool) → (n == 0) ≡ b → fraction_part (Some (if b then 0 else 9)) n ≡ fraction_text n
written_by n true h = rw h
written_by n false h = rw h

written : (n : ℕ) → fraction_part (Some (precision_of n)) n ≡ fraction_text n
written n = written_by n (n == 0) refl

-- a datetime in UTC, as a printer writes it
pub time_written : (dt : DateTime) (instant : ℤ) → civil_nanos dt ≡ instant
    → Text.datetime_text false 84 (Some (precision_of dt.time.subsec_nanosecond)) dt ++ codes "Z" ≡ time_text instant
unfolding time_text
time_written dt instant e =
    rw (← e, day_is dt, date_is dt.date, time_is dt, clock_is dt.time, fraction_is dt.time, ← written dt.time.subsec_nanosecond) (simp append_assoc refl)

pub limit_written : (dt : DateTime) (instant : ℤ) → civil_nanos dt ≡ instant → Text.datetime_text false 32 (Some 0) dt ++ codes " UTC" ≡ limit_text instant
unfolding limit_text
limit_written dt instant e = rw (← e, day_is dt, date_is dt.date, time_is dt, clock_is dt.time) (simp append_assoc refl)

-- the text is that of the date and of the time that a clock shows
pub time_shown : (dt : DateTime) (instant : ℤ) → civil_nanos dt ≡ instant
    → time_text instant ≡ Text.date_text dt.date ++ 84 ∷ (pad2 dt.time.hour ++ 58 ∷ pad2 dt.time.minute ++ 58 ∷ pad2 dt.time.second ++ fraction_text dt.time.subsec_nanosecond) ++ 90 ∷ []
unfolding time_text
time_shown dt instant e = rw (← e, day_is dt, date_is dt.date, time_is dt, clock_is dt.time, fraction_is dt.time) (simp append_assoc refl)
