-- The text of an instant is read as the instant.
use Rattle.std.proofs.Common.{◌≡◌, ◌-ℤ◌, ℕ, pos, zero, suc, ◌<◌, min, take_at, drop_at, true, false, refl, ap, ◌∙◌, append_assoc, arith}
use Rattle.std.specs.Prelude.{◌==◌, List, [], ◌∷◌, ◌++◌, Option, Some, None, Ok}
use Rattle.std.specs.Result.{result_ok}
use Rattle.std.proofs.lemmas.Bool.Decides.{nat_tests}
use Rattle.std.specs.Char.{is_ascii_digit}
use Rattle.std.specs.List.{prefix_len}
use Rattle.jiff_core.specs.declared.civil.time.Time.{Time}
use Rattle.jiff_core.specs.declared.civil.datetime.DateTime.{DateTime}
use Rattle.jiff_core.specs.declared.timestamp.Timestamp.{Timestamp}
use Rattle.jiff_core.specs.declared.error.Bound.TheVariants as Bound
use Rattle.jiff_core.specs.declared.error.Syntax.TheVariants as Syntax
use Rattle.jiff_core.specs.DateTime.{civil_nanos}
use Rattle.jiff_core.specs.Timestamp.{nanos_of_seconds}
use Rattle.jiff_core.proofs.SignedLemmas.{signed_arith}
use Rattle.jiff_fmt.specs.Reader.{fraction_value, nanoseconds, temporal_fraction}
use Rattle.jiff_fmt.specs.Temporal.{date_parts, fraction_or_zero, parse_timestamp, parts_nanos, temporal_datetime, time_parts, time_spec}
use Rattle.jiff_fmt.specs.Text as Text
use Rattle.jiff_fmt.specs.Text.{pad2, places}
use Rattle.jiff_fmt.proofs.RoundTrip.{annotations-empty, date_spec-text, field-pad2, offset-zulu}
use Rattle.jiff_fmt.proofs.TemporalLemmas.{instant-ok}
use Rattle.jiff_fmt.proofs.TextLemmas.{places-read}
use Rattle.version_dates.specs.Times.{fraction_text, time_of, time_text}
use Rattle.version_dates.proofs.TimeLemmas.{time_shown}

abbrev zulu : List ℕ
zulu = 90 ∷ []

-- nine digits are the nanoseconds
nine_read : (n : ℕ) → n < 1_000_000_000 → nanoseconds (places 9 1_000_000_000 n ++ zulu) ≡ Ok (n, zulu)
unfolding nanoseconds
nine_read n small =
    let facts = places-read 9 9 n zulu (omega arith) small in
    let none_more : prefix_len is_ascii_digit zulu ≡ 0 = refl in
    let count : min (prefix_len is_ascii_digit (places 9 1_000_000_000 n ++ zulu)) 9 ≡ 9 = omega (arith, facts.0, none_more) in
    let value : fraction_value 9 (places 9 1_000_000_000 n) ≡ n = omega (arith, facts.2) in
    rw (count, take_at (places 9 1_000_000_000 n) zulu 9 facts.1, drop_at (places 9 1_000_000_000 n) zulu 9 facts.1, value)

-- what is read of a fraction
record FractionRead (n : ℕ) : Type 0 where
  value : Option ℕ
  is_read : temporal_fraction (fraction_text n ++ zulu) ≡ Ok (value, zulu)
  is : fraction_or_zero value ≡ n

fraction_read : (n : ℕ) → n < 1_000_000_000 → FractionRead n
unfolding temporal_fraction
fraction_read zero small = record { value = None; is_read = refl; is = refl }
fraction_read (suc n) small =
    let some : (suc n == 0) ≡ false = grind (arith, nat_tests) in
    let part : fraction_text (suc n) ≡ 46 ∷ places 9 1_000_000_000 (suc n) = rw some in
    record { value = Some (suc n); is_read = rw (part, nine_read (suc n) small); is = refl }

-- the text of a time of day
abbrev pub shown_time : Time → List ℕ
shown_time t = pad2 t.hour ++ 58 ∷ pad2 t.minute ++ 58 ∷ pad2 t.second ++ fraction_text t.subsec_nanosecond

time_read : (t : Time) → time_spec (shown_time t ++ zulu) ≡ Ok ((time_parts t, true), zulu)
unfolding time_spec
time_read t =
    let part = fraction_read t.subsec_nanosecond t.subsec_in in
    let last = fraction_text t.subsec_nanosecond ++ zulu in
    let after_minute = 58 ∷ pad2 t.second ++ last in
    let after_hour = 58 ∷ pad2 t.minute ++ after_minute in
    let shape : shown_time t ++ zulu ≡ pad2 t.hour ++ after_hour = simp append_assoc refl in
    let hour = field-pad2 Syntax.Hour 0 23 Bound.Hour t.hour after_hour (omega arith) (omega (arith, t.hour_in)) (omega (arith, t.hour_in)) in
    let minute = field-pad2 Syntax.Minute 0 59 Bound.Minute t.minute after_minute (omega arith) (omega (arith, t.minute_in)) (omega (arith, t.minute_in)) in
    let second = field-pad2 Syntax.Second 0 60 Bound.LeapSecond t.second last (omega arith) (omega (arith, t.second_in)) (omega (arith, t.second_in)) in
    let no_leap : (t.second == 60) ≡ false = grind (arith, nat_tests, t.second_in) in
    rw (shape, hour, minute, second, no_leap, part.is_read, part.is)

shown_read : (dt : DateTime) (t : Timestamp) → civil_nanos dt ≡ t.nanosecond
    → parse_timestamp (Text.date_text dt.date ++ 84 ∷ shown_time dt.time ++ zulu) ≡ Ok t.nanosecond
unfolding temporal_datetime civil_nanos
shown_read dt t e =
    let rest = 84 ∷ shown_time dt.time ++ zulu in
    let shape : Text.date_text dt.date ++ 84 ∷ shown_time dt.time ++ zulu ≡ Text.date_text dt.date ++ rest = simp append_assoc refl in
    let value : parts_nanos (date_parts dt.date) (time_parts dt.time) -ℤ nanos_of_seconds (pos 0) ≡ t.nanosecond = omega (arith, signed_arith, e) in
    rw (shape, date_spec-text dt.date rest, time_read dt.time, offset-zulu, annotations-empty, value, instant-ok t.nanosecond t.in_range)

-- what is written is read
pub time_read_back : (dt : DateTime) (t : Timestamp) → civil_nanos dt ≡ t.nanosecond → time_of (time_text t.nanosecond) ≡ Some t.nanosecond
time_read_back dt t e = ap (λ text. time_of text) (time_shown dt t.nanosecond e) ∙ ap result_ok (shown_read dt t e)
