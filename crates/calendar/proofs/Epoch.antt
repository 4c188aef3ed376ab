-- The seconds from the beginning of the year 0 to a timestamp. Assumes nothing.
use Prim.Native.Nat.{ℕ, ◌+◌, ◌-◌, ◌*◌, ◌/◌, ◌%◌, ◌^◌, ◌≤◌, ◌<◌}
use mathlib.Core.Path.{◌≡◌, refl, sym}
use mathlib.Core.Bool.{Bool, true, false, true≢false}
use native.Mathlib.Omega.{arith}
use native.Mathlib.Decide.{dec_lt}
use lib.IntN.{ℤ, pos, negsuc, nat_abs}
use Rattle.numerals.specs.Integers.{int_of, is_negative}
use Rattle.numerals.proofs.TwosComplement.{magnitude_low, magnitude_high}
use Rattle.calendar.specs.Dates.{is_leap, days_of, year_length, day_number, year_day, month_day, date_of}
use Rattle.calendar.specs.Moments.{epoch_day, since_year0, weekday_of, ordinal_of, moment_of}
use Rattle.calendar.proofs.Finite.{longest}
use Rattle.calendar.proofs.Only.{year_and_day}
use Rattle.calendar.proofs.Estimate.{in_found_year, in_month}

pub epoch : epoch_day ≡ 719528
unfolding epoch_day day_number days_of year_length is_leap
epoch = refl

-- A timestamp of 64 bits is at most 2 to the 63rd away from 1970.
pub magnitude_within : (x : ℕ) → x < 2 ^ 64 → nat_abs (int_of 64 x) ≤ 9223372036854775808
magnitude_within x h =
    elim (dec_lt x 9223372036854775808) [
      | yes p ↦ omega (arith, magnitude_low 64 x p)
      | no q ↦ omega (arith, magnitude_high 64 x (omega arith) h)
    ]

pub forward : (z : ℤ) → is_negative z ≡ false
    → (since_year0 z / 1000000000 ≡ 62167219200 + nat_abs z / 1000000000) × (since_year0 z % 1000000000 ≡ nat_abs z % 1000000000)
unfolding since_year0
forward (pos n) e = rw epoch (omega arith, omega arith)
forward (negsuc n) e = absurd (true≢false e)

pub back : (z : ℤ) → is_negative z ≡ true → nat_abs z ≤ 9223372036854775808
    → (since_year0 z / 1000000000 ≡ 62167219200 - (nat_abs z + 999999999) / 1000000000)
    × (since_year0 z % 1000000000 ≡ (nat_abs z + 999999999) / 1000000000 * 1000000000 - nat_abs z)
unfolding since_year0
back (pos n) e h = absurd (true≢false (sym e))
back (negsuc n) e h = rw epoch (omega arith, omega arith)

-- So its seconds from the year 0 on are many, and far from what 64 bits hold.
within_range : (z : ℤ) → nat_abs z ≤ 9223372036854775808 → (172800 ≤ since_year0 z / 1000000000) × (since_year0 z / 1000000000 < 100000000000)
unfolding since_year0
within_range (pos n) h = rw epoch (omega arith, omega arith)
within_range (negsuc n) h = rw epoch (omega arith, omega arith)

pub seconds_range : (x : ℕ) → x < 2 ^ 64 → (172800 ≤ since_year0 (int_of 64 x) / 1000000000) × (since_year0 (int_of 64 x) / 1000000000 < 100000000000)
seconds_range x h = within_range (int_of 64 x) (magnitude_within x h)

-- The weekday of a day, counted from the year 0 on.
pub weekday : (n : ℕ) → (n + 5) % 7 ≡ weekday_of n
unfolding weekday_of
weekday n = rw epoch (omega arith)

-- The day of a year is one more than the days of it that lie before.
pub ordinal : (n : ℕ) → (year_day n).1 + 1 ≡ ordinal_of n
unfolding ordinal_of day_number date_of days_of
ordinal n = omega (arith, year_and_day n)

-- The moment from its parts.
pub the_moment : (z : ℤ) (t nanos y k m d : ℕ) (leap : Bool) → t ≡ since_year0 z / 1000000000 → nanos ≡ since_year0 z % 1000000000
    → y ≡ (year_day (t / 86400)).0 → k ≡ (year_day (t / 86400)).1 → leap ≡ is_leap y → m ≡ (month_day leap k).0 → d ≡ (month_day leap k).1
    → record {
      year = y;
      month = m + 1;
      day = d + 1;
      ordinal = k + 1;
      weekday = (t / 86400 + 5) % 7;
      hour = t % 86400 / 3600;
      minute = t % 86400 / 60 % 60;
      second = t % 86400 % 60;
      nanos = nanos;
    }
    ≡ moment_of z
unfolding moment_of date_of
the_moment z t nanos y k m d leap a b e f l g h = rw (weekday (t / 86400), h, g, l, e, f, ordinal (t / 86400), a, b) refl

-- how far each number of a moment goes
pub ruleset ranges = (in_found_year, in_month, longest, seconds_range)
