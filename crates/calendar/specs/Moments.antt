-- A moment of UTC: its date, its weekday and its time of day. 02, E1: "a UTC timestamp in nanoseconds since 1970-01-01 .. on the proleptic Gregorian
-- calendar". Every day has 86,400 seconds.
use Rattle.std.specs.Prelude.{ℕ, suc, ◌+◌, ◌-◌, ◌*◌, ◌/◌, ◌%◌, ℤ, pos, negsuc}
use Rattle.calendar.specs.Dates.{day_number, date_of}
use Rattle.calendar.specs.declared.Moment.{Moment}

-- A second and a millisecond in nanoseconds, and a day in seconds.
abbrev pub second_nanos : ℕ
second_nanos = 1000000000

abbrev pub milli_nanos : ℕ
milli_nanos = 1000000

abbrev pub day_seconds : ℕ
day_seconds = 86400

-- 1970-01-01, a Thursday. Weekdays count from Monday, 0.
unfoldable pub epoch_day : ℕ
epoch_day = day_number (record { year = 1970; month = 1; day = 1 })

abbrev pub thursday : ℕ
thursday = 3

-- The nanoseconds from the beginning of the year 0 to a timestamp. They are never negative, since the least timestamp lies in 1677.
unfoldable pub since_year0 : ℤ → ℕ
since_year0 (pos n) = epoch_day * day_seconds * second_nanos + n
since_year0 (negsuc n) = epoch_day * day_seconds * second_nanos - suc n

-- The weekday of a day: it is n - epoch_day days from a Thursday, and 7 times epoch_day days are whole weeks.
unfoldable pub weekday_of : ℕ → ℕ
weekday_of n = (thursday + (n + 7 * epoch_day - epoch_day)) % 7

-- The day of the year: the first of January is 1.
unfoldable pub ordinal_of : ℕ → ℕ
ordinal_of n = n - day_number (record { year = (date_of n).year; month = 1; day = 1 }) + 1

-- The moment so many nanoseconds behind the beginning of second s of day n.
abbrev pub on_day : ℕ → ℕ → ℕ → Moment
on_day n s nanos =
    record {
      year = (date_of n).year;
      month = (date_of n).month;
      day = (date_of n).day;
      ordinal = ordinal_of n;
      weekday = weekday_of n;
      hour = s / 3600;
      minute = s / 60 % 60;
      second = s % 60;
      nanos = nanos;
    }

unfoldable pub moment_of : ℤ → Moment
moment_of z = on_day (since_year0 z / second_nanos / day_seconds) (since_year0 z / second_nanos % day_seconds) (since_year0 z % second_nanos)
