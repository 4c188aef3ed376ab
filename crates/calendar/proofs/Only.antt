-- The date of a day is the only one with its day number, and there is one. Assumes nothing.
use Prim.Native.Nat.{ℕ, zero, suc, ◌+◌, ◌-◌, ◌≤◌, ◌<◌}
use mathlib.Core.Path.{◌≡◌, refl, ap, sym, ◌∙◌}
use mathlib.Core.Bool.{Bool, true, false}
use native.Mathlib.Omega.{arith}
use native.Mathlib.Nat.{zero-add}
use Rattle.calendar.specs.Dates.{is_leap, month_length, days_of, year_length, Date, IsDate, day_number, year_day, month_day, in_year, date_of, OnlyDate}
use Rattle.calendar.proofs.Counting.{counts_off, days_within, Lies, lies}
use Rattle.calendar.proofs.Years.{twelve}

-- No year is shorter than a day.
a_day : (leap : Bool) → 1 ≤ days_of (month_length leap) 0 12
a_day true = omega (arith, twelve true)
a_day false = omega (arith, twelve false)

pub year-long : (first n : ℕ) → n ≤ days_of year_length first n
unfolding days_of year_length
year-long first zero = omega arith
year-long first (suc n) = omega (arith, a_day (is_leap first), year-long (first + 1) n)

-- A day lies in the year that begins no later than it and ends behind it.
pub year-day : (y k : ℕ) → k < year_length y → year_day (days_of year_length 0 y + k) ≡ (y, k)
unfolding year_day
year-day y k h =
    let e : 0 + y ≡ y = zero-add y in
    counts_off year_length (days_of year_length 0 y + k) 0 y k (omega (arith, year-long 0 y)) (rw e h) ∙ ap (λ (m : ℕ). (m, k)) e

-- every day lies in a year
pub in_a_year : (n : ℕ) → Lies year_length 0 (n + 1) n
in_a_year n = lies year_length 0 (n + 1) n (omega (arith, year-long 0 (n + 1)))

-- it is the one that is found, and its days before are the days that are left
pub record InYear (n : ℕ) : Type 0 where
  pub inside : (year_day n).1 < year_length (year_day n).0
  pub counted : days_of year_length 0 (year_day n).0 + (year_day n).1 ≡ n
  pub among : (year_day n).0 ≤ n

pub in_year_lem : (n : ℕ) → InYear n
in_year_lem n =
    let y = in_a_year n in
    let e : 0 + y.whole ≡ y.whole = zero-add _ in
    let inside : y.left < year_length y.whole = rw e at y.inside in
    let found : year_day n ≡ (y.whole, y.left) = ap year_day (sym y.counted) ∙ year-day y.whole y.left inside in
    record { inside = rw found inside; counted = rw found y.counted; among = rw found (omega (arith, y.among)) }

pub year_and_day : (n : ℕ) → days_of year_length 0 (year_day n).0 + (year_day n).1 ≡ n
year_and_day n = (in_year_lem n).counted

pub month-day : (leap : Bool) (m k : ℕ) → m < 12 → k < month_length leap m → month_day leap (days_of (month_length leap) 0 m + k) ≡ (m, k)
month-day leap m k b h =
    let e : 0 + m ≡ m = zero-add m in
    counts_off (month_length leap) 12 0 m k (omega arith) (rw e h) ∙ ap (λ (x : ℕ). (x, k)) e

-- The day in its year of a date.
abbrev day_in_year : Date → ℕ
day_in_year d = days_of (month_length (is_leap d.year)) 0 (d.month - 1) + (d.day - 1)

date_in : (y k m d : ℕ) → month_day (is_leap y) k ≡ (m, d) → in_year (y, k) ≡ record { year = y; month = m + 1; day = d + 1 }
date_in y k m d e = ap (λ (p : ℕ × ℕ). record { year = y; month = p.0 + 1; day = p.1 + 1 }) e

same_date : (y m n c d : ℕ) → m ≡ n → c ≡ d → ◌≡◌ {A = Date} (record { year = y; month = m; day = c }) (record { year = y; month = n; day = d })
same_date y m n c d p q = rw (p, q) refl

-- A date lies in its year.
pub in_its_year : (d : Date) → IsDate d → day_in_year d < year_length d.year
unfolding year_length
in_its_year d i =
    let in_month : d.day - 1 < month_length (is_leap d.year) (d.month - 1) = omega (arith, i) in
    let m : 0 + (d.month - 1) ≡ d.month - 1 = zero-add _ in
    days_within (month_length (is_leap d.year)) 0 (d.month - 1) 12 (d.day - 1) (omega (arith, i)) (rw m in_month)

-- A date is found by its day number.
pub date_found : (d : Date) → IsDate d → date_of (day_number d) ≡ d
unfolding date_of day_number
date_found d i =
    let in_month : d.day - 1 < month_length (is_leap d.year) (d.month - 1) = omega (arith, i) in
    let before = days_of year_length 0 d.year in
    let a : before + days_of (month_length (is_leap d.year)) 0 (d.month - 1) + (d.day - 1) ≡ before + day_in_year d = omega arith in
    ap date_of a ∙ ap in_year (year-day d.year (day_in_year d) (in_its_year d i))
    ∙ date_in d.year (day_in_year d) (d.month - 1) (d.day - 1) (month-day (is_leap d.year) (d.month - 1) (d.day - 1) (omega (arith, i)) in_month)
    ∙ same_date d.year (d.month - 1 + 1) d.month (d.day - 1 + 1) d.day (omega (arith, i)) (omega (arith, i))

-- Every day has a date.
pub record HasDate (n : ℕ) : Type 0 where
  pub date : Date
  pub valid : IsDate date
  pub numbered : day_number date ≡ n

a_date : (n y k : ℕ) → days_of year_length 0 y + k ≡ n → Lies (month_length (is_leap y)) 0 12 k → HasDate n
unfolding day_number
a_date n y k e l =
    let m : 0 + l.whole ≡ l.whole = zero-add _ in
    let inside : l.left < month_length (is_leap y) l.whole = rw m at l.inside in
    let w : l.whole + 1 - 1 ≡ l.whole = omega arith in
    let v : l.left + 1 - 1 ≡ l.left = omega arith in
    record {
      date = record { year = y; month = l.whole + 1; day = l.left + 1 };
      valid =
          record {
            from_january = omega arith;
            to_december = omega (arith, l.among);
            from_first = omega arith;
            to_last = rw w (omega (arith, inside));
          };
      numbered = rw (w, v) (omega (arith, e, l.counted));
    }

pub has_date : (n : ℕ) → HasDate n
unfolding year_length
has_date n =
    let y = in_year_lem n in
    a_date n (year_day n).0 (year_day n).1 y.counted (lies (month_length (is_leap (year_day n).0)) 0 12 (year_day n).1 y.inside)

only_date : (n : ℕ) → HasDate n → OnlyDate n (date_of n)
only_date n h =
    let e : date_of n ≡ h.date = ap date_of (sym h.numbered) ∙ date_found h.date h.valid in
    record {
      valid = rw e h.valid;
      numbered = rw e h.numbered;
      only = λ other i m. sym (date_found other i) ∙ ap date_of m;
    }

-- The theorem: every day has a date, and no other date has its number.
pub the_only_date : (n : ℕ) → OnlyDate n (date_of n)
the_only_date n = only_date n (has_date n)
