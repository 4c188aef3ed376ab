-- The year of a day from the length of 400 years, 146,097 days: at most one too small. And how far the numbers of years, months and days go.
-- Assumes nothing.
use Prim.Native.Nat.{ℕ, suc, ◌+◌, ◌-◌, ◌*◌, ◌/◌, ◌≤◌, ◌<◌}
use mathlib.Core.Path.{◌≡◌, ap, sym, ◌∙◌}
use mathlib.Core.Bool.{Bool}
use native.Mathlib.Omega.{arith}
use native.Mathlib.Nat.{zero-add}
use Rattle.calendar.specs.Dates.{is_leap, month_length, days_of, year_length, year_day, month_day}
use Rattle.calendar.proofs.Counting.{days_next, Lies, lies}
use Rattle.calendar.proofs.Years.{days_before}
use Rattle.calendar.proofs.Finite.{most_days}
use Rattle.calendar.proofs.Only.{year-day, in_year_lem, month-day}

up_4 : (y : ℕ) → ((y + 3) / 4 * 4 ≤ y + 3) × (y ≤ (y + 3) / 4 * 4)
up_4 y = (omega arith, omega arith)

up_100 : (y : ℕ) → ((y + 99) / 100 * 100 ≤ y + 99) × (y ≤ (y + 99) / 100 * 100)
up_100 y = (omega arith, omega arith)

up_400 : (y : ℕ) → ((y + 399) / 400 * 400 ≤ y + 399) × (y ≤ (y + 399) / 400 * 400)
up_400 y = (omega arith, omega arith)

between : (d a b c y : ℕ) → d + a ≡ 365 * y + b + c → (b * 4 ≤ y + 3) × (y ≤ b * 4) → (a * 100 ≤ y + 99) × (y ≤ a * 100)
    → (c * 400 ≤ y + 399) × (y ≤ c * 400) → (400 * d ≤ 146097 * y + 699) × (146097 * y ≤ 400 * d + 396)
between d a b c y e p q r = (omega arith, omega arith)

-- The years before y have 146,097 times y days in 400, but for less than two days.
pub near : (y : ℕ) → (400 * days_of year_length 0 y ≤ 146097 * y + 699) × (146097 * y ≤ 400 * days_of year_length 0 y + 396)
near y = between (days_of year_length 0 y) _ _ _ y (days_before y) (up_4 y) (up_100 y) (up_400 y)

quotient : (n : ℕ) → (146097 * (n * 400 / 146097) ≤ n * 400) × (n * 400 < 146097 * (n * 400 / 146097 + 1))
quotient n = (omega arith, omega arith)

pub not_behind : (n : ℕ) → 2 ≤ n → days_of year_length 0 ((n - 2) * 400 / 146097) ≤ n
not_behind n h = omega (arith, quotient (n - 2), near ((n - 2) * 400 / 146097))

pub not_far : (n : ℕ) → 2 ≤ n → n < days_of year_length 0 ((n - 2) * 400 / 146097 + 2)
not_far n h = omega (arith, quotient (n - 2), near ((n - 2) * 400 / 146097 + 2))

-- A day that lies between the begins of two years lies in the first.
pub year_at : (n y : ℕ) → days_of year_length 0 y ≤ n → n < days_of year_length 0 (y + 1) → year_day n ≡ (y, n - days_of year_length 0 y)
year_at n y p q =
    let s : y + 1 ≡ suc y = omega arith in
    let e : days_of year_length 0 (y + 1) ≡ days_of year_length 0 y + year_length y = ap (days_of year_length 0) s ∙ days_next year_length 0 y
    ∙ ap (λ (m : ℕ). days_of year_length 0 y + year_length m) (zero-add y) in
    let k : days_of year_length 0 y + (n - days_of year_length 0 y) ≡ n = omega arith in
    ap year_day (sym k) ∙ year-day y (n - days_of year_length 0 y) (omega arith)

-- A day of a year is below its length; of a year's number, a day of it and whether it is a leap year, as they were found.
pub in_found_year : (n y k : ℕ) (leap : Bool) → y ≡ (year_day n).0 → k ≡ (year_day n).1 → leap ≡ is_leap y → k < days_of (month_length leap) 0 12
unfolding year_length
in_found_year n y k leap e f l = rw (l, f, e) (in_year_lem n).inside

pub in_month : (leap : Bool) (k : ℕ) → k < days_of (month_length leap) 0 12 → ((month_day leap k).0 < 12) × ((month_day leap k).1 < 31)
in_month leap k h =
    let l : Lies (month_length leap) 0 12 k = lies (month_length leap) 0 12 k h in
    let e : 0 + l.whole ≡ l.whole = zero-add _ in
    let inside : l.left < month_length leap l.whole = rw e at l.inside in
    let found : month_day leap k ≡ (l.whole, l.left) = ap (month_day leap) (sym l.counted) ∙ month-day leap l.whole l.left l.among inside in
    rw found (l.among, omega (arith, most_days leap l.whole l.among, inside))
