-- What a test finds at every number below a bound, computed one after the other. Assumes nothing.
use Prim.Native.Nat.{ℕ, zero, suc, ◌+◌, ◌*◌, ◌-◌, ◌/◌, ◌≤◌, ◌<◌}
use mathlib.Core.Path.{◌≡◌, refl}
use mathlib.Core.Bool.{Bool, true, false, ◌&&◌}
use native.Mathlib.Omega.{arith}
use native.Mathlib.Decide.{ℕ_discrete}
use lib.Dec.{eqb, leb}
use borrow.Author.Tests.{eqb-true, leb-true}
use Rattle.writing.proofs.Choose.{both}
use Rattle.calendar.specs.Dates.{february, month_length, days_of, count_off, month_day}
use Rattle.calendar.specs.Steps.{evened}
use Rattle.calendar.proofs.Years.{twelve}

abbrev every : (ℕ → Bool) → ℕ → Bool
every f zero = true
every f (suc n) = f n && every f n

below : (f : ℕ → Bool) (n : ℕ) → every f n ≡ true → (k : ℕ) → k < n → f k ≡ true
below f zero t k h = absurd (omega arith)
below f (suc n) t k h =
    elim (ℕ_discrete k n) [
      | yes p ↦ rw p (both (f n) (every f n) t).0
      | no q ↦ below f n (both (f n) (every f n) t).1 k (omega arith)
    ]

-- No month has more than 31 days.
short : Bool → ℕ → Bool
short leap m = leb (month_length leap m) 31

all_short : (leap : Bool) → every (short leap) 12 ≡ true
unfolding short
all_short true = refl
all_short false = refl

pub most_days : (leap : Bool) (m : ℕ) → m < 12 → month_length leap m ≤ 31
unfolding short
most_days leap m h = leb-true _ _ (below (short leap) 12 (all_short leap) m h)

-- No year has more than 366.
pub longest : (leap : Bool) → days_of (month_length leap) 0 12 ≤ 366
longest true = omega (arith, twelve true)
longest false = omega (arith, twelve false)

-- The month of a day of a year, and the days of the month before it, on a line.
abbrev pub month_on : ℕ → ℕ
month_on e = (e * 12 + 6) / 367

abbrev pub day_on : ℕ → ℕ
day_on e = e - (month_on e * 367 + 5) / 12

month_on_test : Bool → ℕ → Bool
month_on_test leap k = eqb (month_on (evened leap k)) (month_day leap k).0

day_on_test : Bool → ℕ → Bool
day_on_test leap k = eqb (day_on (evened leap k)) (month_day leap k).1

both_on : Bool → ℕ → Bool
both_on leap k = month_on_test leap k && day_on_test leap k

all_on : (leap : Bool) → every (both_on leap) (337 + february leap) ≡ true
unfolding both_on month_on_test day_on_test count_off
all_on true = refl
all_on false = refl

pub on_the_line : (leap : Bool) (k : ℕ) → k < days_of (month_length leap) 0 12
    → (month_on (evened leap k) ≡ (month_day leap k).0) × (day_on (evened leap k) ≡ (month_day leap k).1)
unfolding both_on month_on_test day_on_test
on_the_line leap k h =
    let t = both (month_on_test leap k) (day_on_test leap k) (below (both_on leap) (337 + february leap) (all_on leap) k (rw (twelve leap) at h)) in
    (eqb-true _ _ t.0, eqb-true _ _ t.1)
