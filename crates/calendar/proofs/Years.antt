-- The lengths of years. Assumes nothing.
use Prim.Native.Nat.{ℕ, zero, suc, ◌+◌, ◌*◌, ◌/◌, ◌%◌}
use mathlib.Core.Path.{◌≡◌, refl}
use mathlib.Core.Bool.{Bool, true, false}
use native.Mathlib.Omega.{arith}
use native.Mathlib.Nat.{zero-add}
use native.Mathlib.Decide.{ℕ_discrete}
use borrow.Author.Tests.{eq-eqb, ne_eqb}
use Rattle.calendar.specs.Dates.{is_leap, february, month_length, days_of, year_length}
use Rattle.calendar.proofs.Counting.{days_next}

-- A leap year has 366 days, any other 365.
pub twelve : (leap : Bool) → days_of (month_length leap) 0 12 ≡ 337 + february leap
unfolding days_of
twelve true = refl
twelve false = refl

-- A quotient rounded up rises at the multiples of the divisor, and nowhere else: at 4, 100 and 400.
rises_4 : (y : ℕ) → y % 4 ≡ 0 → (y + 4) / 4 ≡ (y + 3) / 4 + 1
rises_4 y p = omega arith

rests_4 : (y : ℕ) → (y % 4 ≡ 0 → ⊥) → (y + 4) / 4 ≡ (y + 3) / 4
rests_4 y p = omega arith

rises_100 : (y : ℕ) → y % 100 ≡ 0 → (y + 100) / 100 ≡ (y + 99) / 100 + 1
rises_100 y p = omega arith

rests_100 : (y : ℕ) → (y % 100 ≡ 0 → ⊥) → (y + 100) / 100 ≡ (y + 99) / 100
rests_100 y p = omega arith

rises_400 : (y : ℕ) → y % 400 ≡ 0 → (y + 400) / 400 ≡ (y + 399) / 400 + 1
rises_400 y p = omega arith

rests_400 : (y : ℕ) → (y % 400 ≡ 0 → ⊥) → (y + 400) / 400 ≡ (y + 399) / 400
rests_400 y p = omega arith

-- A multiple of 400 is one of 100, and one of 100 is one of 4.
hundreds : (y : ℕ) → y % 400 ≡ 0 → y % 100 ≡ 0
hundreds y p = omega arith

fours : (y : ℕ) → y % 100 ≡ 0 → y % 4 ≡ 0
fours y p = omega arith

-- What the rule of leap years adds in a year: one for a multiple of 4, none for one of 100, one for one of 400.
pub one-year : (y : ℕ) → year_length y + (y + 100) / 100 + (y + 3) / 4 + (y + 399) / 400 ≡ 365 + (y + 99) / 100 + (y + 4) / 4 + (y + 400) / 400
unfolding year_length is_leap
one-year y =
    elim (ℕ_discrete (y % 100) 0) [
      | yes p ↦
          elim (ℕ_discrete (y % 400) 0) [
            | yes q ↦ simp (twelve, eq-eqb _ _ p, eq-eqb _ _ q, rises_4 y (fours y p), rises_100 y p, rises_400 y q) (omega arith)
            | no q ↦ simp (twelve, eq-eqb _ _ p, ne_eqb _ _ q, rises_4 y (fours y p), rises_100 y p, rests_400 y q) (omega arith)
          ]
      | no p ↦
          let q400 : (y + 400) / 400 ≡ (y + 399) / 400 = rests_400 y (λ q. p (hundreds y q)) in
          elim (ℕ_discrete (y % 4) 0) [
            | yes q ↦ simp (twelve, ne_eqb _ _ p, eq-eqb _ _ q, rises_4 y q, rests_100 y p, q400) (omega arith)
            | no q ↦ simp (twelve, ne_eqb _ _ p, ne_eqb _ _ q, rests_4 y q, rests_100 y p, q400) (omega arith)
          ]
    ]

one_more : (d l a b c u v w y : ℕ) → d + a ≡ 365 * y + b + c → l + u + b + c ≡ 365 + a + v + w → d + l + u ≡ 365 * (y + 1) + v + w
one_more d l a b c u v w y p q = omega arith

-- The days of the years before y.
pub days_before : (y : ℕ) → days_of year_length 0 y + (y + 99) / 100 ≡ 365 * y + (y + 3) / 4 + (y + 399) / 400
unfolding days_of
days_before zero = refl
days_before (suc y) =
    let u : suc y + 99 ≡ y + 100 = omega arith in
    let v : suc y + 3 ≡ y + 4 = omega arith in
    let w : suc y + 399 ≡ y + 400 = omega arith in
    let s : suc y ≡ y + 1 = omega arith in
    rw (days_next year_length 0 y, zero-add y, u, v, w, s) (one_more (days_of year_length 0 y) (year_length y) _ _ _ _ _ _ y (days_before y) (one-year y))
