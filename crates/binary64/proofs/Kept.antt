-- The digits of a fraction without its trailing zeros, one digit at a time. Assumes nothing.
use mathlib.Core.Path.{◌≡◌, refl, ap}
use Prim.Native.Nat.{ℕ, zero, suc, ◌+◌, ◌-◌, ◌*◌, ◌/◌, ◌%◌, ◌≤◌, ◌<◌, min}
use lib.Count.{count_trailing_zeros}
use native.Mathlib.Decide.{ℕ_discrete}
use native.Mathlib.Numerals.{sub-one}
use native.Mathlib.Omega.{arith}
use borrow.Author.Tests.{eq-eqb, ne_eqb}
use Rattle.binary64.specs.Rounding.{kept_digits}

-- a trailing zero goes
pub kept_less : (k x : ℕ) → 1 < k → x % 16 ≡ 0 → kept_digits k x ≡ kept_digits (k - 1) (x / 16)
unfolding kept_digits
kept_less zero x h e = absurd (omega arith)
kept_less (suc zero) x h e = absurd (omega arith)
kept_less (suc (suc k)) x h e = simp (sub-one, eq-eqb _ _ e)

-- any other last digit stays, and so do those before it
pub kept-all : (k x : ℕ) → 1 < k → (x % 16 ≡ 0 → ⊥) → kept_digits k x ≡ k
unfolding kept_digits
kept-all zero x h n = absurd (omega arith)
kept-all (suc zero) x h n = absurd (omega arith)
kept-all (suc (suc k)) x h n = simp (ne_eqb _ _ n)

pub kept-one : (x : ℕ) → kept_digits 1 x ≡ 1
unfolding kept_digits
kept-one x = refl

-- at least one digit, and no more than there were
pub kept_bounds : (k x : ℕ) → (1 ≤ kept_digits (suc k) x) × (kept_digits (suc k) x ≤ suc k)
kept_bounds zero x = let e = kept-one x in (omega arith, omega arith)
kept_bounds (suc k) x =
    elim (ℕ_discrete (x % 16) 0) [
      | yes e ↦ let f = simp sub-one at (kept_less (suc (suc k)) x (omega arith) e) in let b = kept_bounds k (x / 16) in (omega arith, omega arith)
      | no n ↦ let f = kept-all (suc (suc k)) x (omega arith) n in (omega arith, omega arith)
    ]

-- A fraction's trailing zeros by those of its binary digits, four for each of its own.
even : (k x : ℕ) → x % 2 ≡ 0 → count_trailing_zeros (suc k) x ≡ suc (count_trailing_zeros k (x / 2))
unfolding count_trailing_zeros
even k x e = simp e

odd : (k x : ℕ) → (x % 2 ≡ 0 → ⊥) → count_trailing_zeros (suc k) x ≡ 0
unfolding count_trailing_zeros
odd k x n = let e : x % 2 ≡ 1 = omega arith in simp e

zero_digit : (k x : ℕ) → x % 16 ≡ 0 → count_trailing_zeros (suc (suc (suc (suc k)))) x ≡ 4 + count_trailing_zeros k (x / 16)
zero_digit k x e =
    let f : x / 2 / 2 / 2 / 2 ≡ x / 16 = omega arith in
    omega (
      arith,
      even (suc (suc (suc k))) x (omega arith),
      even (suc (suc k)) (x / 2) (omega arith),
      even (suc k) (x / 2 / 2) (omega arith),
      even k (x / 2 / 2 / 2) (omega arith),
      ap (count_trailing_zeros k) f,
    )

other_digit : (k x : ℕ) → (x % 16 ≡ 0 → ⊥) → count_trailing_zeros (suc (suc (suc (suc k)))) x < 4
other_digit k x n =
    elim (ℕ_discrete (x % 2) 0) [
      | no o ↦ omega (arith, odd (suc (suc (suc k))) x o)
      | yes a ↦
          let p = even (suc (suc (suc k))) x a in
          elim (ℕ_discrete (x / 2 % 2) 0) [
            | no o ↦ omega (arith, odd (suc (suc k)) (x / 2) o)
            | yes b ↦
                let q = even (suc (suc k)) (x / 2) b in
                elim (ℕ_discrete (x / 2 / 2 % 2) 0) [
                  | no o ↦ omega (arith, odd (suc k) (x / 2 / 2) o)
                  | yes c ↦ let r = even (suc k) (x / 2 / 2) c in omega (arith, odd k (x / 2 / 2 / 2) (λ d. n (omega arith)))
                ]
          ]
    ]

kept_zeros : (k x : ℕ) → kept_digits (suc k) x ≡ suc k - min (count_trailing_zeros (4 * k + 16) x / 4) k
kept_zeros zero x = omega (arith, kept-one x)
kept_zeros (suc k) x =
    let w : 4 * suc k + 16 ≡ suc (suc (suc (suc (4 * k + 16)))) = omega arith in
    let v = ap (λ (m : ℕ). count_trailing_zeros m x) w in
    elim (ℕ_discrete (x % 16) 0) [
      | yes e ↦
          let f = simp sub-one at (kept_less (suc (suc k)) x (omega arith) e) in
          omega (arith, zero_digit (4 * k + 16) x e, kept_zeros k (x / 16))
      | no n ↦ omega (arith, kept-all (suc (suc k)) x (omega arith) n, other_digit (4 * k + 16) x n)
    ]

pub kept_by_zeros : (x : ℕ) → kept_digits 13 x ≡ 13 - min (count_trailing_zeros 64 x / 4) 12
kept_by_zeros x = kept_zeros 12 x
