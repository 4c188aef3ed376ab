-- Shifts by four bits a digit, as powers of 16. The code's `1 << k` is `1 * 2 ^ k % 2 ^ 64`. Assumes nothing.
use mathlib.Core.Path.{◌≡◌, refl, sym, ap, ◌∙◌}
use Prim.Native.Nat.{ℕ, zero, suc, ◌-◌, ◌*◌, ◌%◌, ◌^◌, ◌≤◌, ◌<◌}
use native.Mathlib.Nat.{pow-suc, one-mul, mod-eq_of_lt}
use native.Mathlib.Omega.{arith}
use lib.Pow.{pow-add, pow-lt}

pub sixteens : (p : ℕ) → 2 ^ (4 * p) ≡ 16 ^ p
sixteens zero = refl
sixteens (suc p) =
    ap (λ (z : ℕ). 2 ^ z) (omega arith) ∙ pow-add 2 (4 * p) 4 ∙ ap (λ (z : ℕ). z * 16) (sixteens p) ∙ sym (pow-suc 16 p)

-- what p digits leave of the 13 of a fraction
pub sixteens_left : (p : ℕ) → p ≤ 13 → 2 ^ (52 - 4 * p) ≡ 16 ^ (13 - p)
sixteens_left p h = ap (λ (z : ℕ). 2 ^ z) (omega arith) ∙ sixteens (13 - p)

one_shifted : (k : ℕ) → k < 64 → 1 * 2 ^ k % 2 ^ 64 ≡ 2 ^ k
one_shifted k h = simp one-mul (mod-eq_of_lt (pow-lt h))

pub shifted : (p : ℕ) → p < 16 → 1 * 2 ^ (4 * p) % 2 ^ 64 ≡ 16 ^ p
shifted p h = one_shifted (4 * p) (omega arith) ∙ sixteens p

pub shifted_left : (p : ℕ) → p ≤ 13 → 1 * 2 ^ (52 - 4 * p) % 2 ^ 64 ≡ 16 ^ (13 - p)
shifted_left p h = one_shifted (52 - 4 * p) (omega arith) ∙ sixteens_left p h
