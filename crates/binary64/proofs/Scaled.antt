-- A positive subnormal value times 2 ^ 54, as the kit's f64 product, is exact and normal. Assumes nothing.
use mathlib.Core.Path.{◌≡◌, refl, sym, ◌∙◌, subst}
use mathlib.Core.Bool.{false}
use Prim.Native.Nat.{ℕ, ◌-◌, ◌*◌, ◌^◌, ◌≤◌, ◌<◌}
use native.Mathlib.Nat.{lt_trans, mul-lt-mul_of_pos_right, mul-le-mul_right}
use native.Mathlib.Decide.{ℕ_discrete}
use native.Mathlib.Omega.{arith}
use lib.Dec.{lit<}
use lib.Ieee.{Float, binary64, of_bits, of_fields, odd, mul}
use lib.Ieee.Bits.{of_bits-to_bits, to_bits-lt}
use lib.Ieee.Fits.{mul-fits}
use lib.Ieee.Exact.{HasValue, round_exact}
use lib.Ieee.Positive.{mul_at, positive_of_value}
use borrow.Author.Tests.{lt-leb, ne_eqb}
use Rattle.binary64.specs.Fields.{negative, exponent_field, fraction_field, significand, units, scaled_bits}
use Rattle.binary64.proofs.Value.{field_bounds, finite_value, finite_exponent, one_value, units_zero}

exponent_zero : (b : ℕ) → b < 2 ^ 52 → exponent_field b ≡ 0
unfolding exponent_field
exponent_zero b h = omega arith

fraction_whole : (b : ℕ) → b < 2 ^ 52 → fraction_field b ≡ b
unfolding fraction_field
fraction_whole b h = omega arith

pub subnormal_units : (b : ℕ) → b < 2 ^ 52 → (exponent_field b ≡ 0) × (fraction_field b ≡ b) × (units b ≡ b)
subnormal_units b h =
    (exponent_zero b h, fraction_whole b h, units_zero b (exponent_zero b h) ∙ fraction_whole b h)

not_negative : (b : ℕ) → b < 2 ^ 63 → negative b ≡ false
unfolding negative
not_negative b h = lt-leb _ _ h

pub subnormal_value : (b : ℕ) → b < 2 ^ 52 → HasValue (of_bits binary64 b) false b (2 ^ 1074)
subnormal_value b h =
    let u = subnormal_units b h in
    simp (not_negative b (omega arith), u.2) at (finite_value b (omega arith) (omega arith))

-- the factor, 2 ^ 54
abbrev pub factor : Float
factor = of_bits binary64 0x4350_0000_0000_0000

factor_value : HasValue factor false (2 ^ 54) 1
unfolding of_bits of_fields odd
factor_value = (refl, refl)

pub product_value : (b : ℕ) → 1 ≤ b → b < 2 ^ 52 → HasValue (mul binary64 (of_bits binary64 b) factor) false (b * 2 ^ 54) (2 ^ 1074)
product_value b p h =
    let v = subnormal_value b h in
    subst (λ (x : Float). HasValue x false (b * 2 ^ 54) (2 ^ 1074))
    (sym
    (mul_at binary64 (of_bits binary64 b) factor b (2 ^ 1074) (2 ^ 54) 1 (positive_of_value (of_bits binary64 b) b (2 ^ 1074) v p)
    (positive_of_value factor (2 ^ 54) 1 factor_value (lit< tt)) (lit< tt) (lit< tt) v factor_value))
    (round_exact binary64 false (b * 2 ^ 54) (2 ^ 1074) b 54 (lit< tt) (lt_trans h (lit< tt))
    (lt_trans (mul-lt-mul_of_pos_right {k = 2 ^ 54} h (lit< tt)) (lit< {m = 2 ^ 106} {n = 2 ^ 2098} tt)) refl)

-- the product, read back from its bits
scaled_is : (b : ℕ) → of_bits binary64 (scaled_bits b) ≡ mul binary64 (of_bits binary64 b) factor
unfolding scaled_bits
scaled_is b = of_bits-to_bits binary64 (mul binary64 (of_bits binary64 b) factor) (mul-fits binary64 (of_bits binary64 b) factor)

scaled_lt : (b : ℕ) → scaled_bits b < 2 ^ 64
unfolding scaled_bits
scaled_lt b = to_bits-lt binary64 (mul binary64 (of_bits binary64 b) factor) (mul-fits binary64 (of_bits binary64 b) factor)

units_least : (b : ℕ) → 1 ≤ exponent_field b → 2 ^ 52 * 2 ^ (exponent_field b - 1) ≤ units b
unfolding units significand
units_least b h = simp (ne_eqb (exponent_field b) 0 (λ e. omega arith)) (mul-le-mul_right (2 ^ (exponent_field b - 1)) (omega arith))

module _ (b : ℕ) (p : 1 ≤ b) (h : b < 2 ^ 52) where
  pub scaled_value : HasValue (of_bits binary64 (scaled_bits b)) false (b * 2 ^ 54) (2 ^ 1074)
  scaled_value = rw (scaled_is b) (product_value b p h)

  scaled_finite : exponent_field (scaled_bits b) < 2047
  scaled_finite = finite_exponent (scaled_bits b) false (b * 2 ^ 54) (2 ^ 1074) (scaled_lt b) scaled_value

  pub scaled_exact : units (scaled_bits b) ≡ b * 2 ^ 54
  scaled_exact =
      one_value (of_bits binary64 (scaled_bits b)) (negative (scaled_bits b)) false (units (scaled_bits b)) (b * 2 ^ 54) (2 ^ 1074)
      (finite_value (scaled_bits b) (scaled_lt b) scaled_finite) scaled_value

  pub scaled_normal : (1 ≤ exponent_field (scaled_bits b)) × (exponent_field (scaled_bits b) < 2047)
  scaled_normal = (
    elim (ℕ_discrete (exponent_field (scaled_bits b)) 0)
        [ yes e ↦ absurd (omega (arith, scaled_exact, units_zero (scaled_bits b) e, (field_bounds (scaled_bits b)).1)) | no n ↦ omega arith ],
    scaled_finite,
  )
