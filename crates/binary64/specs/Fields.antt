-- binary64: the fields of a bit pattern and the number that it denotes. IEEE 754-2019, 3.4: a sign bit S, a biased exponent E of 11 bits
-- and a trailing significand T of 52 bits.
use Rattle.std.specs.Prelude.{ℕ, ◌+◌, ◌-◌, ◌*◌, ◌/◌, ◌%◌, ◌^◌, Bool, leb, eqb}
use Rattle.std.specs.Float.{binary64}
use Rattle.std.specs.Float.Ieee.{of_bits, to_bits, mul}
use Rattle.writing.specs.Choose.{choose}
use Rattle.binary64.specs.declared.FpCategory.{FpCategory}
use Rattle.binary64.specs.declared.FpCategory.TheVariants.{Nan, Infinite, Finite}

-- S
unfoldable pub negative : ℕ → Bool
negative b = leb (2 ^ 63) b

-- E
unfoldable pub exponent_field : ℕ → ℕ
exponent_field b = b % 2 ^ 63 / 2 ^ 52

-- T
unfoldable pub fraction_field : ℕ → ℕ
fraction_field b = b % 2 ^ 52

-- IEEE 754-2019, 3.4: a) NaN, b) infinity, c) to e) finite.
unfoldable pub category_of : ℕ → FpCategory
category_of b =
    choose (eqb (exponent_field b) 2047) (λ _. choose (eqb (fraction_field b) 0) (λ _. Infinite) (λ _. Nan)) (λ _. Finite)

-- The significand as a whole number of 2 ^ -52: T with the leading 1, which a biased exponent of 0 does not have.
unfoldable pub significand : ℕ → ℕ
significand b = choose (eqb (exponent_field b) 0) (λ _. fraction_field b) (λ _. 2 ^ 52 + fraction_field b)

-- The magnitude of a finite value as a whole number of units of 2 ^ -1074, the least positive value. A biased exponent of 0 counts as 1.
unfoldable pub units : ℕ → ℕ
units b = significand b * 2 ^ (exponent_field b - 1)

-- 01: "is first scaled by 2 to the 54th, an exact f64 product". The product is IEEE 754's, as the kit defines it.
unfoldable pub scaled_bits : ℕ → ℕ
scaled_bits b = to_bits binary64 (mul binary64 (of_bits binary64 b) (of_bits binary64 0x4350_0000_0000_0000))
