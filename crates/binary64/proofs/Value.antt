-- What a bit pattern stands for, tied to the kit's account of IEEE 754: the fields are those of `of_bits`, and a finite value is
-- `units` times the least positive value, 2 ^ -1074. Assumes nothing.
use mathlib.Core.Path.{◌≡◌, refl, sym, ◌∙◌, subst}
use mathlib.Core.Bool.{Bool, not}
use Prim.Native.Nat.{ℕ, zero, suc, ◌+◌, ◌-◌, ◌*◌, ◌^◌, ◌<◌}
use native.Mathlib.Nat.{mul-one, eq_of_mul-eq-mul_right}
use native.Mathlib.Numerals.{sub-one}
use native.Mathlib.Omega.{arith}
use native.Mathlib.Decide.{ℕ_discrete}
use lib.Dec.{T, eqb}
use lib.Ieee.{Float, nan, inf, fin, binary64, down, of_fields, of_bits, is_nan}
use lib.Ieee.Fits.{down_pos}
use lib.Ieee.Exact.{HasValue, odd_sign}
use borrow.Author.Tests.{eq-eqb, ne_eqb}
use Rattle.writing.specs.Choose.{choose}
use Rattle.binary64.specs.Fields.{negative, exponent_field, fraction_field, category_of, significand, units}
use Rattle.binary64.specs.declared.FpCategory.{FpCategory}
use Rattle.binary64.specs.declared.FpCategory.TheVariants.{Nan, Infinite, Finite}

pub field_bounds : (b : ℕ) → (exponent_field b < 2048) × (fraction_field b < 2 ^ 52)
unfolding exponent_field fraction_field
field_bounds b = (omega arith, omega arith)

-- the kit reads a pattern by these fields
by_fields : (b : ℕ) → of_bits binary64 b ≡ of_fields binary64 (negative b) (exponent_field b) (fraction_field b)
unfolding of_bits negative exponent_field fraction_field
by_fields b = refl

finite_fields : (s : Bool) (e t : ℕ) → e < 2047
    → HasValue (of_fields binary64 s e t) s (choose (eqb e 0) (λ _. t) (λ _. 2 ^ 52 + t) * 2 ^ (e - 1)) (2 ^ 1074)
unfolding of_fields
finite_fields s zero t h = odd_sign 53 s t 0 1074
finite_fields s (suc x) t h =
    simp (ne_eqb (suc x) 2047 (λ e. omega arith), ne_eqb (suc x) 0 (λ e. omega arith), sub-one) (odd_sign 53 s (2 ^ 52 + t) x 1074)

pub finite_value : (b : ℕ) → b < 2 ^ 64 → exponent_field b < 2047 → HasValue (of_bits binary64 b) (negative b) (units b) (2 ^ 1074)
unfolding units significand
finite_value b w h = rw by_fields (finite_fields (negative b) (exponent_field b) (fraction_field b) h)

pub infinite_is : (b : ℕ) → b < 2 ^ 64 → exponent_field b ≡ 2047 → fraction_field b ≡ 0 → of_bits binary64 b ≡ inf (negative b)
unfolding of_fields
infinite_is b w e f = by_fields b ∙ simp (e, f)

pub nan_is : (b : ℕ) → b < 2 ^ 64 → exponent_field b ≡ 2047 → (fraction_field b ≡ 0 → ⊥) → of_bits binary64 b ≡ nan
unfolding of_fields
nan_is b w e n = by_fields b ∙ simp (e, ne_eqb _ _ n)

-- What the bits of each category stand for.
abbrev pub Stands : FpCategory → ℕ → Type 0
Stands Nan b = of_bits binary64 b ≡ nan
Stands Infinite b = of_bits binary64 b ≡ inf (negative b)
Stands Finite b = HasValue (of_bits binary64 b) (negative b) (units b) (2 ^ 1074)

pub units_zero : (b : ℕ) → exponent_field b ≡ 0 → units b ≡ fraction_field b
unfolding units significand
units_zero b e = simp (e, mul-one)

pub value_of : (b : ℕ) → b < 2 ^ 64 → Stands (category_of b) b
unfolding category_of
value_of b w =
    elim (ℕ_discrete (exponent_field b) 2047) [
      | yes e ↦
          elim (ℕ_discrete (fraction_field b) 0)
          [ yes f ↦ simp (eq-eqb _ _ e, eq-eqb _ _ f) (infinite_is b w e f) | no f ↦ simp (eq-eqb _ _ e, ne_eqb _ _ f) (nan_is b w e f) ]
      | no n ↦ simp (ne_eqb _ _ n) (finite_value b w (omega (arith, (field_bounds b).0)))
    ]

-- the exponent field of a finite value is below 2047
pub finite_exponent : (b : ℕ) (s : Bool) (n d : ℕ) → b < 2 ^ 64 → HasValue (of_bits binary64 b) s n d → exponent_field b < 2047
finite_exponent b s n d w v = elim (ℕ_discrete (exponent_field b) 2047) [ yes e ↦ absurd (never e) | no n ↦ omega (arith, (field_bounds b).0) ]
  where
    never : exponent_field b ≡ 2047 → ⊥
    never e =
        elim (ℕ_discrete (fraction_field b) 0)
        [ yes f ↦ subst (λ (x : Float). HasValue x s n d) (infinite_is b w e f) v | no f ↦ subst (λ (x : Float). HasValue x s n d) (nan_is b w e f) v ]

-- a value is one number, over one denominator
pub one_value : (x : Float) (s t : Bool) (m n d : ℕ) → HasValue x s m d → HasValue x t n d → m ≡ n
one_value nan s t m n d v w = absurd v
one_value (inf r) s t m n d v w = absurd v
one_value (fin r k e) s t m n d v w = eq_of_mul-eq-mul_right (down e) (down_pos e) m n (sym v.1 ∙ w.1)

pub not_nan : (x : Float) (s : Bool) (n d : ℕ) → HasValue x s n d → T (not (is_nan x))
unfolding is_nan
not_nan nan s n d v = absurd v
not_nan (inf r) s n d v = absurd v
not_nan (fin r k e) s n d v = tt
