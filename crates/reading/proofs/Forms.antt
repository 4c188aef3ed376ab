-- The parts of a value's hexadecimal text: at least one digit, no digit lost, and the whole number that they make. Assumes nothing.
use Rattle.std.specs.Prelude.{None, Option, Some}
use mathlib.Core.Path.{◌≡◌, sym, ap, ◌∙◌}
use mathlib.Core.Bool.{false}
use Prim.Native.Nat.{ℕ, zero, suc, ◌+◌, ◌-◌, ◌*◌, ◌/◌, ◌%◌, ◌^◌, ◌≤◌, ◌<◌, max}
use native.Mathlib.Nat.{mul_assoc, mul_comm, mul-one, one-mul, add-zero, add-mul, pow-suc, div-div-eq-div-mul, div-one, div-lt_iff_lt-mul, mul-pos}
use native.Mathlib.Decide.{dec_lt}
use native.Mathlib.Omega.{arith}
use lib.Dec.{ltb, eqb, lit<, lit≤}
use lib.Pow.{pow-add}
use borrow.Author.Tests.{eq-eqb, ne_eqb, eqb-true, eqb-false, ltb-true}
use Rattle.writing.proofs.Choose.{by_test}
use Rattle.binary64.specs.Fields.{exponent_field, fraction_field, scaled_bits}
use Rattle.binary64.specs.Rounding.{nearest_to, kept_digits}
use Rattle.binary64.specs.HexFloat.{zero_form, normal_form, subnormal_form, shortest, carried, rounded, normal_of, subnormal_of, hex_float_of}
use Rattle.binary64.specs.declared.HexFloat.{HexFloat}
use Rattle.binary64.proofs.Kept.{kept_bounds}
use Rattle.binary64.proofs.Value.{field_bounds}
use Rattle.hexfloats.specs.Texts.{leading_digit}

-- m and f of the number that a text in parts makes
abbrev pub whole_of : HexFloat → ℕ
whole_of h = (leading_digit h.leading * 16 ^ h.digits + h.fraction) * 16 ^ h.zeros

abbrev pub places_of : HexFloat → ℕ
places_of h = h.digits + h.zeros

pub record WellFormed (h : HexFloat) : Type 0 where
  pub one_digit : 1 ≤ h.digits
  pub below : h.fraction < 16 ^ h.digits

pub sixteen_pos : (p : ℕ) → 0 < 16 ^ p
sixteen_pos zero = lit< tt
sixteen_pos (suc p) = rw (pow-suc 16 p) (mul-pos (sixteen_pos p) (lit< tt))

-- the digits kept of x, and the zeros behind them, are all its digits
pub kept_whole : (k x : ℕ) → x / 16 ^ (suc k - kept_digits (suc k) x) * 16 ^ (suc k - kept_digits (suc k) x) ≡ x
unfolding kept_digits
kept_whole zero x = simp (div-one, mul-one)
kept_whole (suc k) x = elim (dec_lt (x % 16) 1) [ yes p ↦ less (omega arith) (kept_whole k (x / 16)) | no n ↦ all (omega arith) ]
  where
    less : x % 16 ≡ 0 → x / 16 / 16 ^ (suc k - kept_digits (suc k) (x / 16)) * 16 ^ (suc k - kept_digits (suc k) (x / 16)) ≡ x / 16
        → x / 16 ^ (suc (suc k) - kept_digits (suc (suc k)) x) * 16 ^ (suc (suc k) - kept_digits (suc (suc k)) x) ≡ x
    less z ih =
        let n = kept_digits (suc k) (x / 16) in
        let j = suc k - n in
        let e : suc (suc k) - n ≡ suc j = omega (arith, (kept_bounds k (x / 16)).1) in
        let q = x / 16 / 16 ^ j in
        simp (eq-eqb (x % 16) 0 z)
        (ap (λ (i : ℕ). x / 16 ^ i * 16 ^ i) e
        ∙ ap (λ (w : ℕ). x / w * w) (pow-suc 16 j ∙ mul_comm (16 ^ j) 16)
        ∙ ap (λ (w : ℕ). w * (16 * 16 ^ j)) (sym (div-div-eq-div-mul x 16 (16 ^ j)))
        ∙ ap (λ (w : ℕ). q * w) (mul_comm 16 (16 ^ j))
        ∙ sym (mul_assoc q (16 ^ j) 16)
        ∙ ap (λ (w : ℕ). w * 16) ih
        ∙ omega arith)

    all : 1 ≤ x % 16 → x / 16 ^ (suc (suc k) - kept_digits (suc (suc k)) x) * 16 ^ (suc (suc k) - kept_digits (suc (suc k)) x) ≡ x
    all n =
        let e : suc (suc k) - suc (suc k) ≡ 0 = omega arith in
        simp (ne_eqb (x % 16) 0 (λ f. omega arith), e, div-one, mul-one)

-- A normal value with the fraction f.
module _ (f e bias : ℕ) (f-below : f < 2 ^ 52) where
  well_shortest : WellFormed (shortest f e bias)
  unfolding shortest
  well_shortest =
      let n = kept_digits 13 f in
      let b = kept_bounds 12 f in
      let d : 13 ≡ n + (13 - n) = omega arith in
      let s : 16 ^ 13 ≡ 16 ^ n * 16 ^ (13 - n) = ap (λ (i : ℕ). 16 ^ i) d ∙ pow-add 16 n (13 - n) in
      record { one_digit = b.0; below = (div-lt_iff_lt-mul (sixteen_pos (13 - n))).1 (rw (← s) f-below) }

  well_carried : (p r : ℕ) → 1 ≤ p → WellFormed (carried p r e bias)
  well_carried p r h =
      by_test WellFormed (ltb r (16 ^ p)) _ _
      (λ k. record { one_digit = h; below = ltb-true _ _ k }) (λ _. record { one_digit = h; below = sixteen_pos p })

  well_rounded : (p : ℕ) → 1 ≤ p → WellFormed (rounded p f e bias)
  unfolding rounded
  well_rounded p h =
      by_test WellFormed (ltb p 13) _ _
      (λ _. well_carried p (nearest_to f (16 ^ (13 - p))) h) (λ _. record { one_digit = lit≤ tt; below = f-below })

  pub well_normal : (p : Option ℕ) → WellFormed (normal_of p f e bias)
  well_normal None = well_shortest
  well_normal (Some p) = well_rounded (max p 1) (omega arith)

-- What holds of the three forms holds of every value's.
pub by_form : (P : HexFloat → Type 0) (b : ℕ) (p : Option ℕ)
    → (exponent_field b ≡ 0 → fraction_field b ≡ 0 → P zero_form)
    → (exponent_field b ≡ 0 → 1 ≤ fraction_field b → P (subnormal_of p (fraction_field b)))
    → (1 ≤ exponent_field b → P (normal_of p (fraction_field b) (exponent_field b) 1023))
    → P (hex_float_of b p)
unfolding hex_float_of
by_form P b p none subnormal normal =
    by_test P (eqb (exponent_field b) 0) _ _
    (λ e. by_test P (eqb (fraction_field b) 0) _ _
    (λ f. none (eqb-true _ 0 e) (eqb-true _ 0 f)) (λ f. subnormal (eqb-true _ 0 e) (positive (fraction_field b) f)))
    (λ e. normal (positive (exponent_field b) e))
  where
    positive : (x : ℕ) → eqb x 0 ≡ false → 1 ≤ x
    positive x t = omega (arith, eqb-false x 0 t)

-- Every text has at least one digit behind the point, and its fraction fits its digits.
pub well_formed_lem : (b : ℕ) (p : Option ℕ) → WellFormed (hex_float_of b p)
well_formed_lem b p =
    by_form WellFormed b p (λ _ _. record { one_digit = lit≤ tt; below = lit< tt }) (λ _ _. subnormal p)
    (λ _. well_normal (fraction_field b) (exponent_field b) 1023 (field_bounds b).1 p)
  where
    unscaled : WellFormed (subnormal_form (fraction_field b))
    unscaled = record { one_digit = lit≤ tt; below = (field_bounds b).1 }

    scaled : (p : ℕ)
        → WellFormed (normal_of (Some p) (fraction_field (scaled_bits (fraction_field b))) (exponent_field (scaled_bits (fraction_field b))) (1023 + 54))
    scaled p = let x = scaled_bits (fraction_field b) in well_normal (fraction_field x) (exponent_field x) (1023 + 54) (field_bounds x).1 (Some p)

    subnormal : (p : Option ℕ) → WellFormed (subnormal_of p (fraction_field b))
    subnormal None = unscaled
    subnormal (Some p) = by_test WellFormed (ltb p 13) _ _ (λ _. scaled p) (λ _. unscaled)

-- The significand 2 ^ 52 + f, of 13 digits behind the point, as the parts write it: m * 16 ^ 13 is it times 16 to the number of digits.
module _ (f e bias : ℕ) where
  pub whole-shortest : whole_of (shortest f e bias) * 2 ^ 52 ≡ (2 ^ 52 + f) * 16 ^ places_of (shortest f e bias)
  unfolding shortest
  whole-shortest =
      let n = kept_digits 13 f in
      let q = f / 16 ^ (13 - n) in
      let b = kept_bounds 12 f in
      let d : 13 ≡ 13 - n + n = omega arith in
      let s : 2 ^ 52 ≡ 16 ^ (13 - n) * 16 ^ n = ap (λ (i : ℕ). 16 ^ i) d ∙ pow-add 16 (13 - n) n in
      let g : q * 2 ^ 52 ≡ f * 16 ^ n =
      ap (λ (i : ℕ). q * i) s ∙ sym (mul_assoc q (16 ^ (13 - n)) (16 ^ n)) ∙ ap (λ (i : ℕ). i * 16 ^ n) (kept_whole 12 f) in
      simp (mul-one, one-mul, add-zero)
      (add-mul (16 ^ n) q (2 ^ 52)
      ∙ ap (λ (i : ℕ). i + q * 2 ^ 52) (mul_comm (16 ^ n) (2 ^ 52))
      ∙ ap (λ (i : ℕ). 2 ^ 52 * 16 ^ n + i) g
      ∙ sym (add-mul (2 ^ 52) f (16 ^ n)))

  pub whole_long : (p : ℕ) → 13 ≤ p
      → whole_of (normal_form f 13 (p - 13) e bias) * 2 ^ 52 ≡ (2 ^ 52 + f) * 16 ^ places_of (normal_form f 13 (p - 13) e bias)
  whole_long p h =
      mul_assoc (1 * 16 ^ 13 + f) (16 ^ (p - 13)) (2 ^ 52)
      ∙ ap (λ (i : ℕ). (2 ^ 52 + f) * i) (mul_comm (16 ^ (p - 13)) (16 ^ 13) ∙ sym (pow-add 16 13 (p - 13)))
