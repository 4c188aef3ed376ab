-- The parts of every finite value's text, read back, denote the value as demand 3 says. Assumes nothing.
use Rattle.std.specs.Prelude.{None, Option, Some}
use mathlib.Core.Path.{◌≡◌, refl, sym, ap, ◌∙◌}
use mathlib.Core.Bool.{Bool, true, false, ◌||◌}
use Prim.Native.Nat.{ℕ, ◌+◌, ◌-◌, ◌*◌, ◌^◌, ◌≤◌, ◌<◌, max}
use native.Mathlib.Nat.{mul-one, zero-mul, zero-add, mul-pos}
use native.Mathlib.Decide.{dec_lt}
use native.Mathlib.Omega.{arith}
use lib.Dec.{ltb, eqb, lit≤}
use lib.Pow.{pow_pos}
use borrow.Author.Tests.{lt-ltb, le-ltb, le-leb, lt-leb, eq-eqb, ne_eqb, ltb-true, ltb-false}
use Rattle.writing.proofs.Choose.{by_test}
use Rattle.binary64.specs.Fields.{negative, exponent_field, fraction_field, significand, units, scaled_bits}
use Rattle.binary64.specs.HexFloat.{zero_form, normal_form, subnormal_form, shortest, rounded, normal_of, subnormal_of, hex_float_of}
use Rattle.binary64.specs.declared.HexFloat.{HexFloat}
use Rattle.binary64.proofs.Value.{field_bounds, units_zero}
use Rattle.binary64.proofs.Scaled.{scaled_exact, scaled_normal}
use Rattle.reading.specs.Reading.{Scaled}
use Rattle.reading.specs.Nearness.{claim, Exactly, Nearest, Denotes}
use Rattle.reading.proofs.Floats.{scaled_of}
use Rattle.reading.proofs.Exact.{whole-is-value, from-significand}
use Rattle.reading.proofs.Forms.{whole_of, places_of, whole-shortest, whole_long, by_form}
use Rattle.reading.proofs.Nearest.{nearest_of}

-- Parts that write the significand S of a value of S * 2 ^ q units are exact.
exactly : (b : ℕ) (h : HexFloat) (S q : ℕ) → units b ≡ S * 2 ^ q → q + (h.bias + 52) ≡ h.exponent + 1074 → whole_of h * 2 ^ 52 ≡ S * 16 ^ places_of h
    → Exactly b (scaled_of (negative b) h)
exactly b h S q u e w =
    let m = whole_of h in
    let f = places_of h in
    let same = from-significand m S f q (units b) h.exponent h.bias u e w in
    record { sign = refl; number = whole-is-value b m f h.exponent h.bias same }

-- a normal value's units, and that they are not 0
normal_units : (b : ℕ) → 1 ≤ exponent_field b → units b ≡ (2 ^ 52 + fraction_field b) * 2 ^ (exponent_field b - 1)
unfolding units significand
normal_units b h = simp (ne_eqb (exponent_field b) 0 (λ e. omega arith))

normal_not_zero : (b : ℕ) → 1 ≤ exponent_field b → units b ≡ 0 → ⊥
normal_not_zero b h e =
    let S = 2 ^ 52 + fraction_field b in
    let k = exponent_field b - 1 in
    omega (arith, normal_units b h, mul-pos {m = S} {n = 2 ^ k} (omega arith) (pow_pos k))

-- which of the two claims stands, for a value that is not 0
exact_claim : (b p : ℕ) (r : Scaled) → 13 ≤ p → Exactly b r → Denotes b (Some p) r
exact_claim b p r h x = simp (le-leb 13 p h) (go (eqb (units b) 0))
  where
    go : (t : Bool) → claim (t || true) (Exactly b r) (Nearest b (max p 1) r)
    go true = x
    go false = x

near-claim : (b p : ℕ) (r : Scaled) → (units b ≡ 0 → ⊥) → p < 13 → Nearest b (max p 1) r → Denotes b (Some p) r
near-claim b p r n h x = simp (ne_eqb (units b) 0 n, lt-leb 13 p h) x

normal_denotes : (b : ℕ) (p : Option ℕ) → 1 ≤ exponent_field b → Denotes b p (scaled_of (negative b) (normal_of p (fraction_field b) (exponent_field b) 1023))
unfolding shortest rounded
normal_denotes b None h =
    let f = fraction_field b in
    let E = exponent_field b in
    exactly b (shortest f E 1023) (2 ^ 52 + f) (E - 1) (normal_units b h) (omega arith) (whole-shortest f E 1023)
normal_denotes b (Some p) h =
    let f = fraction_field b in
    let E = exponent_field b in
    let n = max p 1 in
    elim (dec_lt p 13) [
      | yes k ↦
          let value = mul-one (units b) ∙ normal_units b h in
          near-claim b p _ (normal_not_zero b h) k
          (simp (lt-ltb n 13 (omega arith)) (nearest_of b f E 0 n (field_bounds b).1 h (lit≤ tt) (omega arith) (omega arith) value))
      | no k ↦
          let whole = whole_long f E 1023 n (omega arith) in
          exact_claim b p _ (omega arith)
          (simp (le-ltb n 13 (omega arith)) (exactly b (normal_form f 13 (n - 13) E 1023) (2 ^ 52 + f) (E - 1) (normal_units b h) (omega arith) whole))
    ]

-- a value without a leading 1
module _ (b : ℕ) (z : exponent_field b ≡ 0) where
  unscaled : Exactly b (scaled_of (negative b) (subnormal_form (fraction_field b)))
  unscaled =
      let f = fraction_field b in
      let whole : whole_of (subnormal_form f) ≡ f = mul-one (0 * 16 ^ 13 + f) ∙ ap (λ (n : ℕ). n + f) (zero-mul (16 ^ 13)) ∙ zero-add f in
      exactly b (subnormal_form f) f 0 (units_zero b z ∙ sym (mul-one f)) refl (ap (λ (n : ℕ). n * 2 ^ 52) whole)

  zero_exact : fraction_field b ≡ 0 → Exactly b (scaled_of (negative b) zero_form)
  zero_exact e = exactly b zero_form 0 1022 (units_zero b z ∙ e ∙ sym (zero-mul (2 ^ 1022))) refl refl

  -- the product with 2 ^ 54 is exact, and normal
  scaled_denotes : (p : ℕ) → 1 ≤ fraction_field b → p < 13
      → Nearest b (max p 1)
      (scaled_of (negative b)
      (normal_of (Some p) (fraction_field (scaled_bits (fraction_field b))) (exponent_field (scaled_bits (fraction_field b))) (1023 + 54)))
  unfolding rounded
  scaled_denotes p n k =
      let f = fraction_field b in
      let x = scaled_bits f in
      let w = scaled_normal f n (field_bounds b).1 in
      simp (lt-ltb (max p 1) 13 (omega arith))
      (nearest_of b (fraction_field x) (exponent_field x) 54 (max p 1) (field_bounds x).1 w.0 (lit≤ tt) (omega arith) (omega arith)
      (ap (λ (n : ℕ). n * 2 ^ 54) (units_zero b z) ∙ sym (scaled_exact f n (field_bounds b).1) ∙ normal_units x w.0))

  subnormal_denotes : (p : Option ℕ) → 1 ≤ fraction_field b → Denotes b p (scaled_of (negative b) (subnormal_of p (fraction_field b)))
  subnormal_denotes None n = unscaled
  subnormal_denotes (Some p) n =
      by_test (λ (h : HexFloat). Denotes b (Some p) (scaled_of (negative b) h)) (ltb p 13) _ _
      (λ k. near-claim b p _ (λ e. omega (arith, units_zero b z)) (ltb-true p 13 k) (scaled_denotes p n (ltb-true p 13 k)))
      (λ k. exact_claim b p _ (ltb-false p 13 k) unscaled)

  zero_denotes : (p : Option ℕ) → fraction_field b ≡ 0 → Denotes b p (scaled_of (negative b) zero_form)
  zero_denotes None e = zero_exact e
  zero_denotes (Some p) e = simp (eq-eqb (units b) 0 (units_zero b z ∙ e)) (zero_exact e)

-- Demand 3 for %a, of the parts of the text. (Of an infinity or a NaN it says nothing that counts: these have texts of their own.)
pub denotes : (b : ℕ) (p : Option ℕ) → Denotes b p (scaled_of (negative b) (hex_float_of b p))
denotes b p =
    by_form (λ (h : HexFloat). Denotes b p (scaled_of (negative b) h)) b p
    (λ z. zero_denotes b z p) (λ z. subnormal_denotes b z p) (normal_denotes b p)
