-- %a with 1 to 12 digits: the number read lies nearest to the value among all numbers of its form, of either sign. Assumes nothing.
use mathlib.Core.Path.{◌≡◌, refl, sym, ap, ◌∙◌}
use mathlib.Core.Bool.{Bool, true, false}
use Prim.Native.Nat.{ℕ, zero, suc, ◌+◌, ◌-◌, ◌*◌, ◌%◌, ◌^◌, ◌≤◌, ◌<◌}
use native.Mathlib.Nat.{mul_assoc, mul_right_comm, mul-one, one-mul, add-mul, add-zero, mul-le-mul_right}
use native.Mathlib.Nat.{le_of_mul-le-mul_right, lt_of_mul-lt-mul_right, eq_of_mul-eq-mul_right, pow-suc, ne_of_lt, le_of_lt}
use native.Mathlib.Decide.{dec_lt}
use native.Mathlib.Omega.{arith}
use lib.IntN.{ℤ, pos, negsuc, sub_ℕ}
use lib.Pow.{pow-add, pow_pos}
use borrow.Author.Tests.{lt-ltb, le-ltb}
use Rattle.binary64.specs.Fields.{negative, units}
use Rattle.binary64.specs.Rounding.{nearest_to}
use Rattle.binary64.specs.HexFloat.{carried}
use Rattle.binary64.specs.declared.HexFloat.{HexFloat}
use Rattle.binary64.proofs.Powers.{sixteens_left}
use Rattle.reading.specs.Reading.{Scaled}
use Rattle.reading.specs.Nearness.{raised, Clears, whole_at, value_at, apart, Nearest}
use Rattle.reading.proofs.Floats.{scaled_of}
use Rattle.reading.proofs.Forms.{sixteen_pos}
use Rattle.reading.proofs.Exact.{powers, same_power, raised_sub}
use Rattle.reading.proofs.Multiples.{dist, dist_mul, Half, beyond, nearest_half, half_shift, half_scale, near_rival, tie_rival, other_sign}

-- ---- a larger scale: everything times 2 ^ j

clears_more : (K j f : ℕ) (e : ℤ) → Clears K f e → Clears (K + j) f e
clears_more K j f (pos e) c = omega arith
clears_more K j f (negsuc e) c = omega arith

raised-more : (K j f : ℕ) (e : ℤ) → Clears K f e → raised (K + j) e - 4 * f ≡ raised K e - 4 * f + j
raised-more K j f (pos e) c = omega arith
raised-more K j f (negsuc e) c = omega arith

whole-more : (K j m f : ℕ) (e : ℤ) → Clears K f e → whole_at (K + j) m f e ≡ whole_at K m f e * 2 ^ j
unfolding whole_at
whole-more K j m f e c = ap (λ (n : ℕ). m * 2 ^ n) (raised-more K j f e c) ∙ sym (powers m (raised K e - 4 * f) j)

value-more : (K j b : ℕ) → 1074 ≤ K → value_at (K + j) b ≡ value_at K b * 2 ^ j
unfolding value_at
value-more K j b k = let e : K + j - 1074 ≡ K - 1074 + j = omega arith in ap (λ (n : ℕ). units b * 2 ^ n) e ∙ sym (powers (units b) (K - 1074) j)

-- ---- signs

-- a rival of either sign, from what holds of the magnitudes
near-signed : (s t : Bool) (X A Y : ℕ) → dist X A ≤ dist X Y → dist X A < X + Y → apart s X s A ≤ apart s X t Y
near-signed false false X A Y n o = n
near-signed true true X A Y n o = n
near-signed false true X A Y n o = le_of_lt o
near-signed true false X A Y n o = le_of_lt o

tie_signed : {P : Type 0} (s t : Bool) (X A Y : ℕ) → (dist X A ≡ dist X Y → (Y ≡ A → ⊥) → P) → dist X A < X + Y
    → apart s X s A ≡ apart s X t Y → ((t ≡ s) × (Y ≡ A) → ⊥) → P
tie_signed false false X A Y f o e n = f e (λ q. n (refl, q))
tie_signed true true X A Y f o e n = f e (λ q. n (refl, q))
tie_signed false true X A Y f o e n = absurd (ne_of_lt o e)
tie_signed true false X A Y f o e n = absurd (ne_of_lt o e)

-- ---- from a larger scale back to the given one

-- X is the value, A the number read and Y a rival at a scale K, each times 2 ^ j at the larger one.
module _ (s t : Bool) (X A Y j : ℕ) where
  near-back : dist (X * 2 ^ j) (A * 2 ^ j) ≤ dist (X * 2 ^ j) (Y * 2 ^ j) → dist (X * 2 ^ j) (A * 2 ^ j) < X * 2 ^ j + Y * 2 ^ j → apart s X s A ≤ apart s X t Y
  near-back n o =
      near-signed s t X A Y
      (le_of_mul-le-mul_right (rw (← dist_mul X A (2 ^ j), ← dist_mul X Y (2 ^ j)) n) (pow_pos j))
      (lt_of_mul-lt-mul_right (2 ^ j) (rw (← dist_mul X A (2 ^ j), add-mul X Y (2 ^ j)) o))

  tie_back : {P : Type 0} → (dist (X * 2 ^ j) (A * 2 ^ j) ≡ dist (X * 2 ^ j) (Y * 2 ^ j) → (Y * 2 ^ j ≡ A * 2 ^ j → ⊥) → P)
      → dist (X * 2 ^ j) (A * 2 ^ j) < X * 2 ^ j + Y * 2 ^ j → apart s X s A ≡ apart s X t Y → ((t ≡ s) × (Y ≡ A) → ⊥) → P
  tie_back f o =
      tie_signed s t X A Y
      (λ e n. f (dist_mul X A (2 ^ j) ∙ ap (λ (d : ℕ). d * 2 ^ j) e ∙ sym (dist_mul X Y (2 ^ j))) (λ q. n (eq_of_mul-eq-mul_right (2 ^ j) (pow_pos j) Y A q)))
      (lt_of_mul-lt-mul_right (2 ^ j) (rw (← dist_mul X A (2 ^ j), add-mul X Y (2 ^ j)) o))

-- ---- the rounded value

-- The whole number of units of the last of p digits nearest to the significand 2 ^ 52 + f.
abbrev nearest_whole : ℕ → ℕ → ℕ
nearest_whole f p = 16 ^ p + nearest_to f (16 ^ (13 - p))

-- A rounded value in parts, and what is read of it. The value was scaled by 2 ^ c before.
abbrev parts : ℕ → ℕ → ℕ → ℕ → HexFloat
parts f E c p = carried p (nearest_to f (16 ^ (13 - p))) E (1023 + c)

abbrev read_of : Bool → ℕ → ℕ → ℕ → ℕ → Scaled
read_of s f E c p = scaled_of s (parts f E c p)

-- The number read at a scale.
abbrev read_at : ℕ → Bool → ℕ → ℕ → ℕ → ℕ → ℕ
read_at K s f E c p = whole_at K (read_of s f E c p).m p (read_of s f E c p).e

-- The power of two of the significand's last place at the scale K, and of the last digit kept.
abbrev unit : ℕ → ℕ → ℕ → ℕ
unit K E c = K + E - (1075 + c)

abbrev digit_unit : ℕ → ℕ → ℕ → ℕ → ℕ
digit_unit K E c p = 52 - 4 * p + unit K E c

even_power : (p : ℕ) → 1 ≤ p → 16 ^ p % 2 ≡ 0
even_power zero h = absurd (omega arith)
even_power (suc p) h = rw (pow-suc 16 p) (omega arith)

split_power : (p : ℕ) → p < 13 → 2 ^ 52 ≡ 16 ^ p * 16 ^ (13 - p)
split_power p k = let d : 13 ≡ p + (13 - p) = omega arith in ap (λ (i : ℕ). 16 ^ i) d ∙ pow-add 16 p (13 - p)

-- The significand 2 ^ 52 + f with the multiple of 16 ^ (13 - p) nearest to it.
whole-half : (f p : ℕ) → 1 ≤ p → p < 13 → Half (2 ^ 52 + f) (16 ^ (13 - p)) (nearest_whole f p)
whole-half f p h k =
    let u = 16 ^ (13 - p) in
    rw (split_power p k) (half_shift (16 ^ p) f u (nearest_to f u) (even_power p h) (nearest_half f u (sixteen_pos (13 - p))))

-- A fraction rounds at most to the next whole number.
carry_at_most : (f p : ℕ) → f < 2 ^ 52 → p < 13 → nearest_to f (16 ^ (13 - p)) ≤ 16 ^ p
carry_at_most f p h k =
    let u = 16 ^ (13 - p) in
    let u_pos = sixteen_pos (13 - p) in
    no_more u (nearest_to f u) (nearest_half f u u_pos).within u_pos (split_power p k)
  where
    no_more : (u n : ℕ) → dist f (n * u) * 2 ≤ u → 0 < u → 2 ^ 52 ≡ 16 ^ p * u → n ≤ 16 ^ p
    no_more u n d g e = elim (dec_lt (16 ^ p) n) [ yes q ↦ absurd (far (beyond u (16 ^ p) n q)) | no m ↦ omega arith ]
      where
        far : 16 ^ p * u + u ≤ n * u → ⊥
        far a = omega arith

value-is : (b f E c K : ℕ) → 1 ≤ E → 1129 ≤ K → c ≤ 54 → units b * 2 ^ c ≡ (2 ^ 52 + f) * 2 ^ (E - 1) → value_at K b ≡ (2 ^ 52 + f) * 2 ^ unit K E c
unfolding value_at
value-is b f E c K hE hK hc hu =
    let S = 2 ^ 52 + f in
    eq_of_mul-eq-mul_right (2 ^ c) (pow_pos c) (units b * 2 ^ (K - 1074)) (S * 2 ^ unit K E c)
    (mul_right_comm (units b) (2 ^ (K - 1074)) (2 ^ c)
    ∙ ap (λ (n : ℕ). n * 2 ^ (K - 1074)) hu
    ∙ powers S (E - 1) (K - 1074)
    ∙ same_power S (E - 1 + (K - 1074)) (unit K E c + c) (omega arith)
    ∙ sym (powers S (unit K E c) c))

read_is : (f E c K p : ℕ) (s : Bool) → f < 2 ^ 52 → 1 ≤ E → 1129 ≤ K → c ≤ 54 → p < 13
    → Clears K p (read_of s f E c p).e
    → read_at K s f E c p
    ≡ nearest_whole f p * 2 ^ digit_unit K E c p
unfolding whole_at
read_is f E c K p s hf hE hK hc hp = go (nearest_to f (16 ^ (13 - p))) (carry_at_most f p hf hp)
  where
    -- the power of the last place, with the exponent e
    place : ℕ → ℕ
    place e = raised K (sub_ℕ e (1023 + c)) - 4 * p

    power : (e : ℕ) → Clears K p (sub_ℕ e (1023 + c)) → place e + (1023 + c + 4 * p) ≡ K + e
    power e cl = raised_sub K p e (1023 + c) cl

    go : (r : ℕ) → r ≤ 16 ^ p → Clears K p (scaled_of s (carried p r E (1023 + c))).e
        → (scaled_of s (carried p r E (1023 + c))).m * 2 ^ (raised K (scaled_of s (carried p r E (1023 + c))).e - 4 * p) ≡ (16 ^ p + r) * 2 ^ digit_unit K E c p
    go r h = elim (dec_lt r (16 ^ p)) [ yes k ↦ simp (lt-ltb r (16 ^ p) k) (kept r) | no n ↦ simp (le-ltb r (16 ^ p) (omega arith)) (carry r (omega arith)) ]
      where
        kept : (r : ℕ) → Clears K p (sub_ℕ E (1023 + c)) → (1 * 16 ^ p + r) * 1 * 2 ^ place E ≡ (16 ^ p + r) * 2 ^ digit_unit K E c p
        kept r cl =
            let q : place E ≡ digit_unit K E c p = omega (arith, power E cl) in
            ap (λ (n : ℕ). n * 2 ^ place E) (mul-one (1 * 16 ^ p + r) ∙ ap (λ (n : ℕ). n + r) (one-mul (16 ^ p)))
            ∙ same_power (16 ^ p + r) (place E) (digit_unit K E c p) q

        carry : (r : ℕ) → r ≡ 16 ^ p → Clears K p (sub_ℕ (E + 1) (1023 + c)) → (1 * 16 ^ p + 0) * 1 * 2 ^ place (E + 1) ≡ (16 ^ p + r) * 2 ^ digit_unit K E c p
        carry r e cl =
            let k = digit_unit K E c p in
            let q : place (E + 1) ≡ k + 1 = omega (arith, power (E + 1) cl) in
            ap (λ (n : ℕ). n * 2 ^ place (E + 1)) (mul-one (1 * 16 ^ p + 0) ∙ add-zero (1 * 16 ^ p) ∙ one-mul (16 ^ p))
            ∙ same_power (16 ^ p) (place (E + 1)) (k + 1) q
            ∙ sym (powers (16 ^ p) k 1)
            ∙ omega (arith, add-mul (16 ^ p) (16 ^ p) (2 ^ k))
            ∙ ap (λ (n : ℕ). (16 ^ p + n) * 2 ^ k) (sym e)

-- Everything at the scale K + 64: there the significand's last place is whole.
module _ (b f E c p : ℕ) (hf : f < 2 ^ 52) (hE : 1 ≤ E) (hc : c ≤ 54) (h1 : 1 ≤ p) (hp : p < 13) (hu : units b * 2 ^ c ≡ (2 ^ 52 + f) * 2 ^ (E - 1))
    (s : Bool) (K : ℕ) (hK : 1074 ≤ K) (cl : Clears K p (read_of s f E c p).e) where
  -- the powers of the last place and of the last digit kept, the value and the number read
  abbrev i : ℕ
  i = unit (K + 64) E c

  abbrev k : ℕ
  k = digit_unit (K + 64) E c p

  abbrev X : ℕ
  X = (2 ^ 52 + f) * 2 ^ i

  abbrev n : ℕ
  n = nearest_whole f p

  large_value : value_at K b * 2 ^ 64 ≡ X
  large_value = sym (value-more K 64 b hK) ∙ value-is b f E c (K + 64) hE (omega arith) hc hu

  large_read : read_at K s f E c p * 2 ^ 64 ≡ n * 2 ^ k
  large_read =
      sym (whole-more K 64 (read_of s f E c p).m p (read_of s f E c p).e cl)
      ∙ read_is f E c (K + 64) p s hf hE (omega arith) hc hp (clears_more K 64 p (read_of s f E c p).e cl)

  last-place : 16 ^ (13 - p) * 2 ^ i ≡ 2 ^ k
  last-place = ap (λ (m : ℕ). m * 2 ^ i) (sym (sixteens_left p (omega arith))) ∙ sym (pow-add 2 (52 - 4 * p) i)

  bottom : 16 ^ p * 2 ^ k ≤ X
  bottom = rw (← last-place, ← mul_assoc (16 ^ p) (16 ^ (13 - p)) (2 ^ i), ← split_power p hp) (mul-le-mul_right (2 ^ i) (omega arith))

  half : Half X (2 ^ k) n
  half = rw (← last-place) (half_scale (2 ^ 52 + f) (16 ^ (13 - p)) n (2 ^ i) (pow_pos i) (whole-half f p h1 hp))

  -- against a rival
  module _ (t : Bool) (m : ℕ) (e : ℤ) (low : 16 ^ p ≤ m) (high : m < 2 * 16 ^ p) (cr : Clears K p e) where
    abbrev j : ℕ
    j = raised (K + 64) e - 4 * p

    large_rival : whole_at K m p e * 2 ^ 64 ≡ m * 2 ^ j
    unfolding whole_at
    large_rival = sym (whole-more K 64 m p e cr)

    farther_signed : dist (value_at K b * 2 ^ 64) (read_at K s f E c p * 2 ^ 64) < value_at K b * 2 ^ 64 + whole_at K m p e * 2 ^ 64
    farther_signed = rw (large_value, large_read, large_rival) (other_sign p k X n bottom half m j low high)

    near : apart s (value_at K b) s (read_at K s f E c p) ≤ apart s (value_at K b) t (whole_at K m p e)
    near =
        near-back s t (value_at K b) (read_at K s f E c p) (whole_at K m p e) 64
        (rw (large_value, large_read, large_rival) (near_rival p k X n bottom half m j low high))
        farther_signed

    even : apart s (value_at K b) s (read_at K s f E c p) ≡ apart s (value_at K b) t (whole_at K m p e)
        → ((t ≡ s) × (whole_at K m p e ≡ read_at K s f E c p) → ⊥)
        → nearest_whole f p % 2 ≡ 0
    even =
        tie_back s t (value_at K b) (read_at K s f E c p) (whole_at K m p e) 64
        (rw (large_value, large_read, large_rival) (tie_rival p k X n bottom half m j low high))
        farther_signed

-- The form: a leading 1 and p digits; after a carry the digits are zeros, and the last is even.
pub record Form (p r m f : ℕ) : Type 0 where
  pub places : f ≡ p
  pub leading : 16 ^ p ≤ m
  pub below : m < 2 * 16 ^ p
  pub parity : (16 ^ p + r) % 2 ≡ 0 → m % 2 ≡ 0

form : (p r e bias : ℕ) (s : Bool) → 1 ≤ p → Form p r (scaled_of s (carried p r e bias)).m (scaled_of s (carried p r e bias)).f
form p r e bias s h =
    elim (dec_lt r (16 ^ p)) [
      | yes k ↦ simp (lt-ltb r (16 ^ p) k) (kept k)
      | no n ↦ simp (le-ltb r (16 ^ p) (omega arith)) (carry (sixteen_pos p) (even_power p h))
    ]
  where
    kept : r < 16 ^ p → Form p r ((1 * 16 ^ p + r) * 1) (p + 0)
    kept k = rw (mul-one, one-mul) (record { places = add-zero p; leading = omega arith; below = omega arith; parity = λ e. e })

    carry : 0 < 16 ^ p → 16 ^ p % 2 ≡ 0 → Form p r ((1 * 16 ^ p + 0) * 1) (p + 0)
    carry k g = rw (mul-one, one-mul) (record { places = add-zero p; leading = omega arith; below = omega arith; parity = λ e. omega arith })

-- A value whose significand is 2 ^ 52 + f with the biased exponent E, scaled up by 2 ^ c, rounded to p digits.
pub nearest_of : (b f E c p : ℕ) → f < 2 ^ 52 → 1 ≤ E → c ≤ 54 → 1 ≤ p → p < 13 → units b * 2 ^ c ≡ (2 ^ 52 + f) * 2 ^ (E - 1)
    → Nearest b p (scaled_of (negative b) (carried p (nearest_to f (16 ^ (13 - p))) E (1023 + c)))
nearest_of b f E c p hf hE hc h1 hp hu =
    let g = form p (nearest_to f (16 ^ (13 - p))) E (1023 + c) (negative b) h1 in
    record {
      sign = refl;
      places = g.places;
      leading = g.leading;
      below = g.below;
      near = λ t m e low high K hK cl cr. near b f E c p hf hE hc h1 hp hu (negative b) K hK cl t m e low high cr;
      even = λ t m e low high K hK cl cr q n. g.parity (even b f E c p hf hE hc h1 hp hu (negative b) K hK cl t m e low high cr q n);
    }
