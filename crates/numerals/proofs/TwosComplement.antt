-- Laws of two's complement, once over the width. Assumes nothing.
use Rattle.std.proofs.Common.{◌≡◌, ℕ, suc, ◌+◌, ◌-◌, ◌*◌, ◌%◌, ◌^◌, ◌<◌, ◌≤◌, leb, ℤ, pos, negsuc, neg_ℤ, nat_abs, sym, refl, ap, ◌∙◌, subst}
use Rattle.std.proofs.Common.{mod-eq_of_lt, one-mul, sub-add_cancel, arith, pow_pos, le-ltb, lt-ltb, le-leb}
use native.Mathlib.Decide.{dec_lt}
use native.Mathlib.Nat.{two-pow-succ}
use lib.Pow.{pow-lt, not_mod}
use borrow.Author.Tests.{lt-leb}
use Rattle.numerals.specs.Integers.{int_of, is_negative, signed, bits_of, InWidth}

pub sign_magnitude_lem : (z : ℤ) → signed (is_negative z) (nat_abs z) ≡ z
sign_magnitude_lem (pos n) = refl
sign_magnitude_lem (negsuc n) = refl

-- Bits below the sign bit are a number, and others a negative one.
pub int_of_low : (w x : ℕ) → x < 2 ^ (w - 1) → int_of w x ≡ pos x
unfolding int_of
int_of_low w x h = simp (lt-ltb x (2 ^ (w - 1)) h)

pub int_of_high : (w x m : ℕ) → 2 ^ (w - 1) ≤ x → x + suc m ≡ 2 ^ w → int_of w x ≡ negsuc m
unfolding int_of
int_of_high w x m h e =
    let d : 2 ^ w - x ≡ suc m = omega arith in
    simp (le-ltb x (2 ^ (w - 1)) h) (ap (λ (n : ℕ). neg_ℤ (pos n)) d)

-- half of the bit patterns are negative
halves : (w : ℕ) → 1 ≤ w → 2 ^ w ≡ 2 ^ (w - 1) + 2 ^ (w - 1)
halves w h =
    let e : w ≡ suc (w - 1) = omega arith in
    ap (λ (k : ℕ). 2 ^ k) e ∙ two-pow-succ (w - 1)

pub int_of-bits_of : (w : ℕ) (z : ℤ) → 1 ≤ w → InWidth w z → int_of w (bits_of w z) ≡ z
unfolding bits_of
int_of-bits_of w (pos n) h i = int_of_low w n i
int_of-bits_of w (negsuc n) h i =
    let p = halves w h in
    int_of_high w (2 ^ w - suc n) n (omega arith) (omega arith)

pub bits_below : (w : ℕ) (z : ℤ) → 1 ≤ w → InWidth w z → bits_of w z < 2 ^ w
unfolding bits_of
bits_below w (pos n) h i = omega (arith, halves w h)
bits_below w (negsuc n) h i = omega (arith, pow_pos w)

-- The low bits of a sign-extended value are its bits at that width.
low_positive : (w x : ℕ) → 1 ≤ w → InWidth w (pos x) → x % 2 ^ w ≡ bits_of w (pos x)
unfolding bits_of
low_positive w x h i =
    let l : x < 2 ^ w = omega (arith, halves w h) in
    mod-eq_of_lt l

low_negative : (w x m : ℕ) → 1 ≤ w → w ≤ 64 → x + suc m ≡ 2 ^ 64 → InWidth w (negsuc m) → x % 2 ^ w ≡ bits_of w (negsuc m)
unfolding bits_of
low_negative w x m h k e i =
    let j = 64 - w in
    let l : m < 2 ^ w = omega (arith, halves w h) in
    let s : 2 ^ (j + w) ≡ 2 ^ 64 = ap (λ (n : ℕ). 2 ^ n) (sub-add_cancel k) in
    let y : x ≡ 2 ^ (j + w) - 1 - m = omega arith in
    ap (λ (n : ℕ). n % 2 ^ w) y ∙ not_mod j w l ∙ omega arith

pub low_bits : (w x : ℕ) → 1 ≤ w → w ≤ 64 → x < 2 ^ 64 → InWidth w (int_of 64 x) → x % 2 ^ w ≡ bits_of w (int_of 64 x)
low_bits w x h k b i =
    elim (dec_lt x (2 ^ 63)) [
      | yes p ↦ at (pos x) (int_of_low 64 x p) (low_positive w x h)
      | no p ↦
          let m = 2 ^ 64 - x - 1 in
          at (negsuc m) (int_of_high 64 x m (omega arith) (omega arith)) (low_negative w x m h k (omega arith))
    ]
  where
    at : (z : ℤ) → int_of 64 x ≡ z → (InWidth w z → x % 2 ^ w ≡ bits_of w z) → x % 2 ^ w ≡ bits_of w (int_of 64 x)
    at z e f = f (subst (InWidth w) e i) ∙ ap (bits_of w) (sym e)

-- What the code tests and computes: the sign bit, the absolute value, and a single bit shifted up.
pub negative_test : (w x : ℕ) → x < 2 ^ w → leb (2 ^ (w - 1)) x ≡ is_negative (int_of w x)
negative_test w x b = elim (dec_lt x (2 ^ (w - 1))) [ yes p ↦ low p | no p ↦ high (omega arith) ]
  where
    low : x < 2 ^ (w - 1) → leb (2 ^ (w - 1)) x ≡ is_negative (int_of w x)
    low p = lt-leb (2 ^ (w - 1)) x p ∙ sym (ap is_negative (int_of_low w x p))

    high : 2 ^ (w - 1) ≤ x → leb (2 ^ (w - 1)) x ≡ is_negative (int_of w x)
    high p = le-leb (2 ^ (w - 1)) x p ∙ sym (ap is_negative (int_of_high w x (2 ^ w - x - 1) p (omega arith)))

pub magnitude_low : (w x : ℕ) → x < 2 ^ (w - 1) → nat_abs (int_of w x) ≡ x
magnitude_low w x h = ap nat_abs (int_of_low w x h)

pub magnitude_high : (w x : ℕ) → 2 ^ (w - 1) ≤ x → x < 2 ^ w → nat_abs (int_of w x) ≡ 2 ^ w - x
magnitude_high w x h b = ap nat_abs (int_of_high w x (2 ^ w - x - 1) h (omega arith)) ∙ omega arith

pub one_bit : (w k : ℕ) → k < w → 1 * 2 ^ k % 2 ^ w ≡ 2 ^ k
one_bit w k h = ap (λ (n : ℕ). n % 2 ^ w) (one-mul (2 ^ k)) ∙ mod-eq_of_lt (pow-lt h)
