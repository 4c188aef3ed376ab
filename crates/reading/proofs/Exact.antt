-- %a without precision, with 13 digits or more, and of zero: the number read is the value. Assumes nothing.
use mathlib.Core.Path.{◌≡◌, refl, sym, ap, ◌∙◌}
use mathlib.Core.Bool.{Bool, true, false, cond}
use Prim.Native.Nat.{ℕ, suc, ◌+◌, ◌-◌, ◌*◌, ◌^◌, ◌≤◌, ◌<◌}
use native.Mathlib.Nat.{mul_assoc, mul_right_comm, eq_of_mul-eq-mul_right}
use native.Mathlib.Omega.{arith}
use lib.Dec.{ltb}
use lib.IntN.{pos, negsuc, sub_ℕ}
use lib.Pow.{pow-add, pow_pos}
use borrow.Author.Tests.{ltb-true, ltb-false}
use Rattle.binary64.specs.Fields.{units}
use Rattle.binary64.proofs.Powers.{sixteens}
use Rattle.reading.specs.Nearness.{raised, Clears, whole_at, value_at}

-- two powers of two as one
pub powers : (x i j : ℕ) → x * 2 ^ i * 2 ^ j ≡ x * 2 ^ (i + j)
powers x i j = mul_assoc x (2 ^ i) (2 ^ j) ∙ ap (λ (n : ℕ). x * n) (sym (pow-add 2 i j))

-- the same power twice, written in two ways
pub same_power : (x i j : ℕ) → i ≡ j → x * 2 ^ i ≡ x * 2 ^ j
same_power x i j e = ap (λ (n : ℕ). x * 2 ^ n) e

-- An equation of numbers m * 2 ^ (E - B) and u * 2 ^ -c, cleared of its negative exponents, gives the same equation at every scale K.
pub at_scale : (m u R E B K c : ℕ) → R + B ≡ K + E → c ≤ K → m * 2 ^ (E + c) ≡ u * 2 ^ B → m * 2 ^ R ≡ u * 2 ^ (K - c)
at_scale m u R E B K c h k e =
    eq_of_mul-eq-mul_right (2 ^ (B + c)) (pow_pos (B + c)) (m * 2 ^ R) (u * 2 ^ (K - c))
    (powers m R (B + c)
    ∙ same_power m (R + (B + c)) (E + c + K) (omega arith)
    ∙ sym (powers m (E + c) K)
    ∙ ap (λ (n : ℕ). n * 2 ^ K) e
    ∙ powers u B K
    ∙ same_power u (B + K) (K - c + (B + c)) (omega arith)
    ∙ sym (powers u (K - c) (B + c)))

-- The exponent e less its bias, at a scale that clears it.
pub raised_sub : (K f e bias : ℕ) → Clears K f (sub_ℕ e bias) → raised K (sub_ℕ e bias) - 4 * f + (bias + 4 * f) ≡ K + e
raised_sub K f e bias c = go (ltb e bias) (ltb-true e bias) (ltb-false e bias) c
  where
    go : (t : Bool) → (t ≡ true → e < bias) → (t ≡ false → bias ≤ e) → Clears K f (cond t (negsuc (bias - suc e)) (pos (e - bias)))
        → raised K (cond t (negsuc (bias - suc e)) (pos (e - bias))) - 4 * f + (bias + 4 * f) ≡ K + e
    go true p n c = let h = p refl in omega arith
    go false p n c = let h = n refl in omega arith

-- The number m * 2 ^ (e - bias - 4f) is the value with the bits b.
pub whole-is-value : (b m f e bias : ℕ) → m * 2 ^ (e + 1074) ≡ units b * 2 ^ (bias + 4 * f)
    → (K : ℕ) → 1074 ≤ K → Clears K f (sub_ℕ e bias) → whole_at K m f (sub_ℕ e bias) ≡ value_at K b
unfolding whole_at value_at
whole-is-value b m f e bias h K k c = at_scale m (units b) (raised K (sub_ℕ e bias) - 4 * f) e (bias + 4 * f) K 1074 (raised_sub K f e bias c) k h

-- A value of S * 2 ^ q units whose significand S, of 13 hexadecimal digits behind the point, is written as m with f digits.
pub from-significand : (m S f q u e bias : ℕ) → u ≡ S * 2 ^ q → q + (bias + 52) ≡ e + 1074 → m * 2 ^ 52 ≡ S * 16 ^ f
    → m * 2 ^ (e + 1074) ≡ u * 2 ^ (bias + 4 * f)
from-significand m S f q u e bias hu hq hm =
    eq_of_mul-eq-mul_right (2 ^ 52) (pow_pos 52) (m * 2 ^ (e + 1074)) (u * 2 ^ (bias + 4 * f))
    (mul_right_comm m (2 ^ (e + 1074)) (2 ^ 52)
    ∙ ap (λ (n : ℕ). n * 2 ^ (e + 1074)) (hm ∙ ap (λ (n : ℕ). S * n) (sym (sixteens f)))
    ∙ powers S (4 * f) (e + 1074)
    ∙ same_power S (4 * f + (e + 1074)) (q + (bias + 4 * f) + 52) (omega arith)
    ∙ sym (powers S (q + (bias + 4 * f)) 52)
    ∙ ap (λ (n : ℕ). n * 2 ^ 52) (sym (powers S q (bias + 4 * f)) ∙ ap (λ (n : ℕ). n * 2 ^ (bias + 4 * f)) (sym hu)))
