-- The text of a value and of its exponent: how long they are, and what the writers leave. Assumes nothing.
use mathlib.Core.Path.{◌≡◌, refl, ap, ◌∙◌}
use mathlib.Core.Bool.{Bool, false}
use mathlib.Core.List.{List, [], ◌∷◌, ◌++◌, append_assoc}
use Prim.Native.Nat.{ℕ, ◌+◌, ◌-◌, ◌^◌, ◌≤◌, ◌<◌}
use native.Mathlib.Decide.{dec_lt}
use native.Mathlib.Omega.{arith}
use lib.Dec.{lit≤}
use lib.ListN.{length, replicate, length-append, length-replicate}
use borrow.Author.Tests.{lt-ltb, le-ltb}
use Rattle.numerals.specs.Digits.{digits_in, places, digits, letters_of, numeral, decimal}
use Rattle.numerals.proofs.Digits.{length_letters_in, length-numeral, places_le}
use Rattle.binary64.specs.declared.HexFloat.{HexFloat}
use Rattle.hexfloats.specs.Texts.{leading_letter, exponent_letter, exponent_text, hex_float_text}

-- a number of 32 bits has at most ten digits
pub ten_places : (n : ℕ) → n < 2 ^ 32 → places 10 n ≤ 10
ten_places n h = places_le 10 9 n (lit≤ tt) (omega arith)

-- The exponent's text is its letter, a sign and a magnitude m: two cases, and the laws over both.
module _ (u : Bool) (e bias : ℕ) (sign : List ℕ) (m : ℕ) (is : exponent_text u e bias ≡ exponent_letter u ∷ (sign ++ decimal m)) where
  pub signed-length : length (exponent_text u e bias) ≡ 1 + (length sign + places 10 m)
  signed-length = ap length is ∙ simp (length-append, length-numeral) (omega arith)

  -- letter and sign, and behind them the n digits of m
  pub exponent_made : (n : ℕ) → n ≡ places 10 m → (exponent_letter u ∷ sign) ++ letters_of false (digits_in 10 n m) ≡ exponent_text u e bias
  unfolding numeral digits
  exponent_made n q = simp (q, is)

module _ (u : Bool) (e bias : ℕ) where
  pub below-text : e < bias → exponent_text u e bias ≡ exponent_letter u ∷ ((45 ∷ []) ++ decimal (bias - e))
  unfolding exponent_text
  below-text h = simp (lt-ltb e bias h)

  pub above-text : bias ≤ e → exponent_text u e bias ≡ exponent_letter u ∷ ([] ++ decimal (e - bias))
  unfolding exponent_text
  above-text h = simp (le-ltb e bias h)

  pub below_length : e < bias → length (exponent_text u e bias) ≡ 2 + places 10 (bias - e)
  below_length h = omega (arith, signed-length u e bias (45 ∷ []) (bias - e) (below-text h))

  pub above-length : bias ≤ e → length (exponent_text u e bias) ≡ 1 + places 10 (e - bias)
  above-length h = omega (arith, signed-length u e bias [] (e - bias) (above-text h))

  pub exponent_length : e < 2 ^ 32 → bias < 2 ^ 32 → (1 ≤ length (exponent_text u e bias)) × (length (exponent_text u e bias) ≤ 12)
  exponent_length f g =
      elim (dec_lt e bias) [
        | yes h ↦ let l = below_length h in let p = ten_places (bias - e) (omega arith) in (omega arith, omega arith)
        | no n ↦ let l = above-length (omega arith) in let p = ten_places (e - bias) (omega arith) in (omega arith, omega arith)
      ]

pub hex_length : (u : Bool) (h : HexFloat)
    → length (hex_float_text u h) ≡ 2 + (h.digits + (h.zeros + length (exponent_text u h.exponent h.bias)))
unfolding hex_float_text
hex_length u h = simp (length-append, length_letters_in, length-replicate) (omega arith)

pub hex_made : (u : Bool) (h : HexFloat) (letter : ℕ) → letter ≡ leading_letter h.leading
    → letter ∷ 46 ∷ ((letters_of u (digits_in 16 h.digits h.fraction) ++ replicate h.zeros 48) ++ exponent_text u h.exponent h.bias) ≡ hex_float_text u h
unfolding hex_float_text
hex_made u h letter p = rw (p, append_assoc) refl

pub ruleset lengths = (ten_places, below_length, above-length, exponent_length, hex_length, length_letters_in)
