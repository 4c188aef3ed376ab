-- Digits that were written are read. Assumes nothing.
use Rattle.std.specs.Prelude.{Some}
use mathlib.Core.Path.{◌≡◌, refl}
use mathlib.Core.Bool.{false}
use mathlib.Core.List.{List, [], ◌∷◌}
use Prim.Native.Nat.{ℕ, ◌+◌, ◌-◌, ◌*◌, ◌≤◌, ◌<◌}
use Prim.Native.Char.{code}
use native.Mathlib.Decide.{dec_lt}
use native.Mathlib.Omega.{arith}
use lib.ListN.{length}
use lib.Dec.{eqb}
use borrow.Author.Tests.{lt-ltb, le-ltb, le-leb, lt-leb, ne_eqb}
use Rattle.numerals.specs.Digits.{letter_of, letters_of, number_from, number_of}
use Rattle.numerals.proofs.Digits.{Below}
use Rattle.reading.specs.Reading.{digit_of, digits_from, whole_number}

-- a digit's letter lies between `0` and `f`
letter_range : (d : ℕ) → d < 16 → (code "0" ≤ letter_of false d) × (letter_of false d ≤ code "f")
unfolding letter_of
letter_range d h = elim (dec_lt d 10) [ yes p ↦ simp (lt-ltb d 10 p) (omega arith, omega arith) | no n ↦ letter (omega arith) ]
  where
    letter : 10 ≤ d → (code "0" ≤ letter_of false d) × (letter_of false d ≤ code "f")
    letter k = simp (le-ltb d 10 k) (omega arith, omega arith)

-- so it is none of the bytes outside, as marks, the point, `x` and `p`
pub letter-is_not : (c d : ℕ) → d < 16 → ((x : ℕ) → code "0" ≤ x → x ≤ code "f" → x ≡ c → ⊥) → eqb (letter_of false d) c ≡ false
letter-is_not c d h out = let r = letter_range d h in ne_eqb (letter_of false d) c (out (letter_of false d) r.0 r.1)

digit_read : (base d : ℕ) → base ≤ 16 → d < base → digit_of base (letter_of false d) ≡ Some d
unfolding digit_of letter_of
digit_read base d h k = elim (dec_lt d 10) [ yes p ↦ number p | no n ↦ letter (omega arith) ]
  where
    number : d < 10 → digit_of base (letter_of false d) ≡ Some d
    number p =
        let x = code "0" + d in
        let e : x - code "0" ≡ d = omega arith in
        simp (lt-ltb d 10 p, le-leb (code "0") x (omega arith), le-leb x (code "9") (omega arith), e, lt-ltb d base k)

    letter : 10 ≤ d → digit_of base (letter_of false d) ≡ Some d
    letter p =
        let x = code "a" + (d - 10) in
        let e : x - code "a" + 10 ≡ d = omega arith in
        simp (
          le-ltb d 10 p,
          le-leb (code "0") x (omega arith),
          lt-leb x (code "9") (omega arith),
          le-leb (code "a") x (omega arith),
          le-leb x (code "f") (omega arith),
          e,
          lt-ltb d base k,
        )

pub digits-read : (base v : ℕ) (ds : List ℕ) → base ≤ 16 → Below base ds → digits_from base v (letters_of false ds) ≡ Some (number_from base v ds)
unfolding digits_from letters_of number_from
digits-read base v [] h b = refl
digits-read base v (d ∷ ds) h b = simp (digit_read base d h b.0) (digits-read base (v * base + d) ds h b.1)

pub whole_read : (base : ℕ) (ds : List ℕ) → base ≤ 16 → Below base ds → 0 < length ds → whole_number base (letters_of false ds) ≡ Some (number_of base ds)
unfolding whole_number letters_of number_of
whole_read base [] h b n = absurd (omega arith)
whole_read base (d ∷ ds) h b n = digits-read base 0 (d ∷ ds) h b
