-- Laws of a number that a text begins with, read digit by digit. Assumes nothing.
use Rattle.std.proofs.Common.{inl, inr}
use Rattle.std.specs.Char.{IsNotAsciiDigit}
use Rattle.std.specs.Prelude.{Err, Ok}
use mathlib.Core.Path.{◌≡◌, refl, sym, ap, ◌∙◌}
use mathlib.Core.List.{List, [], ◌∷◌}
use Prim.Native.Nat.{ℕ, ◌+◌, ◌-◌, ◌*◌, ◌≤◌, ◌<◌, max}
use Prim.Native.Char.{code}
use native.Mathlib.Nat.{le_refl, le_trans}
use native.Mathlib.Numerals.{add-one}
use native.Mathlib.Omega.{arith}
use lib.Dec.{leb}
use lib.ListN.{length, get_or, drop, length-drop, drop_of_length-le}
use lib.Seq.{drop-cons}
use borrow.Author.Tests.{leb-true, leb-false, le-leb, lt-leb}
use Rattle.refusals.specs.Limits.{largest_number}
use Rattle.writing.proofs.Choose.{by_test}
use Rattle.numerals.specs.Digits.{number_from, number_of}
use Rattle.specifiers.specs.Params.{is_digit, leading_digits, number_taken, number_at}
use Rattle.refusals.specs.Numbers.{Parsed}
use Rattle.refusals.specs.declared.Refusal.TheVariants.{LargeNumber}

-- More digits never make a number smaller.
pub number_grows : (v : ℕ) (ds : List ℕ) → v ≤ number_from 10 v ds
unfolding number_from
number_grows v [] = le_refl v
number_grows v (d ∷ ds) = le_trans (omega arith) (number_grows (v * 10 + d) ds)

-- The digits that a text begins with stand in it.
pub digits_in : (l : List ℕ) → length (leading_digits l) ≤ length l
unfolding leading_digits
digits_in [] = omega arith
digits_in (b ∷ l) =
    by_test (λ (m : List ℕ). length m ≤ length (b ∷ l)) (is_digit b) _ _ (λ _. more (digits_in l)) (λ _. omega arith)
  where
    more : length (leading_digits l) ≤ length l → length ((b - code "0") ∷ leading_digits l) ≤ length (b ∷ l)
    more h = omega arith

-- What a number says of its digits: their value and the place behind them, or that the value is too large.
abbrev pub Denotes : ℕ → List ℕ → Parsed ℕ → Type 0
Denotes at ds (Ok (v, next)) = (v ≡ number_of 10 ds) × (next ≡ at + length ds) × (v ≤ largest_number)
Denotes at ds (Err refusal) = (refusal ≡ LargeNumber) × (largest_number < number_of 10 ds)

taken_denotes : (at : ℕ) (ds : List ℕ) → Denotes at ds (number_taken at ds)
unfolding number_taken
taken_denotes at ds =
    by_test (Denotes at ds) (leb (number_of 10 ds) largest_number) _ _
    (λ e. (refl, refl, leb-true (number_of 10 ds) largest_number e))
    (λ e. (refl, leb-false (number_of 10 ds) largest_number e))

-- A number is at most the largest, and ends at or behind its place, within the text where it has digits.
abbrev pub NumberIn : ℕ → ℕ → Parsed ℕ → Type 0
NumberIn n at (Ok (v, next)) = (v ≤ largest_number) × (at ≤ next) × (next ≤ max at n)
NumberIn n at (Err refusal) = Unit {0}

module _ (s : List ℕ) (at : ℕ) where
  pub number-denotes : Denotes at (leading_digits (drop at s)) (number_at s at)
  unfolding number_at
  number-denotes = taken_denotes at (leading_digits (drop at s))

  pub number_in : NumberIn (length s) at (number_at s at)
  number_in = within (number_at s at) number-denotes
    where
      within : (x : Parsed ℕ) → Denotes at (leading_digits (drop at s)) x → NumberIn (length s) at x
      within (Ok (v, next)) d =
          let h : length (leading_digits (drop at s)) ≤ length s - at = rw (← length-drop at s) (digits_in (drop at s)) in
          (omega arith, omega arith, omega arith)
      within (Err refusal) d = tt

-- The digits from the place at on have the value v up to the place i.
abbrev pub ReadTo : List ℕ → ℕ → ℕ → ℕ → Type 0
ReadTo s at i v =
    (number_from 10 v (leading_digits (drop i s)) ≡ number_of 10 (leading_digits (drop at s)))
    × (i + length (leading_digits (drop i s)) ≡ at + length (leading_digits (drop at s)))

pub read_none : (s : List ℕ) (at : ℕ) → ReadTo s at at 0
unfolding number_of
read_none s at = (refl, refl)

module _ (s : List ℕ) (i : ℕ) where
  -- the places where a number ends
  pub end_of_text : length s ≤ i → leading_digits (drop i s) ≡ []
  unfolding leading_digits
  end_of_text h = simp (drop_of_length-le s h)

  below_digit : i < length s → get_or s i 0 < code "0" → leading_digits (drop i s) ≡ []
  unfolding leading_digits
  below_digit h m = simp (drop-cons s i 0 h, lt-leb (code "0") (get_or s i 0) m)

  above_digit : i < length s → code "9" < get_or s i 0 → leading_digits (drop i s) ≡ []
  unfolding leading_digits
  above_digit h m = simp (drop-cons s i 0 h, le-leb (code "0") (get_or s i 0) (omega arith), lt-leb (get_or s i 0) (code "9") m)

  pub no_digit : i < length s → IsNotAsciiDigit (get_or s i 0) → leading_digits (drop i s) ≡ []
  no_digit h m = elim m [ inl b ↦ below_digit h b | inr a ↦ above_digit h a ]

  pub digit_at : i < length s → code "0" ≤ get_or s i 0 → get_or s i 0 ≤ code "9"
      → leading_digits (drop i s) ≡ (get_or s i 0 - code "0") ∷ leading_digits (drop (i + 1) s)
  unfolding leading_digits
  digit_at h m n = simp (drop-cons s i 0 h, le-leb (code "0") (get_or s i 0) m, le-leb (get_or s i 0) (code "9") n, add-one)

  module _ (at v : ℕ) (r : ReadTo s at i v) where
    pub read_end : leading_digits (drop i s) ≡ [] → v ≤ largest_number → Ok (v, i) ≡ number_at s at
    unfolding number_at number_taken number_from
    read_end e h =
        let n : v ≡ number_of 10 (leading_digits (drop at s)) = sym (ap (number_from 10 v) e) ∙ r.0 in
        let k : i ≡ at + length (leading_digits (drop at s)) = omega (arith, ap length e) in
        simp (le-leb (number_of 10 (leading_digits (drop at s))) largest_number (omega arith)) (cc)

    pub read_digit : i < length s → code "0" ≤ get_or s i 0 → get_or s i 0 ≤ code "9"
        → ReadTo s at (i + 1) (v * 10 + (get_or s i 0 - code "0"))
    unfolding number_from
    read_digit h m n =
        let e = digit_at h m n in
        (sym (ap (number_from 10 v) e) ∙ r.0, omega (arith, ap length e))

    pub read_large : i < length s → code "0" ≤ get_or s i 0 → get_or s i 0 ≤ code "9" → largest_number < v * 10 + (get_or s i 0 - code "0")
        → Err LargeNumber ≡ number_at s at
    unfolding number_at number_taken
    read_large h m n g =
        let l = number_grows (v * 10 + (get_or s i 0 - code "0")) (leading_digits (drop (i + 1) s)) in
        let e = (read_digit h m n).0 in
        simp (lt-leb (number_of 10 (leading_digits (drop at s))) largest_number (omega arith))
