-- The piece of an integer, read back: through zeros, commas, marks, prefixes and spaces, wherever these stand in its frame. Assumes nothing.
use Rattle.std.specs.Prelude.{Option, None, Some}
use mathlib.Core.Path.{◌≡◌, refl, sym, ap, ◌∙◌}
use mathlib.Core.Bool.{Bool, true, false, ◌&&◌}
use mathlib.Core.List.{List, [], ◌∷◌, ◌++◌, append_assoc, append-nil}
use Prim.Native.Nat.{ℕ, ◌≤◌, ◌<◌}
use Prim.Native.Char.{code}
use native.Mathlib.Nat.{zero-mul}
use native.Mathlib.Omega.{arith}
use lib.Dec.{eqb, lit<, lit≤}
use lib.ListN.{length, replicate, length-append}
use Rattle.writing.specs.Choose.{choose}
use Rattle.numerals.specs.Digits.{digits, places, letter_of, letters_of, number_of, numeral, decimal}
use Rattle.numerals.specs.Grouping.{grouped}
use Rattle.numerals.specs.Integers.{signed}
use Rattle.numerals.proofs.Digits.{Below, below-append, below-digits_in, below_zeros, letters-append}
use Rattle.numerals.proofs.Digits.{length-digits_in, number_append, number_zeros, number_digits, places_pos}
use Rattle.frames.specs.Frame.{closing, marks, spaces, head_text, tail_text, framed}
use Rattle.frames.specs.Signs.{is_minus}
use Rattle.frames.specs.declared.Mark.{Mark}
use Rattle.frames.specs.declared.Mark.TheVariants.{NoMark, Plus, Space, Minus, Brackets}
use Rattle.frames.specs.declared.Prefix.{Prefix}
use Rattle.frames.specs.declared.Prefix.TheVariants.{NoPrefix, Octal, HexLower, HexUpper}
use Rattle.reading.specs.Kept.{kept}
use Rattle.reading.specs.Reading.{whole_number, with_minus, before_close, read_decimal, after_prefix, or_whole, read_bits}
use Rattle.reading.proofs.Kept.{kept_append, kept-spaces, kept-letters, kept-grouped, zero_letters}
use Rattle.reading.proofs.Digits.{letter-is_not, whole_read}

-- A value's text in a frame: `a` spaces in front of it, `z` zeros, `i` spaces of left adjustment.
abbrev pub spaced : ℕ → Mark → Prefix → ℕ → List ℕ → ℕ → List ℕ
spaced a m p z body i = framed (record { before = a; mark = m; prefix = p; zeros = z; after = i }) body

kept-closing : (m : Mark) → kept (closing m) ≡ closing m
unfolding kept
kept-closing NoMark = refl
kept-closing Plus = refl
kept-closing Space = refl
kept-closing Minus = refl
kept-closing Brackets = refl

-- the digits of a piece: zeros of padding, then its own
abbrev pub with_zeros : ℕ → List ℕ → List ℕ
with_zeros z ds = replicate z 0 ++ ds

-- What counts of a piece: the marks, the zeros, what counts of its text, the closing mark. No law here, or built on this one, says where spaces stand.
pub kept_spaced : (a : ℕ) (m : Mark) (p : Prefix) (z : ℕ) (body rest : List ℕ) (i : ℕ) → kept body ≡ rest
    → kept (spaced a m p z body i) ≡ kept (marks m p) ++ (letters_of false (replicate z 0) ++ (rest ++ closing m))
unfolding framed head_text tail_text spaces
kept_spaced a m p z body rest i e =
    let zeros = kept-letters false (replicate z 0) (below_zeros 16 z (omega arith)) in
    simp (kept_append, kept-spaces, e, zero_letters false z, zeros, kept-closing, append_assoc, append-nil)

-- Digits in a base, with zeros in front: a whole number.
pub record Digits (base n : ℕ) (ds : List ℕ) : Type 0 where
  pub below : Below base ds
  pub some_digit : 0 < length ds
  pub number : number_of base ds ≡ n

pub digits_of : (base n : ℕ) → 2 ≤ base → Digits base n (digits base n)
unfolding digits
digits_of base n h =
    record {
      below = below-digits_in base (places base n) n (omega arith);
      some_digit = rw (length-digits_in base (places base n) n) (places_pos base n h);
      number = number_digits base n h;
    }

-- Leading zeros count nothing.
pub zeros_first : (base n z : ℕ) (ds : List ℕ) → 0 < base → Digits base n ds → Digits base n (with_zeros z ds)
unfolding number_of
zeros_first base n z ds h d =
    record {
      below = below-append base (replicate z 0) ds (below_zeros base z h) d.below;
      some_digit = rw length-append (omega (arith, d.some_digit));
      number = rw (number_append, number_zeros, zero-mul) d.number;
    }

-- a decimal number without a mark, and after `-`
pub unmarked : (n : ℕ) (ds : List ℕ) → Digits 10 n ds → with_minus (letters_of false ds) ≡ Some (signed false n)
unfolding with_minus letters_of
unmarked n [] d = absurd (omega (arith, d.some_digit))
unmarked n (c ∷ cs) d =
    let h : c < 16 = omega (arith, d.below.0) in
    simp (letter-is_not (code "-") c h (λ x p q e. omega arith), whole_read 10 (c ∷ cs) (lit≤ tt) d.below d.some_digit, d.number)

pub after_minus : (n : ℕ) (ds : List ℕ) → Digits 10 n ds → with_minus (code "-" ∷ letters_of false ds) ≡ Some (signed true n)
unfolding with_minus
after_minus n ds d = simp (whole_read 10 ds (lit≤ tt) d.below d.some_digit, d.number)

-- %d without a mark that counts
plain : (n : ℕ) (ds : List ℕ) → Digits 10 n ds → read_decimal (letters_of false ds) ≡ Some (signed false n)
unfolding read_decimal letters_of
plain n [] d = absurd (omega (arith, d.some_digit))
plain n (c ∷ cs) d =
    let h : c < 16 = omega (arith, d.below.0) in
    simp (letter-is_not (code "(") c h (λ x p q e. omega arith)) (unmarked n (c ∷ cs) d)

-- .. inside brackets
before_close_lem : (xs : List ℕ) → before_close (xs ++ (code ")" ∷ [])) ≡ Some xs
unfolding before_close
before_close_lem [] = refl
before_close_lem (x ∷ []) = refl
before_close_lem (x ∷ y ∷ xs) = simp (before_close_lem (y ∷ xs))

brackets : (n : ℕ) (ds : List ℕ) → Digits 10 n ds → read_decimal (code "(" ∷ (letters_of false ds ++ (code ")" ∷ []))) ≡ Some (signed true n)
unfolding read_decimal
brackets n ds d = simp (before_close_lem (letters_of false ds), whole_read 10 ds (lit≤ tt) d.below d.some_digit, d.number)

-- The piece of %d: whatever its mark, zeros, commas and spaces, the integer. Its text keeps the digits of the magnitude.
pub decimal-back : (a : ℕ) (m : Mark) (z : ℕ) (body : List ℕ) (i n : ℕ) → kept body ≡ letters_of false (digits 10 n)
    → read_decimal (kept (spaced a m NoPrefix z body i)) ≡ Some (signed (is_minus m) n)
unfolding kept read_decimal
decimal-back a m z body i n e =
    let ds = digits 10 n in
    let close = closing m in
    let d : Digits 10 n (with_zeros z ds) = zeros_first 10 n z ds (lit< tt) (digits_of 10 n (lit≤ tt)) in
    let k : letters_of false (replicate z 0) ++ (letters_of false ds ++ close) ≡ letters_of false (with_zeros z ds) ++ close =
    sym (append_assoc (letters_of false (replicate z 0)) (letters_of false ds) close)
    ∙ ap (λ (l : List ℕ). l ++ close) (sym (letters-append false (replicate z 0) ds)) in
    ap read_decimal (kept_spaced a m NoPrefix z body (letters_of false ds) i e ∙ ap (λ (l : List ℕ). kept (marks m NoPrefix) ++ l) k)
    ∙ by_mark m (with_zeros z ds) d
  where
    by_mark : (m : Mark) (ds : List ℕ) → Digits 10 n ds
        → read_decimal (kept (marks m NoPrefix) ++ (letters_of false ds ++ closing m)) ≡ Some (signed (is_minus m) n)
    by_mark NoMark ds d = rw append-nil (plain n ds d)
    by_mark Plus ds d = rw append-nil (plain n ds d)
    by_mark Space ds d = rw append-nil (plain n ds d)
    by_mark Minus ds d = rw append-nil (after_minus n ds d)
    by_mark Brackets ds d = brackets n ds d

below_more : (base : ℕ) (ds : List ℕ) → base ≤ 16 → Below base ds → Below 16 ds
below_more base [] h b = tt
below_more base (d ∷ ds) h b = (omega (arith, b.0), below_more base ds h b.1)

-- digits do not begin with `0x`
no_prefix : (ds : List ℕ) → Below 16 ds → after_prefix (letters_of false ds) ≡ None
unfolding after_prefix letters_of
no_prefix [] b = refl
no_prefix (c ∷ []) b = refl
no_prefix (c ∷ d ∷ ds) b = simp (letter-is_not (code "x") d b.1.0 (λ x p q e. omega arith)) (neither (eqb (letter_of false c) (code "0")))
  where
    neither : (t : Bool) → choose {A = Option (List ℕ)} (t && false) (λ _. Some (letters_of false ds)) (λ _. None) ≡ None
    neither true = refl
    neither false = refl

no_prefix_read : (base n : ℕ) (ds : List ℕ) → base ≤ 16 → Digits base n ds
    → whole_number base (or_whole (letters_of false ds) (after_prefix (letters_of false ds))) ≡ Some n
no_prefix_read base n ds h d = simp (no_prefix ds (below_more base ds h d.below), whole_read base ds h d.below d.some_digit, d.number)

-- What stands behind a prefix, or the digits where there is none; an octal prefix is a leading zero.
after_prefix_lem : (p : Prefix) (base n : ℕ) (ds : List ℕ) → 2 ≤ base → base ≤ 16 → Digits base n ds
    → read_bits base (kept (marks NoMark p) ++ letters_of false ds) ≡ Some n
unfolding kept after_prefix read_bits letters_of letter_of
after_prefix_lem NoPrefix base n ds h k d = no_prefix_read base n ds k d
after_prefix_lem Octal base n ds h k d = no_prefix_read base n (0 ∷ ds) k (zeros_first base n 1 ds (omega arith) d)
after_prefix_lem HexLower base n ds h k d = simp (whole_read base ds k d.below d.some_digit, d.number)
after_prefix_lem HexUpper base n ds h k d = simp (whole_read base ds k d.below d.some_digit, d.number)

-- The piece of %x or %o, whatever its prefix, zeros and spaces: the bits. Stated once over the base.
pub bits_back : (a : ℕ) (p : Prefix) (z : ℕ) (body : List ℕ) (i base n : ℕ) → 2 ≤ base → base ≤ 16 → kept body ≡ letters_of false (digits base n)
    → read_bits base (kept (spaced a NoMark p z body i)) ≡ Some n
bits_back a p z body i base n h k e =
    let d : Digits base n (with_zeros z (digits base n)) = zeros_first base n z (digits base n) (omega arith) (digits_of base n h) in
    ap (read_bits base)
    (kept_spaced a NoMark p z body (letters_of false (digits base n)) i e
    ∙ simp (append-nil, ← letters-append))
    ∙ after_prefix_lem p base n (with_zeros z (digits base n)) h k d

-- The texts that these laws are about: digits in small letters or capitals, and digits with commas.
pub kept-numeral : (u : Bool) (base n : ℕ) → 2 ≤ base → base ≤ 16 → kept (numeral u base n) ≡ letters_of false (digits base n)
unfolding numeral
kept-numeral u base n h k = kept-letters u (digits base n) (below_more base (digits base n) k (digits_of base n h).below)

pub kept-commas : (n : ℕ) → kept (grouped (decimal n)) ≡ letters_of false (digits 10 n)
kept-commas n = kept-grouped (decimal n) ∙ kept-numeral false 10 n (lit≤ tt) (lit≤ tt)
