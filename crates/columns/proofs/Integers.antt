-- The piece of an integer under %d, %x, %X and %o, read back, is the integer, or its bits at its own width. Assumes nothing.
use Prim.Native.Nat.{ℕ, ◌-◌, ◌%◌, ◌^◌, ◌≤◌, ◌<◌}
use Prim.Native.Char.{code}
use mathlib.Core.Path.{◌≡◌, refl, sym, ap, subst, ◌∙◌}
use mathlib.Core.Bool.{Bool, true, false}
use mathlib.Core.List.{List}
use native.Mathlib.Decide.{dec_lt}
use native.Mathlib.Nat.{mod-eq_of_lt}
use native.Mathlib.Omega.{arith}
use lib.Dec.{lit≤}
use lib.IntN.{ℤ, nat_abs}
use lib.Pow.{pow_mono}
use borrow.Author.Tests.{leb-true, ltb-true, le-ltb}
use Rattle.writing.proofs.Choose.{by_test}
use Rattle.numerals.specs.Digits.{digits, letters_of, numeral, decimal}
use Rattle.numerals.specs.Integers.{int_of, integer_of, is_negative, signed, bits_of, InWidth}
use Rattle.numerals.proofs.TwosComplement.{sign_magnitude_lem, int_of_low, int_of_high, low_bits}
use Rattle.specifiers.specs.Params.{width_of}
use Rattle.frames.specs.Signs.{is_minus}
use Rattle.frames.specs.declared.Mark.{Mark}
use Rattle.frames.specs.declared.Mark.TheVariants.{NoMark}
use Rattle.frames.specs.declared.Prefix.{Prefix}
use Rattle.frames.specs.declared.Prefix.TheVariants.{NoPrefix, Octal}
use Rattle.reading.specs.Kept.{kept}
use Rattle.reading.specs.Reading.{Integer, Bits, read_piece}
use Rattle.reading.proofs.Integers.{spaced, kept-numeral, kept-commas}
use Rattle.reading.proofs.Pieces.{decimal-piece, hex_piece, octal_piece}
use Rattle.kinds.specs.declared.IntegerKind.{IntegerKind}
use Rattle.numerals.specs.declared.Radix.{Radix}
use Rattle.numerals.specs.declared.Radix.TheVariants as R
use Rattle.specifiers.specs.declared.flags.Flags.{Flags}
use Rattle.specifiers.specs.declared.Element.{Element}
use Rattle.rows.specs.Entry.{within}
use Rattle.numbers.specs.Numbers.{fill, integer_mark, commas, if_alternate, hex_prefix, padded_number, decimal_text, numeral_text}
use Rattle.columns.proofs.Forms.{numeral_letter, NumeralRead}
use Rattle.columns.proofs.Frames.{padded-read, sign_mark_lem}

-- A value within a signed kind is an integer of its width.
in_width : (w v : ℕ) → w ≤ 64 → v < 2 ^ 64 → within (record { width = w; signed = true }) v ≡ true → InWidth w (int_of 64 v)
in_width w v k b h =
    let p : 2 ^ (w - 1) ≤ 2 ^ 63 = pow_mono {j = 63} (omega arith) in
    elim (dec_lt v (2 ^ (w - 1))) [
      | yes l ↦ subst (InWidth w) (sym (int_of_low 64 v (omega arith))) l
      | no n ↦
          let o : 2 ^ 64 - 2 ^ (w - 1) ≤ v = leb-true (2 ^ 64 - 2 ^ (w - 1)) v (rw (le-ltb v (2 ^ (w - 1)) (omega arith)) at h) in
          let i : 2 ^ 64 - v - 1 < 2 ^ (w - 1) = omega arith in
          subst (InWidth w) (sym (int_of_high 64 v (2 ^ 64 - v - 1) (omega arith) (omega arith))) i
    ]

-- So the low bits of a pattern within a kind are the bits of its integer.
pub own_bits : (w : ℕ) (signed : Bool) (v : ℕ) → 1 ≤ w → w ≤ 64 → v < 2 ^ 64 → within (record { width = w; signed = signed }) v ≡ true
    → v % 2 ^ w ≡ bits_of w (integer_of signed v)
unfolding bits_of
own_bits w true v h k b i = low_bits w v h k b (in_width w v k b i)
own_bits w false v h k b i = mod-eq_of_lt (ltb-true v (2 ^ w) i)

-- %d: the mark says the sign.
mark_sign : (f : Flags) (negative : Bool) → is_minus (integer_mark f negative) ≡ negative
mark_sign f true = by_test (λ (m : Mark). is_minus m ≡ true) f.parentheses _ _ (λ _. refl) (λ _. refl)
mark_sign f false = (sign_mark_lem f).0

kept-digits : (grouped : Bool) (n : ℕ) → kept (commas grouped (decimal n)) ≡ letters_of false (digits 10 n)
kept-digits true n = kept-commas n
kept-digits false n = kept-numeral false 10 n (lit≤ tt) (lit≤ tt)

signed-read : (e : Element) (z : ℤ) → read_piece (code "d") (decimal_text e z) ≡ Integer z
signed-read e z =
    padded-read (λ (t : List ℕ). read_piece (code "d") t ≡ Integer z) m NoPrefix body
    (λ a y i. decimal-piece a m y body i n (kept-digits e.flags.grouping n) ∙ ap Integer value)
    (width_of e.width) (fill e.flags)
  where
    n : ℕ
    n = nat_abs z

    m : Mark
    m = integer_mark e.flags (is_negative z)

    body : List ℕ
    body = commas e.flags.grouping (decimal n)

    value : signed (is_minus m) n ≡ z
    value = ap (λ (s : Bool). signed s n) (mark_sign e.flags (is_negative z)) ∙ sign_magnitude_lem z

-- %x, %X and %o: stated once over the letter c and its base.
module _ (c base : ℕ) (two : 2 ≤ base) (most : base ≤ 16)
    (reads : (a : ℕ) (p : Prefix) (z : ℕ) (body : List ℕ) (i n : ℕ) → kept body ≡ letters_of false (digits base n)
    → read_piece c (spaced a NoMark p z body i) ≡ Bits n) where
  unsigned_read : (e : Element) (p : Prefix) (u : Bool) (n m : ℕ) → n ≡ m → read_piece c (padded_number e NoMark p (numeral u base n)) ≡ Bits m
  unsigned_read e p u n m q =
      padded-read (λ (t : List ℕ). read_piece c t ≡ Bits m) NoMark p (numeral u base n)
      (λ a z i. reads a p z (numeral u base n) i n (kept-numeral u base n two most) ∙ ap Bits q)
      (width_of e.width) (fill e.flags)

-- The piece of an integer of the kind k under the letter of its element.
pub numeral-read : (e : Element) (r : Radix) (k : IntegerKind) (v : ℕ) → v % 2 ^ k.width ≡ bits_of k.width (integer_of k.signed v)
    → NumeralRead r k.width (integer_of k.signed v) (read_piece (numeral_letter r e.upper) (numeral_text e r k v))
numeral-read e R.Decimal k v q = signed-read e (integer_of k.signed v)
numeral-read e R.Octal k v q =
    unsigned_read (code "o") 8 (lit≤ tt) (lit≤ tt) octal_piece e (if_alternate e.flags Octal) false (v % 2 ^ k.width) _ q
numeral-read e R.Hexadecimal k v q =
    let u = e.upper in
    unsigned_read (numeral_letter R.Hexadecimal u) 16 (lit≤ tt) (lit≤ tt) (hex_piece u) e (if_alternate e.flags (hex_prefix u)) u (v % 2 ^ k.width) _ q
