-- The text of a value under an element with a limited width and precision is shorter than 2 to the 32nd bytes. Assumes nothing.
use mathlib.Core.Bool.{Bool, true, false}
use mathlib.Core.List.{List}
use Prim.Native.Nat.{ℕ, ◌%◌, ◌^◌, ◌<◌}
use native.Mathlib.Nat.{mod-le}
use native.Mathlib.Omega.{arith}
use lib.Dec.{eqb}
use lib.IntN.{nat_abs}
use Rattle.writing.specs.Text.{ascii}
use Rattle.writing.proofs.Choose.{by_test}
use Rattle.numerals.specs.Digits.{numeral, decimal}
use Rattle.numerals.specs.Bases.{base_of}
use Rattle.numerals.specs.declared.Radix.{Radix}
use Rattle.numerals.specs.declared.Radix.TheVariants as R
use Rattle.numerals.proofs.Digits.{length-numeral, twenty_places}
use Rattle.numerals.proofs.Bases.{based_places}
use Rattle.numerals.proofs.Commas.{length-grouped-decimal}
use Rattle.numerals.specs.Integers.{int_of, integer_of, is_negative}
use Rattle.specifiers.specs.Params.{width_of}
use Rattle.frames.specs.declared.Mark.{Mark}
use Rattle.frames.specs.declared.Mark.TheVariants.{NoMark}
use Rattle.frames.specs.declared.Prefix.{Prefix}
use Rattle.frames.specs.declared.Prefix.TheVariants.{NoPrefix}
use Rattle.binary64.specs.Fields.{negative, category_of}
use Rattle.binary64.specs.HexFloat.{hex_float_of}
use Rattle.binary64.specs.declared.FpCategory.{FpCategory}
use Rattle.binary64.specs.declared.FpCategory.TheVariants as C
use Rattle.hexfloats.specs.Texts.{hex_float_text}
use Rattle.calendar.proofs.Epoch.{magnitude_within}
use Rattle.kinds.specs.declared.letters.TimeFormat.{TimeFormat}
use Rattle.kinds.specs.declared.IntegerKind.{IntegerKind}
use Rattle.kinds.specs.declared.IntegerForm.{IntegerForm}
use Rattle.kinds.specs.declared.IntegerForm.TheVariants.{Numeral, Scalar, Digits}
use Rattle.kinds.specs.declared.Form.{Form}
use Rattle.kinds.specs.declared.Form.TheVariants as F
use Rattle.specifiers.specs.declared.Element.{Element}
use Rattle.rows.specs.declared.entries.Entry.{Entry}
use Rattle.utf8.specs.Scalars.{is_scalar, utf8_of}
use Rattle.utf8.proofs.ScalarValues.{scalar_length}
use Rattle.fields.specs.Cut.{cut_to, cased}
use Rattle.fields.proofs.Cuts.{cut_shorter}
use Rattle.fields.proofs.Cased.{length-cased}
use Rattle.numbers.specs.Numbers.{fill, padded_number, integer_mark, commas, hex_prefix, numeral_text, float_mark}
use Rattle.fields.specs.Texts.{side, padded_text, format_string, with_minus}
use Rattle.dates.specs.Components.{is_early_fraction}
use Rattle.elements.specs.Texts.{Shown, integer_text, float_text, time_text, value_text, element_text, text_of}
use Rattle.bounds.proofs.Elements.{Limited, width-within}
use Rattle.bounds.proofs.Frames.{Short, Body, padded-short}
use Rattle.bounds.proofs.Floats.{float_body}
use Rattle.bounds.proofs.Dates.{component-length}

-- Digits of 64 bits.
based_body : (u : Bool) (r : Radix) (n : ℕ) → n < 2 ^ 64 → Body (numeral u (base_of r) n)
based_body u r n h = omega (arith, length-numeral u (base_of r) n, based_places r n h)

commas_body : (g : Bool) (n : ℕ) → n < 2 ^ 64 → Body (commas g (decimal n))
commas_body true n h = omega (arith, length-grouped-decimal n, twenty_places n h)
commas_body false n h = based_body false R.Decimal n h

signed_body : (negative : Bool) (n : ℕ) → n < 2 ^ 64 → Body (with_minus negative (decimal n))
signed_body false n h = based_body false R.Decimal n h
signed_body true n h = omega (arith, length-numeral false 10 n, twenty_places n h)

abbrev ShownShort : Shown → Type 0
ShownShort x = Short (text_of x)

module _ (e : Element) (limited : Limited e) where
  number_short : (m : Mark) (p : Prefix) (t : List ℕ) → Body t → Short (padded_number e m p t)
  number_short m p t h = padded-short (width_of e.width) m p t (fill e.flags) (width-within e.width limited.0) h

  field_short : (m : Mark) (t : List ℕ) → Body t → Short (padded_text e m t)
  field_short m t h =
      padded-short (width_of e.width) m NoPrefix (cased e.upper t) (side e.flags) (width-within e.width limited.0)
      (rw length-cased h)

  string_short : (t : List ℕ) → Body t → Short (format_string e t)
  string_short t h = field_short NoMark (cut_to e.precision t) (omega (arith, cut_shorter e.precision t))

  float-short : (c : FpCategory) (v : ℕ) → Short (float_text e c v)
  float-short C.Nan v = field_short NoMark (ascii "NaN") (omega arith)
  float-short C.Infinite v = field_short (float_mark e.flags (negative v)) (ascii "Infinity") (omega arith)
  float-short C.Finite v =
      number_short (float_mark e.flags (negative v)) (hex_prefix e.upper) (hex_float_text e.upper (hex_float_of v e.precision))
      (float_body e.upper v e.precision limited.1)

  module _ (v : ℕ) (below : v < 2 ^ 64) where
    magnitude_below : (signed : Bool) → nat_abs (integer_of signed v) < 2 ^ 64
    magnitude_below true = omega (arith, magnitude_within v below)
    magnitude_below false = below

    numeral-short : (r : Radix) (k : IntegerKind) → Short (numeral_text e r k v)
    numeral-short R.Decimal k =
        number_short (integer_mark e.flags (is_negative (integer_of k.signed v))) NoPrefix _
        (commas_body e.flags.grouping _ (magnitude_below k.signed))
    numeral-short R.Octal k = number_short NoMark _ _ (based_body false R.Octal (v % 2 ^ k.width) (omega (arith, mod-le v (2 ^ k.width))))
    numeral-short R.Hexadecimal k =
        number_short NoMark _ _ (based_body e.upper R.Hexadecimal (v % 2 ^ k.width) (omega (arith, mod-le v (2 ^ k.width))))

    integer-short : (f : IntegerForm) (k : IntegerKind) → ShownShort (integer_text e f k v)
    integer-short (Numeral r) k = numeral-short r k
    integer-short Scalar k =
        let z = integer_of k.signed v in
        by_test ShownShort (is_negative z) _ _ (λ _. omega arith)
        (λ _. by_test ShownShort (is_scalar (nat_abs z)) _ _ (λ _. field_short NoMark (utf8_of (nat_abs z)) (omega (arith, scalar_length (nat_abs z))))
        (λ _. omega arith))
    integer-short Digits k = string_short _ (signed_body (is_negative (integer_of k.signed v)) _ (magnitude_below k.signed))

    time-short : (u : Bool) (c : TimeFormat) → ShownShort (time_text u c (int_of 64 v))
    time-short u c =
        by_test ShownShort (is_early_fraction (int_of 64 v)) _ _ (λ _. omega arith)
        (λ _. rw length-cased (omega (arith, component-length v below c)))

  module _ (x : Entry) (below : x.value < 2 ^ 64) where
    value-short : (f : Form) (part : List ℕ) → Body part → ShownShort (value_text e f x part)
    value-short (F.Integer f k) part h =
        by_test ShownShort x.null _ _ (λ _. string_short (ascii "null") (omega arith)) (λ _. integer-short x.value below f k)
    value-short F.HexFloat part h = float-short (category_of x.value) x.value
    value-short F.Boolean part h = string_short _ (by_test Body (eqb x.value 0) _ _ (λ _. omega arith) (λ _. omega arith))
    value-short F.Text part h = field_short NoMark part h
    value-short (F.Time c) part h = time-short x.value below e.upper c
    value-short F.NotPrinted part h = omega arith

    pub element-short : (named : List ℕ) → Body named → Short (text_of (element_text e x named))
    unfolding element_text
    element-short named h =
        value-short e.form (cut_to e.precision named) (omega (arith, cut_shorter e.precision named))
