-- Numerals and their texts. Assumes nothing.
use mathlib.Core.Path.{◌≡◌, refl, ap}
use mathlib.Core.Bool.{Bool, true, false}
use mathlib.Core.List.{List}
use Prim.Native.Nat.{ℕ}
use lib.IntN.{nat_abs}
use Rattle.writing.specs.Choose.{choose}
use Rattle.numerals.proofs.Bases.{based_places}
use Rattle.numerals.proofs.Commas.{length-grouped-decimal}
use Rattle.numerals.proofs.Digits.{twenty_places, length-numeral}
use Rattle.numerals.specs.Digits.{decimal}
use Rattle.numerals.specs.Grouping.{grouped}
use Rattle.numerals.specs.Integers.{integer_of, is_negative}
use Rattle.frames.specs.declared.Prefix.TheVariants.{NoPrefix}
use Rattle.numerals.specs.declared.Radix.{Radix}
use Rattle.numerals.specs.declared.Radix.TheVariants as R
use Rattle.kinds.specs.declared.IntegerKind.{IntegerKind}
use Rattle.specifiers.specs.declared.Element.{Element}
use Rattle.numbers.specs.Numbers.{padded_number, integer_mark, commas, numeral_text}
use Rattle.numbers.specs.Numerals.{digits_text, numeral_of}

commas_or_none : (b : Bool) (t : List ℕ) → choose b (λ _. grouped t) (λ _. t) ≡ commas b t
commas_or_none true t = refl
commas_or_none false t = refl

module _ (e : Element) where
  -- the numeral of an integer is its text
  pub numeral-text : (r : Radix) (k : IntegerKind) (v : ℕ)
      → padded_number e (numeral_of e r k v).mark (numeral_of e r k v).prefix (digits_text (numeral_of e r k v)) ≡ numeral_text e r k v
  numeral-text R.Decimal k v =
      let z = integer_of k.signed v in
      ap (padded_number e (integer_mark e.flags (is_negative z)) NoPrefix) (commas_or_none e.flags.grouping (decimal (nat_abs z)))
  numeral-text R.Octal k v = refl
  numeral-text R.Hexadecimal k v = refl

-- how many bytes a numeral takes
pub ruleset lengths = (length-grouped-decimal, twenty_places, length-numeral, based_places)
