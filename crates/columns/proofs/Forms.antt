-- What the piece of a value says, read back, by the form in which it is printed. The laws of this crate go by forms; what is claimed goes by letters.
use Rattle.std.specs.Prelude.{Option}
use Prim.Native.Nat.{ℕ}
use Prim.Native.Char.{code}
use mathlib.Core.Path.{◌≡◌}
use mathlib.Core.Bool.{Bool, true, false}
use mathlib.Core.List.{List}
use lib.IntN.{ℤ}
use Rattle.writing.specs.Choose.{choose}
use Rattle.numerals.specs.Integers.{integer_of, bits_of}
use Rattle.binary64.specs.Fields.{category_of}
use Rattle.binary64.specs.declared.FpCategory.{FpCategory}
use Rattle.binary64.specs.declared.FpCategory.TheVariants as C
use Rattle.reading.specs.Reading.{Reading, Integer, Bits, read_piece}
use Rattle.numerals.specs.declared.Radix.{Radix}
use Rattle.numerals.specs.declared.Radix.TheVariants as R
use Rattle.kinds.specs.declared.IntegerKind.{IntegerKind}
use Rattle.kinds.specs.declared.IntegerForm.{IntegerForm}
use Rattle.kinds.specs.declared.IntegerForm.TheVariants.{Numeral, Scalar, Digits}
use Rattle.kinds.specs.declared.Form.{Form}
use Rattle.kinds.specs.declared.Form.TheVariants as F
use Rattle.specifiers.specs.declared.Element.{Element}
use Rattle.columns.specs.Columns.{FloatRead}

-- The letters d, o, x or X, and a or A, by what they print.
abbrev pub numeral_letter : Radix → Bool → ℕ
numeral_letter R.Decimal upper = code "d"
numeral_letter R.Octal upper = code "o"
numeral_letter R.Hexadecimal upper = choose upper (λ _. code "X") (λ _. code "x")

abbrev pub float_letter : Bool → ℕ
float_letter upper = choose upper (λ _. code "A") (λ _. code "a")

-- An integer z of w bits.
abbrev pub NumeralRead : Radix → ℕ → ℤ → Reading → Type 0
NumeralRead R.Decimal w z r = r ≡ Integer z
NumeralRead R.Octal w z r = r ≡ Bits (bits_of w z)
NumeralRead R.Hexadecimal w z r = r ≡ Bits (bits_of w z)

-- %a and %A of a float: a NaN and an infinity have no number to read.
abbrev pub FiniteRead : FpCategory → ℕ → Option ℕ → Reading → Type 0
FiniteRead C.Nan b p r = Unit {0}
FiniteRead C.Infinite b p r = Unit {0}
FiniteRead C.Finite b p r = FloatRead b p r

-- The bytes t of an integer that is not null, and of any value in its form; what is not printed has none.
abbrev pub IntegerRead : Element → IntegerForm → IntegerKind → ℕ → List ℕ → Type 0
IntegerRead e (Numeral r) k v t = NumeralRead r k.width (integer_of k.signed v) (read_piece (numeral_letter r e.upper) t)
IntegerRead e Scalar k v t = Unit {0}
IntegerRead e Digits k v t = Unit {0}

abbrev pub ValueRead : Element → Form → Bool → ℕ → List ℕ → Type 0
ValueRead e (F.Integer f k) false v t = IntegerRead e f k v t
ValueRead e (F.Integer f k) true v t = Unit {0}
ValueRead e F.HexFloat null v t = FiniteRead (category_of v) v e.precision (read_piece (float_letter e.upper) t)
ValueRead e F.Boolean null v t = Unit {0}
ValueRead e F.Text null v t = Unit {0}
ValueRead e (F.Time x) null v t = Unit {0}
ValueRead e F.NotPrinted null v t = ⊥
