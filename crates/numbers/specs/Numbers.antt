-- The text of a number under an element. 01, "Integers" and "Hexadecimal floats".
use Rattle.std.specs.Prelude.{ℕ, ◌%◌, ◌^◌, Bool, true, false, List, ℤ, nat_abs}
use Rattle.writing.specs.Choose.{choose}
use Rattle.numerals.specs.Digits.{numeral, decimal}
use Rattle.numerals.specs.Grouping.{grouped}
use Rattle.numerals.specs.Integers.{integer_of, is_negative}
use Rattle.kinds.specs.declared.IntegerKind.{IntegerKind}
use Rattle.specifiers.specs.Params.{width_of}
use Rattle.frames.specs.Frame.{padded}
use Rattle.frames.specs.declared.Mark.{Mark}
use Rattle.frames.specs.declared.Mark.TheVariants.{NoMark, Plus, Space, Minus, Brackets}
use Rattle.frames.specs.declared.Prefix.{Prefix}
use Rattle.frames.specs.declared.Prefix.TheVariants.{NoPrefix, Octal, HexLower, HexUpper}
use Rattle.frames.specs.declared.Adjust.{Adjust}
use Rattle.frames.specs.declared.Adjust.TheVariants.{Right, Left, Zeros}
use Rattle.binary64.specs.Fields.{negative}
use Rattle.binary64.specs.HexFloat.{hex_float_of}
use Rattle.hexfloats.specs.Texts.{hex_float_text}
use Rattle.numerals.specs.declared.Radix.{Radix}
use Rattle.numerals.specs.declared.Radix.TheVariants as R
use Rattle.specifiers.specs.declared.flags.Flags.{Flags}
use Rattle.specifiers.specs.declared.Element.{Element}

-- Where a number's padding stands: `-` decides, else `0` makes it zeros.
abbrev pub fill : Flags → Adjust
fill f = choose f.left (λ _. Left) (λ _. choose f.zero (λ _. Zeros) (λ _. Right))

-- A number's digits with mark and prefix, padded to the element's width.
abbrev pub padded_number : Element → Mark → Prefix → List ℕ → List ℕ
padded_number e m p t = padded (width_of e.width) (fill e.flags) m p t

-- "Mark: `(` and `)` or `-` for negatives, else `+`, else space."
abbrev pub sign_mark : Flags → Mark
sign_mark f = choose f.plus (λ _. Plus) (λ _. choose f.space (λ _. Space) (λ _. NoMark))

abbrev pub integer_mark : Flags → Bool → Mark
integer_mark f negative = choose negative (λ _. choose f.parentheses (λ _. Brackets) (λ _. Minus)) (λ _. sign_mark f)

-- %d: "Commas every three digits from the right. Precision and `#` do nothing."
abbrev pub commas : Bool → List ℕ → List ℕ
commas true t = grouped t
commas false t = t

abbrev pub decimal_text : Element → ℤ → List ℕ
decimal_text e z = padded_number e (integer_mark e.flags (is_negative z)) NoPrefix (commas e.flags.grouping (decimal (nat_abs z)))

-- %x, %o: "`#` puts `0x`, `0X` or `0` in front"; "Other marks, commas and precision do nothing."
abbrev pub if_alternate : Flags → Prefix → Prefix
if_alternate f p = choose f.alternate (λ _. p) (λ _. NoPrefix)

abbrev pub hex_prefix : Bool → Prefix
hex_prefix false = HexLower
hex_prefix true = HexUpper

-- An integer of the kind k with the 64-bit pattern v. "%x %X %o: `format_unsigned` on the bits at the kind's own width".
abbrev pub numeral_text : Element → Radix → IntegerKind → ℕ → List ℕ
numeral_text e R.Decimal k v = decimal_text e (integer_of k.signed v)
numeral_text e R.Octal k v = padded_number e NoMark (if_alternate e.flags Octal) (numeral false 8 (v % 2 ^ k.width))
numeral_text e R.Hexadecimal k v =
    padded_number e NoMark (if_alternate e.flags (hex_prefix e.upper)) (numeral e.upper 16 (v % 2 ^ k.width))

-- %a: "Mark: `-` by the sign bit, else `+`, else space."
abbrev pub float_mark : Flags → Bool → Mark
float_mark f negative = choose negative (λ _. Minus) (λ _. sign_mark f)

-- "`0` pads after `0x` for finite values only."
abbrev pub finite_text : Element → ℕ → List ℕ
finite_text e v =
    padded_number e (float_mark e.flags (negative v)) (hex_prefix e.upper)
    (hex_float_text e.upper (hex_float_of v e.precision))
