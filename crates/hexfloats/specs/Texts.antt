-- The hexadecimal text of a finite binary64 value, without mark, prefix and padding. 01, "Hexadecimal floats".
use Rattle.std.specs.Prelude.{ℕ, ◌+◌, ◌-◌, Bool, true, false, List, ◌∷◌, ◌++◌, ltb, replicate}
use Prim.Native.Char.{code}
use Rattle.writing.specs.Choose.{choose}
use Rattle.numerals.specs.Digits.{digits_in, letters_of, decimal}
use Rattle.binary64.specs.declared.HexFloat.{HexFloat}

-- The digit before the point.
abbrev pub leading_digit : Bool → ℕ
leading_digit false = 0
leading_digit true = 1

abbrev pub leading_letter : Bool → ℕ
leading_letter leading = code "0" + leading_digit leading

abbrev pub exponent_letter : Bool → ℕ
exponent_letter false = code "p"
exponent_letter true = code "P"

-- `p` and the exponent in decimal, "perhaps with `-`": e less its bias.
unfoldable pub exponent_text : Bool → ℕ → ℕ → List ℕ
exponent_text upper e bias =
    exponent_letter upper ∷ choose (ltb e bias) (λ _. code "-" ∷ decimal (bias - e)) (λ _. decimal (e - bias))

-- The parts as text.
unfoldable pub hex_float_text : Bool → HexFloat → List ℕ
hex_float_text upper h =
    leading_letter h.leading
    ∷ code "."
    ∷ (letters_of upper (digits_in 16 h.digits h.fraction)
    ++ (replicate h.zeros (code "0") ++ exponent_text upper h.exponent h.bias))
