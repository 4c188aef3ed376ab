-- The parts of the hexadecimal text of a finite binary64 value. 01, "Hexadecimal floats".
use Rattle.std.specs.Prelude.{ℕ, ◌+◌, ◌-◌, ◌/◌, ◌^◌, max, true, false, ltb, eqb, None, Option, Some}
use Rattle.writing.specs.Choose.{choose}
use Rattle.binary64.specs.Fields.{exponent_field, fraction_field, scaled_bits}
use Rattle.binary64.specs.Rounding.{nearest_to, kept_digits}
use Rattle.binary64.specs.declared.HexFloat.{HexFloat}

-- "zero is `0x0.0p0` at every precision"
abbrev pub zero_form : HexFloat
zero_form = record { leading = false; fraction = 0; digits = 1; zeros = 0; exponent = 0; bias = 0 }

-- Subnormal: "it is `0x0.`, 13 digits, `p-1022`"
abbrev pub subnormal_form : ℕ → HexFloat
subnormal_form f = record { leading = false; fraction = f; digits = 13; zeros = 0; exponent = 0; bias = 1022 }

-- "Normal: `0x1.`, fraction, `p`, exponent in decimal": n digits of the fraction, zeros behind them, the biased exponent and its bias.
abbrev pub normal_form : ℕ → ℕ → ℕ → ℕ → ℕ → HexFloat
normal_form f n zeros e bias = record { leading = true; fraction = f; digits = n; zeros = zeros; exponent = e; bias = bias }

-- "No precision: trailing zeros removed, at least one digit."
unfoldable pub shortest : ℕ → ℕ → ℕ → HexFloat
shortest f e bias = normal_form (f / 16 ^ (13 - kept_digits 13 f)) (kept_digits 13 f) 0 e bias

-- A fraction r that was rounded to p digits: "a carry raises the exponent".
abbrev pub carried : ℕ → ℕ → ℕ → ℕ → HexFloat
carried p r e bias = choose (ltb r (16 ^ p)) (λ _. normal_form r p 0 e bias) (λ _. normal_form 0 p 0 (e + 1) bias)

-- "Precision p: p digits, rounded to nearest, ties to even". The fraction has 13 digits; more are zeros.
unfoldable pub rounded : ℕ → ℕ → ℕ → ℕ → HexFloat
rounded p f e bias =
    choose (ltb p 13) (λ _. carried p (nearest_to f (16 ^ (13 - p))) e bias) (λ _. normal_form f 13 (p - 13) e bias)

-- A normal value with this fraction and biased exponent. Of the precision: "0 as 1".
abbrev pub normal_of : Option ℕ → ℕ → ℕ → ℕ → HexFloat
normal_of None f e bias = shortest f e bias
normal_of (Some p) f e bias = rounded (max p 1) f e bias

-- "Subnormal with precision below 13 is first scaled by 2 to the 54th, an exact f64 product, and 54 is taken off the exponent. Otherwise it is .."
abbrev pub subnormal_of : Option ℕ → ℕ → HexFloat
subnormal_of None f = subnormal_form f
subnormal_of (Some p) f =
    choose (ltb p 13)
    (λ _. normal_of (Some p) (fraction_field (scaled_bits f)) (exponent_field (scaled_bits f)) (1023 + 54))
    (λ _. subnormal_form f)

-- The text's parts for the bits b, which are those of a finite value, at a precision.
unfoldable pub hex_float_of : ℕ → Option ℕ → HexFloat
hex_float_of b p =
    choose (eqb (exponent_field b) 0)
    (λ _. choose (eqb (fraction_field b) 0) (λ _. zero_form) (λ _. subnormal_of p (fraction_field b)))
    (λ _. normal_of p (fraction_field b) (exponent_field b) 1023)
