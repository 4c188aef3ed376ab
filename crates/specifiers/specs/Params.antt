-- A width, precision or index as a format writes it: a run of decimal digits.
use Rattle.std.specs.Prelude.{ℕ, ◌+◌, Ok, Err, ◌-◌, Bool, false, not, ◌&&◌, ◌||◌, List, [], ◌∷◌, leb, eqb, length, drop, None, Option, Some}
use Prim.Native.Char.{code}
use Rattle.refusals.specs.Limits.{largest_number}
use Rattle.refusals.specs.Numbers.{Parsed}
use Rattle.refusals.specs.declared.Refusal.TheVariants.{LargeNumber}
use Rattle.writing.specs.Choose.{choose}
use Rattle.numerals.specs.Digits.{number_of}

abbrev pub is_digit : ℕ → Bool
is_digit c = leb (code "0") c && leb c (code "9")

-- The decimal digits that a text begins with.
unfoldable pub leading_digits : List ℕ → List ℕ
leading_digits [] = []
leading_digits (c ∷ cs) = choose (is_digit c) (λ _. (c - code "0") ∷ leading_digits cs) (λ _. [])

-- Whether a byte begins a number: a digit, and 0 only where a leading 0 is allowed.
-- 01: "Width: digits not starting with 0, or absent", and an index has "digits from 1 to 9 onward"; a precision may start with 0.
abbrev pub begins_param : Bool → ℕ → Bool
begins_param zero c = is_digit c && (zero || not (eqb c (code "0")))

abbrev pub is_param : Bool → List ℕ → Bool
is_param zero [] = false
is_param zero (c ∷ cs) = begins_param zero c

-- The number of the digits that stand in the text s from the place at on, and the place behind them. 01: "number above 2,147,483,647" is refused.
unfoldable pub number_taken : ℕ → List ℕ → Parsed ℕ
number_taken at ds =
    choose (leb (number_of 10 ds) largest_number) (λ _. Ok (number_of 10 ds, at + length ds)) (λ _. Err LargeNumber)

unfoldable pub number_at : List ℕ → ℕ → Parsed ℕ
number_at s at = number_taken at (leading_digits (drop at s))

-- The parameter that stands there.
abbrev pub param_of : Parsed ℕ → Parsed (Option ℕ)
param_of (Ok (n, next)) = Ok (Some n, next)
param_of (Err r) = Err r

unfoldable pub param_at : Bool → List ℕ → ℕ → Parsed (Option ℕ)
param_at zero s at = choose (is_param zero (drop at s)) (λ _. param_of (number_at s at)) (λ _. Ok (None, at))

-- A width that is absent pads nothing.
abbrev pub width_of : Option ℕ → ℕ
width_of None = 0
width_of (Some w) = w
