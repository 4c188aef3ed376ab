-- The letters of a format. 01: "Letter: b B h H s S c C d o x X e E f g G a A, or t or T and one of the 30 letters of `TimeFormat`, with `h` read as `b`."
use Rattle.std.specs.Prelude.{ℕ, List, [], ◌∷◌, eqb, None, Option, Some}
use Prim.Native.Char.{Char, code}
use Rattle.writing.specs.Choose.{choose}
use Rattle.kinds.specs.declared.letters.TimeFormat.{TimeFormat}
use Rattle.kinds.specs.declared.letters.TimeFormat.TheVariants as T
use Rattle.kinds.specs.declared.letters.ConversionType.{ConversionType}
use Rattle.kinds.specs.declared.letters.ConversionType.TheVariants as C
use Rattle.numerals.specs.declared.Radix.TheVariants.{Decimal, Octal, Hexadecimal}

-- A table of names by number or letter: what stands in the row whose key is b, or `others` where no row has it.
abbrev pub lookup : {K A B : Type 0} → (K → ℕ) → (A → B) → B → List (K × A) → ℕ → B
lookup key found others [] b = others
lookup key found others (r ∷ rows) b = choose (eqb b (key r.0)) (λ _. found r.1) (λ _. lookup key found others rows b)

-- Java, "Date/Time Conversions": the letters behind t or T.
abbrev pub time_letters : List (Char × TimeFormat)
time_letters =
    ("H", T.HUpper) ∷ ("I", T.IUpper) ∷ ("k", T.KLower) ∷ ("l", T.LLower) ∷ ("M", T.MUpper) ∷ ("S", T.SUpper) ∷ ("L", T.LUpper) ∷ ("N", T.NUpper) ∷
    ("p", T.PLower) ∷ ("z", T.ZLower) ∷ ("Z", T.ZUpper) ∷ ("s", T.SLower) ∷ ("Q", T.QUpper) ∷ ("B", T.BUpper) ∷ ("b", T.BLower) ∷ ("h", T.BLower) ∷
    ("A", T.AUpper) ∷ ("a", T.ALower) ∷ ("C", T.CUpper) ∷ ("Y", T.YUpper) ∷ ("y", T.YLower) ∷ ("j", T.JLower) ∷ ("m", T.MLower) ∷ ("d", T.DLower) ∷
    ("e", T.ELower) ∷ ("R", T.RUpper) ∷ ("T", T.TUpper) ∷ ("r", T.RLower) ∷ ("D", T.DUpper) ∷ ("F", T.FUpper) ∷ ("c", T.CLower) ∷ []

unfoldable pub time_of : ℕ → Option TimeFormat
time_of b = lookup code Some None time_letters b

-- Java, "Conversions": the letters but for t and T. e, f and g, which are not printed, are one conversion.
abbrev pub small_letters : List (Char × ConversionType)
small_letters =
    ("b", C.Boolean) ∷ ("h", C.HexHash) ∷ ("s", C.String) ∷ ("c", C.Char) ∷ ("d", C.Integer Decimal) ∷ ("o", C.Integer Octal) ∷
    ("x", C.Integer Hexadecimal) ∷ ("e", C.DecimalFloat) ∷ ("f", C.DecimalFloat) ∷ ("g", C.DecimalFloat) ∷ ("a", C.HexFloat) ∷ []

-- A capital is judged as its small letter (01, "Capitals likewise"), and prints as it does, in capitals (Java, "Conversions").
abbrev pub capital_letters : List (Char × ConversionType)
capital_letters =
    ("B", C.Boolean) ∷ ("H", C.HexHash) ∷ ("S", C.String) ∷ ("C", C.Char) ∷ ("X", C.Integer Hexadecimal) ∷ ("E", C.DecimalFloat) ∷
    ("G", C.DecimalFloat) ∷ ("A", C.HexFloat) ∷ []

unfoldable pub small_of : ℕ → Option ConversionType
small_of b = lookup code Some None small_letters b

unfoldable pub capital_of : ℕ → Option ConversionType
capital_of b = lookup code Some None capital_letters b
