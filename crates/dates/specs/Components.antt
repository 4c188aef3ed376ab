-- The text of the components of a date. 02, E1: "All t and T letters print as `format_time_component` does". Java, "Date/Time Conversions".
use Rattle.std.specs.Prelude.{ℕ, ◌/◌, ◌%◌, Bool, false, ◌&&◌, List, [], ◌∷◌, ◌++◌, eqb, ltb, ℤ, nat_abs, take}
use Prim.Native.Char.{Char, code}
use Rattle.writing.specs.Choose.{choose}
use Rattle.writing.specs.Text.{ascii}
use Rattle.numerals.specs.Digits.{digits_in, places, letters_of}
use Rattle.numerals.specs.Integers.{is_negative}
use Rattle.kinds.specs.Letters.{lookup}
use Rattle.kinds.specs.declared.letters.TimeFormat.{TimeFormat}
use Rattle.kinds.specs.declared.letters.TimeFormat.TheVariants as T
use Rattle.calendar.specs.Moments.{second_nanos, milli_nanos, moment_of}
use Rattle.calendar.specs.declared.Moment.{Moment}
use Rattle.dates.specs.Names.{month_names, weekday_names, name_of}

abbrev pub at_least : ℕ → ℕ → ℕ
at_least least n = choose (ltb n least) (λ _. least) (λ _. n)

-- A whole number in decimal, "with a leading zero as necessary" to so many places.
unfoldable pub number_text : ℕ → ℕ → List ℕ
number_text least n = letters_of false (digits_in 10 (at_least least (places 10 n)) n)

-- The hour of the 12-hour clock: 12 at midnight and at noon.
unfoldable pub clock12 : ℕ → ℕ
clock12 hour = choose (eqb (hour % 12) 0) (λ _. 12) (λ _. hour % 12)

-- "morning or afternoon marker"
unfoldable pub half : List ℕ → List ℕ → ℕ → List ℕ
half morning afternoon hour = choose (ltb hour 12) (λ _. morning) (λ _. afternoon)

-- "abbreviated": the first three letters, of every English month and weekday.
abbrev pub short : List ℕ → List ℕ
short name = take 3 name

-- The sign of a number of seconds or milliseconds.
unfoldable pub sign_text : ℤ → List ℕ
sign_text z = choose (is_negative z) (λ _. ascii "-") (λ _. [])

-- What the letters print of a timestamp z, whose moment is m, each kind in the order of Java's tables (of a negative z that is not a whole second, which
-- is refused, no printed text depends on it). Numbers, with their places:
abbrev pub numbers : ℤ → Moment → List (Char × (ℕ × ℕ))
numbers z m =
    ("H", (2, m.hour)) ∷ ("I", (2, clock12 m.hour)) ∷ ("k", (1, m.hour)) ∷ ("l", (1, clock12 m.hour)) ∷ ("M", (2, m.minute)) ∷
    ("S", (2, m.second)) ∷ ("L", (3, m.nanos / milli_nanos)) ∷ ("N", (9, m.nanos)) ∷ ("s", (1, nat_abs z / second_nanos)) ∷ ("Q", (1, nat_abs z / milli_nanos)) ∷
    ("C", (2, m.year / 100)) ∷ ("Y", (4, m.year)) ∷ ("y", (2, m.year % 100)) ∷ ("j", (3, m.ordinal)) ∷ ("m", (2, m.month)) ∷ ("d", (2, m.day)) ∷
    ("e", (1, m.day)) ∷ []

-- names and words; `P` is "%Tp", and `~` the sign of a number behind it;
abbrev pub names : ℤ → Moment → List (Char × List ℕ)
names z m =
    ("p", half (ascii "am") (ascii "pm") m.hour) ∷ ("P", half (ascii "AM") (ascii "PM") m.hour) ∷ ("z", ascii "+0000") ∷ ("Z", ascii "UTC") ∷
    ("~", sign_text z) ∷ ("B", name_of month_names m.month) ∷ ("b", short (name_of month_names m.month)) ∷
    ("A", name_of weekday_names m.weekday) ∷ ("a", short (name_of weekday_names m.weekday)) ∷ []

-- and marks: any other byte is itself.
unfoldable pub name_text : ℤ → Moment → ℕ → List ℕ
name_text z m b = lookup code (λ t. t) (b ∷ []) (names z m) b

unfoldable pub symbol_text : ℤ → Moment → ℕ → List ℕ
symbol_text z m b = lookup code (λ n. number_text n.0 n.1) (name_text z m b) (numbers z m) b

-- A component as the list of its letters. The last six are Java's "common date/time compositions".
abbrev pub pattern_of : TimeFormat → List ℕ
pattern_of T.HUpper = ascii "H"
pattern_of T.IUpper = ascii "I"
pattern_of T.KLower = ascii "k"
pattern_of T.LLower = ascii "l"
pattern_of T.MUpper = ascii "M"
pattern_of T.SUpper = ascii "S"
pattern_of T.LUpper = ascii "L"
pattern_of T.NUpper = ascii "N"
pattern_of T.PLower = ascii "p"
pattern_of T.ZLower = ascii "z"
pattern_of T.ZUpper = ascii "Z"
pattern_of T.SLower = ascii "~s"
pattern_of T.QUpper = ascii "~Q"
pattern_of T.BUpper = ascii "B"
pattern_of T.BLower = ascii "b"
pattern_of T.AUpper = ascii "A"
pattern_of T.ALower = ascii "a"
pattern_of T.CUpper = ascii "C"
pattern_of T.YUpper = ascii "Y"
pattern_of T.YLower = ascii "y"
pattern_of T.JLower = ascii "j"
pattern_of T.MLower = ascii "m"
pattern_of T.DLower = ascii "d"
pattern_of T.ELower = ascii "e"
pattern_of T.RUpper = ascii "H:M"
pattern_of T.TUpper = ascii "H:M:S"
pattern_of T.RLower = ascii "I:M:S P"
pattern_of T.DUpper = ascii "m/d/y"
pattern_of T.FUpper = ascii "Y-m-d"
pattern_of T.CLower = ascii "a b d H:M:S Z Y"

unfoldable pub symbols_text : ℤ → Moment → List ℕ → List ℕ
symbols_text z m [] = []
symbols_text z m (b ∷ bs) = symbol_text z m b ++ symbols_text z m bs

unfoldable pub component_text : TimeFormat → ℤ → List ℕ
component_text c z = symbols_text z (moment_of z) (pattern_of c)

-- 02, E1: "a negative timestamp .. that is not a whole second", which is not printed.
unfoldable pub is_early_fraction : ℤ → Bool
is_early_fraction z = is_negative z && ltb 0 (nat_abs z % second_nanos)
