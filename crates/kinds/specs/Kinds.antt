-- The kinds of value, and one table over conversions and kinds: which letters fit them, and how these print them.
use Rattle.std.specs.Prelude.{ℕ, ◌%◌, Bool, true, List, [], ◌∷◌, leb, None, Option, Some}
use Rattle.std.specs.Option.{is_some}
use Rattle.std.specs.List.{list_all}
use Rattle.kinds.specs.Letters.{lookup}
use Rattle.kinds.specs.declared.letters.ConversionType.{ConversionType}
use Rattle.kinds.specs.declared.letters.ConversionType.TheVariants as C
use Rattle.kinds.specs.declared.IntegerKind.{IntegerKind}
use Rattle.kinds.specs.declared.Kind.{Kind}
use Rattle.kinds.specs.declared.Kind.TheVariants as K
use Rattle.kinds.specs.declared.IntegerForm.{IntegerForm}
use Rattle.kinds.specs.declared.IntegerForm.TheVariants.{Numeral, Scalar, Digits}
use Rattle.kinds.specs.declared.Form.{Form}
use Rattle.kinds.specs.declared.Form.TheVariants.{Integer, HexFloat, Boolean, Text, Time, NotPrinted}

-- 01: "Kinds: 1 to 4 signed integers of 8, 16, 32 and 64 bits ..; 5 Float64 ..; 6 Boolean ..; 7 text". 02, E1: "Add kind 8, .. a UTC timestamp".
abbrev pub signed_kind : ℕ → Kind
signed_kind w = K.Integer (record { width = w; signed = true })

abbrev pub kinds : List (ℕ × Kind)
kinds =
    (1, signed_kind 8) ∷ (2, signed_kind 16) ∷ (3, signed_kind 32) ∷ (4, signed_kind 64) ∷
    (5, K.Float64) ∷ (6, K.Boolean) ∷ (7, K.Text) ∷ (8, K.Timestamp) ∷ []

unfoldable pub kind_of : ℕ → Option Kind
kind_of b = lookup (λ k. k) Some None kinds b

-- "128 added .. means null": whether a row's kind byte has the mark, the byte without it, and its kind.
abbrev pub null_mark : ℕ
null_mark = 128

abbrev pub is_null : ℕ → Bool
is_null b = leb null_mark b

abbrev pub unmarked : ℕ → ℕ
unmarked b = b % null_mark

abbrev pub kind_in : ℕ → Option Kind
kind_in b = kind_of (unmarked b)

-- What is said of a kind: of the integers, then of 5, 6, 7 and 8.
abbrev pub by_kind : {A : Type 0} → (IntegerKind → A) → A → A → A → A → Kind → A
by_kind integer float boolean text timestamp (K.Integer k) = integer k
by_kind integer float boolean text timestamp K.Float64 = float
by_kind integer float boolean text timestamp K.Boolean = boolean
by_kind integer float boolean text timestamp K.Text = text
by_kind integer float boolean text timestamp K.Timestamp = timestamp

abbrev pub is_known : Option Kind → Bool
is_known k = is_some k

-- 01: "over 64 kinds, or a kind not 1 to 7"; with 02, E1, not 1 to 8.
unfoldable pub all_known : List ℕ → Bool
all_known ks = list_all (λ b. is_known (kind_of b)) ks

-- What fits, and how it is printed. 01, of what fits: "b needs 6; c, d, o, x need 1 to 4; e, f, g, a need 1 to 5; .. s and h take all"; 02, E1: "Kind 8 fits
-- t, T, s and h". Of what is printed: integers by %d, %x, %o, %c and %s; %a is "the only" letter "printed for kind 5"; "%b of Boolean and %s of text are the
-- only letters printed for kinds 6 and 7"; of kind 8 "only t and T print".
abbrev pub integers_alone : IntegerForm → Kind → Option Form
integers_alone f k = by_kind (λ i. Some (Integer f i)) None None None None k

abbrev pub numbers_alone : Form → Kind → Option Form
numbers_alone f k = by_kind (λ _. Some NotPrinted) (Some f) None None None k

abbrev pub fit_of : ConversionType → Kind → Option Form
fit_of (C.Integer r) k = integers_alone (Numeral r) k
fit_of C.Char k = integers_alone Scalar k
fit_of C.String k = by_kind (λ i. Some (Integer Digits i)) (Some NotPrinted) (Some NotPrinted) (Some Text) (Some NotPrinted) k
fit_of C.HexFloat k = numbers_alone HexFloat k
fit_of C.DecimalFloat k = numbers_alone NotPrinted k
fit_of C.Boolean k = by_kind (λ _. None) None (Some Boolean) None None k
fit_of (C.Time t) k = by_kind (λ _. None) None None None (Some (Time t)) k
fit_of C.HexHash k = Some NotPrinted

-- A byte that names no kind fits nothing.
abbrev pub fit_in : ConversionType → Option Kind → Option Form
fit_in c (Some k) = fit_of c k
fit_in c None = None
