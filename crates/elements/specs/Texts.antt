-- The text of a row's value under an element. 01, "A row printed, or only measured", and 02, E1, of dates.
use Rattle.std.specs.Prelude.{ℕ, Bool, List, [], eqb, ℤ, nat_abs, Option, None, Some}
use Rattle.writing.specs.Choose.{choose}
use Rattle.writing.specs.Text.{ascii}
use Rattle.numerals.specs.Integers.{int_of, integer_of, is_negative}
use Rattle.frames.specs.declared.Mark.TheVariants.{NoMark}
use Rattle.binary64.specs.Fields.{negative, category_of}
use Rattle.binary64.specs.declared.FpCategory.{FpCategory}
use Rattle.binary64.specs.declared.FpCategory.TheVariants as C
use Rattle.kinds.specs.declared.letters.TimeFormat.{TimeFormat}
use Rattle.kinds.specs.declared.IntegerKind.{IntegerKind}
use Rattle.kinds.specs.declared.IntegerForm.{IntegerForm}
use Rattle.kinds.specs.declared.IntegerForm.TheVariants.{Numeral, Scalar, Digits}
use Rattle.kinds.specs.declared.Form.{Form}
use Rattle.kinds.specs.declared.Form.TheVariants as F
use Rattle.specifiers.specs.declared.Element.{Element}
use Rattle.numbers.specs.Numbers.{numeral_text, float_mark, finite_text}
use Rattle.utf8.specs.Scalars.{is_scalar, utf8_of}
use Rattle.fields.specs.Cut.{cut_to, cased}
use Rattle.dates.specs.Components.{component_text, is_early_fraction}
use Rattle.rows.specs.declared.entries.Entry.{Entry}
use Rattle.fields.specs.Texts.{padded_text, format_string, signed_text}
use Rattle.refusals.specs.declared.Refusal.{Refusal}
use Rattle.refusals.specs.declared.Refusal.TheVariants.{NotPrinted, NoScalar, NoWholeSecond}

-- A text, or what stops the call.
pub data Shown : Type 0 where
  Text : List ℕ → Shown
  Stops : Refusal → Shown

-- %c: 16 for "no Unicode scalar value"; "precision does nothing on %c of a value that is not null".
abbrev pub char_text : Element → ℤ → Shown
char_text e z =
    choose (is_negative z) (λ _. Stops NoScalar)
    (λ _. choose (is_scalar (nat_abs z)) (λ _. Text (padded_text e NoMark (utf8_of (nat_abs z)))) (λ _. Stops NoScalar))

-- An integer of the kind k with the pattern v. "%s: decimal digits through `format_string`."
abbrev pub integer_text : Element → IntegerForm → IntegerKind → ℕ → Shown
integer_text e (Numeral r) k v = Text (numeral_text e r k v)
integer_text e Scalar k v = char_text e (integer_of k.signed v)
integer_text e Digits k v = Text (format_string e (signed_text (integer_of k.signed v)))

-- %a: "NaN has no mark; infinity is `Infinity`", padded as texts are; a finite float is a number.
abbrev pub float_text : Element → FpCategory → ℕ → List ℕ
float_text e C.Nan v = padded_text e NoMark (ascii "NaN")
float_text e C.Infinite v = padded_text e (float_mark e.flags (negative v)) (ascii "Infinity")
float_text e C.Finite v = finite_text e v

-- t and T: 18 for "a negative timestamp there that is not a whole second" (02, E1); "T raises letters to capitals. Width, precision and flags do
-- nothing there."
abbrev pub time_text : Bool → TimeFormat → ℤ → Shown
time_text upper t z = choose (is_early_fraction z) (λ _. Stops NoWholeSecond) (λ _. Text (cased upper (component_text t z)))

abbrev pub boolean_word : ℕ → List ℕ
boolean_word v = choose (eqb v 0) (λ _. ascii "false") (λ _. ascii "true")

-- The entry x in a form; `part` is what the precision leaves of the text that a value of kind 7 names. "Null prints `null` through `format_string` for all of
-- these" integers; "Null Boolean prints `false`", its value being 0. 15 for a letter that is not printed for the kind.
abbrev pub value_text : Element → Form → Entry → List ℕ → Shown
value_text e (F.Integer f k) x part = choose x.null (λ _. Text (format_string e (ascii "null"))) (λ _. integer_text e f k x.value)
value_text e F.HexFloat x part = Text (float_text e (category_of x.value) x.value)
value_text e F.Boolean x part = Text (format_string e (boolean_word x.value))
value_text e F.Text x part = Text (padded_text e NoMark part)
value_text e (F.Time t) x part = time_text e.upper t (int_of 64 x.value)
value_text e F.NotPrinted x part = Stops NotPrinted

-- An element for the entry x, of which `named` is the text that it names, if it is of kind 7.
unfoldable pub element_text : Element → Entry → List ℕ → Shown
element_text e x named = value_text e e.form x (cut_to e.precision named)

-- The text of what is printed, and what stops the other.
abbrev pub text_of : Shown → List ℕ
text_of (Text t) = t
text_of (Stops refusal) = []

abbrev pub stop_of : Shown → Option Refusal
stop_of (Text t) = None
stop_of (Stops refusal) = Some refusal
