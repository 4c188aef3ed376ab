-- A law of the table: what holds of every form holds of the form in which a kind is printed. Assumes nothing.
use Rattle.std.specs.Prelude.{None, Option, Some}
use Rattle.kinds.specs.declared.letters.TimeFormat.{TimeFormat}
use Rattle.kinds.specs.declared.letters.ConversionType.{ConversionType}
use Rattle.kinds.specs.declared.letters.ConversionType.TheVariants as C
use Rattle.kinds.specs.Kinds.{integers_alone, numbers_alone, fit_of, fit_in}
use Rattle.kinds.specs.declared.IntegerKind.{IntegerKind}
use Rattle.kinds.specs.declared.Kind.{Kind}
use Rattle.kinds.specs.declared.Kind.TheVariants as K
use Rattle.kinds.specs.declared.IntegerForm.{IntegerForm}
use Rattle.kinds.specs.declared.IntegerForm.TheVariants.{Numeral, Scalar, Digits}
use Rattle.kinds.specs.declared.Form.{Form}
use Rattle.kinds.specs.declared.Form.TheVariants as F

-- What is claimed of the form of what fits.
abbrev pub OfForm : (Form → Type 0) → Option Form → Type 0
OfForm P (Some f) = P f
OfForm P None = Unit {0}

-- A claim of forms holds of the form of a kind where it holds of an integer of that kind, of a float, a Boolean, a text and a component of a date, each for its
-- kind, and of what is not printed.
module _ (P : Option Kind → Form → Type 0) (n : (k : Kind) → P (Some k) F.NotPrinted)
    (i : (f : IntegerForm) (k : IntegerKind) → P (Some (K.Integer k)) (F.Integer f k))
    (h : P (Some K.Float64) F.HexFloat) (b : P (Some K.Boolean) F.Boolean) (t : P (Some K.Text) F.Text)
    (d : (x : TimeFormat) → P (Some K.Timestamp) (F.Time x)) where
  integer : (f : IntegerForm) (k : Kind) → OfForm (P (Some k)) (integers_alone f k)
  integer f (K.Integer k) = i f k
  integer f K.Float64 = tt
  integer f K.Boolean = tt
  integer f K.Text = tt
  integer f K.Timestamp = tt

  number : (f : Form) → ((k : Kind) → P (Some k) F.NotPrinted) → P (Some K.Float64) f → (k : Kind) → OfForm (P (Some k)) (numbers_alone f k)
  number f n h (K.Integer k) = n (K.Integer k)
  number f n h K.Float64 = h
  number f n h K.Boolean = tt
  number f n h K.Text = tt
  number f n h K.Timestamp = tt

  string : (k : Kind) → OfForm (P (Some k)) (fit_of C.String k)
  string (K.Integer k) = i Digits k
  string K.Float64 = n K.Float64
  string K.Boolean = n K.Boolean
  string K.Text = t
  string K.Timestamp = n K.Timestamp

  boolean : (k : Kind) → OfForm (P (Some k)) (fit_of C.Boolean k)
  boolean (K.Integer k) = tt
  boolean K.Float64 = tt
  boolean K.Boolean = b
  boolean K.Text = tt
  boolean K.Timestamp = tt

  time : (x : TimeFormat) (k : Kind) → OfForm (P (Some k)) (fit_of (C.Time x) k)
  time x (K.Integer k) = tt
  time x K.Float64 = tt
  time x K.Boolean = tt
  time x K.Text = tt
  time x K.Timestamp = d x

  pub form_of : (c : ConversionType) (k : Option Kind) → OfForm (P k) (fit_in c k)
  form_of c None = tt
  form_of (C.Integer r) (Some k) = integer (Numeral r) k
  form_of C.Char (Some k) = integer Scalar k
  form_of C.String (Some k) = string k
  form_of C.HexFloat (Some k) = number F.HexFloat n h k
  form_of C.DecimalFloat (Some k) = number F.NotPrinted n (n K.Float64) k
  form_of C.Boolean (Some k) = boolean k
  form_of (C.Time x) (Some k) = time x k
  form_of C.HexHash (Some k) = n k
