-- The piece of every element that prints a value of a row, read back, denotes the value. Assumes nothing.
use Rattle.std.specs.Prelude.{None, Some, Option}
use Prim.Native.Nat.{ℕ, ◌%◌, ◌^◌, ◌<◌}
use Prim.Native.Char.{code}
use mathlib.Core.Path.{◌≡◌, sym, subst}
use mathlib.Core.Bool.{Bool, true, false}
use mathlib.Core.List.{List, []}
use native.Mathlib.Omega.{arith}
use Rattle.writing.specs.Choose.{choose}
use Rattle.writing.specs.Text.{ascii, has}
use Rattle.numerals.specs.Integers.{integer_of, bits_of}
use Rattle.numerals.specs.declared.Radix.{Radix}
use Rattle.numerals.specs.declared.Radix.TheVariants as R
use Rattle.binary64.specs.Fields.{category_of}
use Rattle.binary64.specs.declared.FpCategory.{FpCategory}
use Rattle.binary64.specs.declared.FpCategory.TheVariants.{Finite}
use Rattle.reading.specs.Reading.{Integer, Bits, read_piece}
use Rattle.kinds.specs.Kinds.{fit_in}
use Rattle.kinds.specs.declared.letters.ConversionType.{ConversionType}
use Rattle.kinds.specs.declared.letters.ConversionType.TheVariants as C
use Rattle.kinds.specs.declared.IntegerKind.{IntegerKind}
use Rattle.kinds.specs.declared.Kind.{Kind}
use Rattle.kinds.specs.declared.Kind.TheVariants as K
use Rattle.kinds.specs.declared.IntegerForm.{IntegerForm}
use Rattle.kinds.specs.declared.IntegerForm.TheVariants.{Numeral, Scalar, Digits}
use Rattle.kinds.specs.declared.Form.{Form}
use Rattle.kinds.specs.declared.Form.TheVariants as F
use Rattle.kinds.proofs.Tables.{OfForm, form_of}
use Rattle.specifiers.specs.declared.Element.{Element}
use Rattle.rows.specs.Entry.{is_entry, integer_kind_of, integer_in}
use Rattle.rows.specs.Widths.{HasWidth}
use Rattle.rows.proofs.Widths.{has_width}
use Rattle.rows.specs.Row.{entry_at, text_area}
use Rattle.rows.specs.declared.entries.Entry.{Entry}
use Rattle.rows.proofs.Rows.{AllBytes, value-below, entry}
use Rattle.fields.specs.Cut.{cut_to}
use Rattle.fields.specs.Texts.{format_string}
use Rattle.elements.specs.Texts.{Shown, Text, Stops, integer_text, value_text, element_text, text_of as shownText, stop_of}
use Rattle.elements.specs.Ready.{Suited}
use Rattle.columns.specs.Columns.{FloatRead, ReadsBack}
use Rattle.columns.proofs.Forms.{numeral_letter, float_letter, NumeralRead, FiniteRead, IntegerRead, ValueRead}
use Rattle.columns.proofs.Letters.{NamedBy, among, is-decimal, is_octal, is_hex, is-upper_hex, is-float, is-upper-float}
use Rattle.columns.proofs.Integers.{own_bits, numeral-read}
use Rattle.columns.proofs.Floats.{float_read}

-- That what is shown reads as R says; where the call is stopped, nothing is read.
abbrev pub ShownRead : (List ℕ → Type 0) → Shown → Type 0
ShownRead R (Text t) = R t
ShownRead R (Stops n) = Unit {0}

-- of a text that nothing is said of
not_read : (x : Shown) → ShownRead (λ _. Unit {0}) x
not_read (Text t) = tt
not_read (Stops n) = tt

-- That the low bits of the pattern v, as many as the kind k is wide, are those of its integer, where it is not null.
abbrev OwnBits : ℕ → Bool → IntegerKind → Type 0
OwnBits v true k = Unit {0}
OwnBits v false k = v % 2 ^ k.width ≡ bits_of k.width (integer_of k.signed v)

-- of a kind, where it is an integer's
abbrev Own : ℕ → Bool → Option Kind → Type 0
Own v null (Some (K.Integer k)) = OwnBits v null k
Own v null (Some K.Float64) = Unit {0}
Own v null (Some K.Boolean) = Unit {0}
Own v null (Some K.Text) = Unit {0}
Own v null (Some K.Timestamp) = Unit {0}
Own v null None = Unit {0}

-- of an entry of a row
own_entry : (v : ℕ) (b : v < 2 ^ 64) (text : List ℕ) (k : Option Kind) (null : Bool) → HasWidth k
    → is_entry text (record { kind = k; null = null; value = v }) ≡ true → Own v null k
unfolding is_entry
own_entry v b text (Some (K.Integer k)) false w h = own_bits k.width k.signed v w.0 w.1 b h
own_entry v b text (Some (K.Integer k)) true w h = tt
own_entry v b text (Some K.Float64) null w h = tt
own_entry v b text (Some K.Boolean) null w h = tt
own_entry v b text (Some K.Text) null w h = tt
own_entry v b text (Some K.Timestamp) null w h = tt
own_entry v b text None null w h = tt

-- by its form
module _ (e : Element) (x : Entry) (part : List ℕ) where
  integer-read : (f : IntegerForm) (k : IntegerKind) → OwnBits x.value false k → ShownRead (IntegerRead e f k x.value) (integer_text e f k x.value)
  integer-read (Numeral r) k h = numeral-read e r k x.value h
  integer-read Scalar k h = not_read (integer_text e Scalar k x.value)
  integer-read Digits k h = tt

  -- an integer that is not null, and any other form
  integer-value : (null : Bool) (f : IntegerForm) (k : IntegerKind) → OwnBits x.value null k
      → ShownRead (ValueRead e (F.Integer f k) null x.value)
      (choose null (λ _. Text (format_string e (ascii "null"))) (λ _. integer_text e f k x.value))
  integer-value false f k h = integer-read f k h
  integer-value true f k h = tt

  -- of every element
  element-read : fit_in e.conversion x.kind ≡ Some e.form → Own x.value x.null x.kind
      → ShownRead (ValueRead e e.form x.null x.value) (element_text e x part)
  unfolding element_text
  element-read q =
      subst (OfForm (λ f. Own x.value x.null x.kind → Read f)) q
      (form_of (λ k f. Own x.value x.null k → Read f) (λ k _. tt) (λ f k h. integer-value x.null f k h)
      (λ _. float_read e (category_of x.value) x.value) (λ _. tt) (λ _. tt) (λ t _. not_read (value_text e (F.Time t) x cut)) e.conversion x.kind)
    where
      cut : List ℕ
      cut = cut_to e.precision part

      Read : Form → Type 0
      Read f = ShownRead (ValueRead e f x.null x.value) (value_text e f x cut)

unstopped : (R : List ℕ → Type 0) (x : Shown) → ShownRead R x → stop_of x ≡ None → R (shownText x)
unstopped R (Text t) h e = h
unstopped R (Stops n) h e = absurd (let z : ◌≡◌ {A = ℕ} 0 1 = cc in omega arith)

-- What was read by its form was read by its letter.
module _ (e : Element) (x : Entry) (suits : fit_in e.conversion x.kind ≡ Some e.form) (t : List ℕ)
    (read : ValueRead e e.form x.null x.value t) where
  with_letter : (c : ConversionType) → e.conversion ≡ c → fit_in c x.kind ≡ Some e.form
  with_letter c q = subst (λ (d : ConversionType). fit_in d x.kind ≡ Some e.form) q suits

  unfit : {f : Form} → ◌≡◌ {A = Option Form} None (Some f) → ⊥
  unfit q = let z : ◌≡◌ {A = ℕ} 0 1 = cc in omega arith

  -- a numeral of an integer kind; no other kind fits
  numeral : (r : Radix) → e.conversion ≡ C.Integer r → x.null ≡ false
      → NumeralRead r (integer_kind_of x.kind).width (integer_in x) (read_piece (numeral_letter r e.upper) t)
  numeral r c n = each x.kind (with_letter (C.Integer r) c) (subst (λ (b : Bool). ValueRead e e.form b x.value t) n read)
    where
      each : (k : Option Kind) → fit_in (C.Integer r) k ≡ Some e.form → ValueRead e e.form false x.value t
          → NumeralRead r (integer_kind_of k).width (integer_of (integer_kind_of k).signed x.value) (read_piece (numeral_letter r e.upper) t)
      each (Some (K.Integer k)) q h =
          let f : e.form ≡ F.Integer (Numeral r) k = cc in
          subst (λ (f : Form). ValueRead e f false x.value t) f h
      each (Some K.Float64) q h = absurd (unfit q)
      each (Some K.Boolean) q h = absurd (unfit q)
      each (Some K.Text) q h = absurd (unfit q)
      each (Some K.Timestamp) q h = absurd (unfit q)
      each None q h = absurd (unfit q)

  finite : e.conversion ≡ C.HexFloat → category_of x.value ≡ Finite → FloatRead x.value e.precision (read_piece (float_letter e.upper) t)
  finite c q = each x.kind (with_letter C.HexFloat c) read
    where
      each : (k : Option Kind) → fit_in C.HexFloat k ≡ Some e.form → ValueRead e e.form x.null x.value t
          → FloatRead x.value e.precision (read_piece (float_letter e.upper) t)
      each (Some (K.Integer k)) p h = let f : e.form ≡ F.NotPrinted = cc in absurd (subst (λ (f : Form). ValueRead e f x.null x.value t) f h)
      each (Some K.Float64) p h =
          let f : e.form ≡ F.HexFloat = cc in
          subst (λ (y : FpCategory). FiniteRead y x.value e.precision (read_piece (float_letter e.upper) t)) q
          (subst (λ (f : Form). ValueRead e f x.null x.value t) f h)
      each (Some K.Boolean) p h = absurd (unfit p)
      each (Some K.Text) p h = absurd (unfit p)
      each (Some K.Timestamp) p h = absurd (unfit p)
      each None p h = absurd (unfit p)

  by_letter : (letter : ℕ) → NamedBy letter e.conversion e.upper → ReadsBack letter x e.precision t
  unfolding has
  by_letter letter named = record {
    integer = λ q null. subst (λ (l : ℕ). read_piece l t ≡ Integer (integer_in x)) (sym q) (decimal (subst Names q named) null);
    bits = bits;
    float = float;
  }
    where
      never : false ≡ true → ⊥
      never z = let q : ◌≡◌ {A = ℕ} 0 1 = cc in omega arith

      Names : ℕ → Type 0
      Names l = NamedBy l e.conversion e.upper

      decimal : Names (code "d") → x.null ≡ false → read_piece (code "d") t ≡ Integer (integer_in x)
      decimal n null = numeral R.Decimal (is-decimal n).0 null

      Bitwise : ℕ → Type 0
      Bitwise l = Names l → x.null ≡ false → read_piece l t ≡ Bits (bits_of (integer_kind_of x.kind).width (integer_in x))

      hex : (u : Bool) → e.upper ≡ u → e.conversion ≡ C.Integer R.Hexadecimal → x.null ≡ false
          → read_piece (numeral_letter R.Hexadecimal u) t ≡ Bits (bits_of (integer_kind_of x.kind).width (integer_in x))
      hex u q c null = rw q at numeral R.Hexadecimal c null

      bits : has (ascii "xXo") letter ≡ true → x.null ≡ false → read_piece letter t ≡ Bits (bits_of (integer_kind_of x.kind).width (integer_in x))
      bits h =
          among Bitwise (code "x") (ascii "Xo") letter
          (λ q. subst Bitwise q (λ n. hex false (is_hex n).1 (is_hex n).0))
          (among Bitwise (code "X") (ascii "o") letter
          (λ q. subst Bitwise q (λ n. hex true (is-upper_hex n).1 (is-upper_hex n).0))
          (among Bitwise (code "o") [] letter (λ q. subst Bitwise q (λ n. numeral R.Octal (is_octal n).0)) (λ z. absurd (never z)))) h named

      Floating : ℕ → Type 0
      Floating l = Names l → category_of x.value ≡ Finite → FloatRead x.value e.precision (read_piece l t)

      floats : (u : Bool) → e.upper ≡ u → e.conversion ≡ C.HexFloat → category_of x.value ≡ Finite
          → FloatRead x.value e.precision (read_piece (float_letter u) t)
      floats u q c f = rw q at finite c f

      float : has (ascii "aA") letter ≡ true → category_of x.value ≡ Finite → FloatRead x.value e.precision (read_piece letter t)
      float h =
          among Floating (code "a") (ascii "A") letter
          (λ q. subst Floating q (λ n. floats false (is-float n).1 (is-float n).0))
          (among Floating (code "A") [] letter (λ q. subst Floating q (λ n. floats true (is-upper-float n).1 (is-upper-float n).0)) (λ z. absurd (never z)))
          h named

-- Of every element that takes an argument of a row that keeps its layout, where nothing stops it: it reads back by its letter.
pub reads-back : (row : List ℕ) → AllBytes row → (e : Element) → Suited row e → (part : List ℕ)
    → stop_of (element_text e (entry_at row e.argument) part) ≡ None → (letter : ℕ) → NamedBy letter e.conversion e.upper
    → ReadsBack letter (entry_at row e.argument) e.precision (shownText (element_text e (entry_at row e.argument) part))
unfolding entry_at
reads-back row bytes e suits part stop =
    let x = entry_at row e.argument in
    let a = suits.argument in
    let own = own_entry x.value (value-below row e.argument bytes) (text_area row) x.kind x.null (has_width _)
    (entry row a.kept e.argument a.first a.last) in
    by_letter e x suits.form _
    (unstopped (ValueRead e e.form x.null x.value) (element_text e x part) (element-read e x part suits.form own) stop)
