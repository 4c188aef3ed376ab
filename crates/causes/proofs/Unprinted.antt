-- Which elements of a row are not printed, by their letters, and which is the first. Assumes nothing.
use Rattle.std.specs.Prelude.{Option, None, Some}
use mathlib.Core.Path.{◌≡◌, refl, sym, ap, subst, ◌∙◌}
use mathlib.Core.Bool.{Bool, true, false, ◌&&◌, ◌||◌}
use mathlib.Core.List.{List, [], ◌∷◌}
use Prim.Native.Nat.{ℕ, suc, ◌%◌}
use native.Mathlib.Decide.{dec_lt, ℕ_discrete}
use native.Mathlib.Omega.{arith}
use lib.Dec.{leb, ltb}
use lib.IntN.{ℤ, pos, negsuc}
use borrow.Author.Tests.{eq-eqb, ne_eqb, le-leb, lt-leb, lt-ltb, le-ltb}
use Rattle.writing.specs.Choose.{choose}
use Rattle.writing.specs.Text.{ascii, has}
use Rattle.writing.proofs.Choose.{both}
use Rattle.numerals.specs.Integers.{int_of, integer_of}
use Rattle.numerals.specs.declared.Radix.TheVariants.{Decimal, Octal, Hexadecimal}
use Rattle.kinds.specs.Kinds.{kind_of, fit_in}
use Rattle.kinds.specs.declared.letters.ConversionType.{ConversionType}
use Rattle.kinds.specs.declared.letters.ConversionType.TheVariants as C
use Rattle.kinds.specs.declared.letters.TimeFormat.{TimeFormat}
use Rattle.kinds.specs.declared.IntegerForm.TheVariants.{Numeral, Scalar, Digits}
use Rattle.kinds.specs.declared.Form.{Form}
use Rattle.kinds.specs.declared.Form.TheVariants as F
use Rattle.kinds.proofs.Tables.{OfForm, form_of}
use Rattle.specifiers.specs.declared.Element.{Element}
use Rattle.grammar.specs.Runs.{begins, all}
use Rattle.grammar.specs.Elements.{kinds, in_table}
use Rattle.grammar.specs.Pieces.{letters_of}
use Rattle.grammar.proofs.Letters.{never, all-has, same, same-is}
use Rattle.utf8.specs.Scalars.{is_scalar}
use Rattle.dates.specs.Components.{is_early_fraction}
use Rattle.rows.specs.Entry.{integer_kind_of, integer_in}
use Rattle.rows.specs.declared.entries.Entry.{Entry}
use Rattle.elements.specs.Texts.{char_text, time_text, value_text, stop_of}
use Rattle.causes.specs.Causes.{printed_for, prints_bytes, is_scalar_value, is_between_seconds}
use Rattle.refusals.specs.declared.Refusal.{Refusal}
use Rattle.refusals.specs.declared.Refusal.TheVariants as R

-- What is printed, and what is a character, by the form.
abbrev pub has_form : Form → Bool
has_form (F.Integer f w) = true
has_form F.HexFloat = true
has_form F.Boolean = true
has_form F.Text = true
has_form (F.Time x) = true
has_form F.NotPrinted = false

abbrev pub is_character : Form → Bool
is_character (F.Integer (Numeral r) w) = false
is_character (F.Integer Scalar w) = true
is_character (F.Integer Digits w) = false
is_character F.HexFloat = false
is_character F.Boolean = false
is_character F.Text = false
is_character (F.Time x) = false
is_character F.NotPrinted = false

abbrev pub is_date : Form → Bool
is_date (F.Integer f w) = false
is_date F.HexFloat = false
is_date F.Boolean = false
is_date F.Text = false
is_date (F.Time x) = true
is_date F.NotPrinted = false

-- What the table says of a letter and a kind byte is what the form of what fits says.
abbrev agrees_as : ℕ → ℕ → Option Form → Bool
agrees_as b k (Some f) =
    same (in_table printed_for b k) (has_form f)
    && (same (has (ascii "cC") b && in_table printed_for b k) (is_character f) && same (has (ascii "tT") b && in_table printed_for b k) (is_date f))
agrees_as b k None = true

abbrev agrees : ConversionType → ℕ → ℕ → Bool
agrees c b k = agrees_as b k (fit_in c (kind_of k))

all_agree : (c : ConversionType) → all (λ b. all (agrees c b) kinds) (letters_of c) ≡ true
unfolding all has kind_of
all_agree C.Boolean = refl
all_agree C.HexHash = refl
all_agree C.String = refl
all_agree C.Char = refl
all_agree (C.Integer Decimal) = refl
all_agree (C.Integer Octal) = refl
all_agree (C.Integer Hexadecimal) = refl
all_agree C.DecimalFloat = refl
all_agree C.HexFloat = refl
all_agree (C.Time t) = refl

-- An element's letter x, for a kind byte k that it prints in the form f: it is printed as the table says.
pub record Shows (x : List ℕ) (k : ℕ) (f : Form) : Type 0 where
  pub printed : prints_bytes x k ≡ has_form f
  pub character : (begins (has (ascii "cC")) x && prints_bytes x k) ≡ is_character f
  pub date : (begins (has (ascii "tT")) x && prints_bytes x k) ≡ is_date f

pub shows : (x : List ℕ) (c : ConversionType) (k : ℕ) (f : Form) → begins (has (letters_of c)) x ≡ true → has kinds k ≡ true
    → fit_in c (kind_of k) ≡ Some f → Shows x k f
shows [] c k f h i q = absurd (never h)
shows (b ∷ more) c k f h i q =
    let agreed = ap (agrees_as b k) (sym q) ∙ all-has (agrees c b) kinds k (all-has (λ b. all (agrees c b) kinds) (letters_of c) b (all_agree c) h) i in
    let a = both (same (in_table printed_for b k) (has_form f))
    (same (has (ascii "cC") b && in_table printed_for b k) (is_character f) && same (has (ascii "tT") b && in_table printed_for b k) (is_date f)) agreed in
    let d = both (same (has (ascii "cC") b && in_table printed_for b k) (is_character f))
    (same (has (ascii "tT") b && in_table printed_for b k) (is_date f)) a.1 in
    record { printed = same-is _ _ a.0; character = same-is _ _ d.0; date = same-is _ _ d.1 }

-- a character that is a scalar value
below_surrogates : (n : ℕ) → leb n 0xd7ff ≡ ltb n 0xd800
below_surrogates n = elim (dec_lt n 0xd800) [
  | yes h ↦ le-leb n 0xd7ff (omega arith) ∙ sym (lt-ltb n 0xd800 h)
  | no h ↦ lt-leb n 0xd7ff (omega arith) ∙ sym (le-ltb n 0xd800 (omega arith))
]

char_stop : (e : Element) (z : ℤ) → stop_of (char_text e z) ≡ choose (is_scalar_value z) (λ _. None) (λ _. Some R.NoScalar)
char_stop e (pos n) = go (is_scalar n) refl
  where
    go : (t : Bool) → is_scalar n ≡ t → stop_of (char_text e (pos n)) ≡ choose (is_scalar_value (pos n)) (λ _. None) (λ _. Some R.NoScalar)
    go true q = simp (q, ap (λ (b : Bool). b || (leb 0xe000 n && leb n 0x10ffff)) (below_surrogates n) ∙ q)
    go false q = simp (q, ap (λ (b : Bool). b || (leb 0xe000 n && leb n 0x10ffff)) (below_surrogates n) ∙ q)
char_stop e (negsuc n) = refl

-- a timestamp that is not a whole second
date_stop : (u : Bool) (x : TimeFormat) (z : ℤ) → stop_of (time_text u x z) ≡ choose (is_between_seconds z) (λ _. Some R.NoWholeSecond) (λ _. None)
unfolding is_early_fraction
date_stop u x (pos n) = refl
date_stop u x (negsuc n) =
    elim (ℕ_discrete (suc n % 1000000000) 0) [
      | yes p ↦ simp (eq-eqb _ _ p, le-ltb 0 (suc n % 1000000000) (omega arith))
      | no q ↦ simp (ne_eqb _ _ q, lt-ltb 0 (suc n % 1000000000) (omega arith))
    ]

-- The integer of a value in the form of a character is that of its kind.
abbrev integer_as : Form → ℕ → ℤ
integer_as (F.Integer f k) v = integer_of k.signed v
integer_as F.HexFloat v = pos 0
integer_as F.Boolean v = pos 0
integer_as F.Text v = pos 0
integer_as (F.Time x) v = pos 0
integer_as F.NotPrinted v = pos 0

same-integer : (c : ConversionType) (x : Entry) (f : Form) → fit_in c x.kind ≡ Some f → is_character f ≡ true → integer_as f x.value ≡ integer_in x
same-integer c x f q =
    subst (OfForm (λ f. is_character f ≡ true → integer_as f x.value ≡ integer_in x)) q
    (form_of (λ k f. is_character f ≡ true → integer_as f x.value ≡ integer_of (integer_kind_of k).signed x.value) (λ k h. absurd (never h))
    (λ f k h. refl) (λ h. absurd (never h)) (λ h. absurd (never h)) (λ h. absurd (never h)) (λ t h. absurd (never h)) c x.kind)

-- What stops an entry in a form.
module _ (e : Element) (x : Entry) (part : List ℕ) where
  abbrev pub stop : Form → Option Refusal
  stop f = stop_of (value_text e f x part)

  pub stops_15 : (f : Form) → has_form f ≡ false → stop f ≡ Some R.NotPrinted
  stops_15 (F.Integer f k) h = absurd (never (sym h))
  stops_15 F.HexFloat h = absurd (never (sym h))
  stops_15 F.Boolean h = absurd (never (sym h))
  stops_15 F.Text h = absurd (never (sym h))
  stops_15 (F.Time t) h = absurd (never (sym h))
  stops_15 F.NotPrinted h = refl

  as_16 : (f : Form) → is_character f ≡ true → x.null ≡ false → is_scalar_value (integer_as f x.value) ≡ false → stop f ≡ Some R.NoScalar
  as_16 (F.Integer (Numeral r) k) h m n = absurd (never h)
  as_16 (F.Integer Scalar k) h m n = simp m (char_stop e (integer_of k.signed x.value) ∙ simp n)
  as_16 (F.Integer Digits k) h m n = absurd (never h)
  as_16 F.HexFloat h m n = absurd (never h)
  as_16 F.Boolean h m n = absurd (never h)
  as_16 F.Text h m n = absurd (never h)
  as_16 (F.Time t) h m n = absurd (never h)
  as_16 F.NotPrinted h m n = absurd (never h)

  pub stops_16 : (c : ConversionType) (f : Form) → fit_in c x.kind ≡ Some f → is_character f ≡ true → x.null ≡ false
      → is_scalar_value (integer_in x) ≡ false → stop f ≡ Some R.NoScalar
  stops_16 c f q h m n = as_16 f h m (ap is_scalar_value (same-integer c x f q h) ∙ n)

  pub stops_18 : (f : Form) → is_date f ≡ true → is_between_seconds (int_of 64 x.value) ≡ true → stop f ≡ Some R.NoWholeSecond
  stops_18 (F.Integer f k) h n = absurd (never h)
  stops_18 F.HexFloat h n = absurd (never h)
  stops_18 F.Boolean h n = absurd (never h)
  stops_18 F.Text h n = absurd (never h)
  stops_18 (F.Time t) h n = date_stop e.upper t (int_of 64 x.value) ∙ simp n
  stops_18 F.NotPrinted h n = absurd (never h)

  -- an integer, by whether it is null
  integer_goes : (f : Form) (null : Bool) → x.null ≡ null → has_form f ≡ true
      → (is_character f ≡ true → null ≡ false → is_scalar_value (integer_as f x.value) ≡ true)
      → (is_date f ≡ true → is_between_seconds (int_of 64 x.value) ≡ false) → stop f ≡ None
  integer_goes (F.Integer f k) true m h s d = simp m
  integer_goes (F.Integer (Numeral r) k) false m h s d = simp m
  integer_goes (F.Integer Scalar k) false m h s d = simp m (char_stop e (integer_of k.signed x.value) ∙ simp (s refl refl))
  integer_goes (F.Integer Digits k) false m h s d = simp m
  integer_goes F.HexFloat null m h s d = refl
  integer_goes F.Boolean null m h s d = refl
  integer_goes F.Text null m h s d = refl
  integer_goes (F.Time t) null m h s d = date_stop e.upper t (int_of 64 x.value) ∙ simp (d refl)
  integer_goes F.NotPrinted null m h s d = absurd (never h)

  pub goes_on : (c : ConversionType) (f : Form) → fit_in c x.kind ≡ Some f → has_form f ≡ true
      → (is_character f ≡ true → x.null ≡ false → is_scalar_value (integer_in x) ≡ true)
      → (is_date f ≡ true → is_between_seconds (int_of 64 x.value) ≡ false) → stop f ≡ None
  goes_on c f q h s d = integer_goes f x.null refl h (λ i m. ap is_scalar_value (same-integer c x f q i) ∙ s i m) d
