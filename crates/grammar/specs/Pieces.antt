-- What reading finds, in the bytes of a format: what a cursor's numbers mean, and what each piece is. For laws alone.
use Rattle.std.specs.Prelude.{ℕ, ◌+◌, ◌≤◌, ◌≡◌, Bool, true, List, [], ◌∷◌, ◌++◌, length, drop, None, Option, Some}
use Prim.Native.Char.{code}
use Rattle.writing.specs.Text.{ascii, has}
use Rattle.numerals.specs.declared.Radix.TheVariants.{Decimal, Octal, Hexadecimal}
use Rattle.kinds.specs.declared.letters.TimeFormat.{TimeFormat}
use Rattle.kinds.specs.declared.letters.TimeFormat.TheVariants as T
use Rattle.kinds.specs.declared.letters.ConversionType.{ConversionType}
use Rattle.kinds.specs.declared.letters.ConversionType.TheVariants as C
use Rattle.specifiers.specs.declared.Element.{Element}
use Rattle.parsing.specs.Listed.{Placed}
use Rattle.parsing.specs.declared.Cursor.{Cursor}
use Rattle.parsing.specs.declared.Piece.{Piece}
use Rattle.parsing.specs.declared.Piece.TheVariants.{Fixed, Byte, Element as AnElement}
use Rattle.kinds.specs.Kinds.{kind_of, fit_in}
use Rattle.grammar.specs.Runs.{begins, number_in}
use Rattle.grammar.specs.Elements.{IsLetter, kind_at}
use Rattle.grammar.specs.Parts.{Written, Part, text, percent, newline, element, bytes_before, counted_in, last_named}

-- The argument that `%<` takes, as a cursor has it: 0 for none.
abbrev pub IsLast : Option ℕ → ℕ → Type 0
IsLast None n = n ≡ 0
IsLast (Some a) n = (n ≡ a) × (1 ≤ a)

-- A cursor behind the parts `before`: how many bytes and how many counted elements these are, and that argument.
pub record At (before : List Part) (c : Cursor) : Type 0 where
  pub place : c.at ≡ length (bytes_before before)
  pub count : c.count ≡ counted_in before
  pub last : IsLast (last_named before) c.last

-- A width, and a precision, by their digits; without digits there is none.
abbrev pub param_read : List ℕ → Option ℕ
param_read [] = None
param_read (d ∷ ds) = Some (number_in (d ∷ ds))

abbrev pub precision_read : Option (List ℕ) → Option ℕ
precision_read None = None
precision_read (Some ds) = param_read ds

-- The letters of each conversion, and the capitals among them.
abbrev pub letters_of : ConversionType → List ℕ
letters_of C.Boolean = ascii "bB"
letters_of C.HexHash = ascii "hH"
letters_of C.String = ascii "sS"
letters_of C.Char = ascii "cC"
letters_of (C.Integer Decimal) = ascii "d"
letters_of (C.Integer Octal) = ascii "o"
letters_of (C.Integer Hexadecimal) = ascii "xX"
letters_of C.DecimalFloat = ascii "eEfgG"
letters_of C.HexFloat = ascii "aA"
letters_of (C.Time t) = ascii "tT"

-- The letter behind t or T of each component, "with `h` read as `b`". Behind other letters an element has none, by its length.
abbrev pub component_letters : TimeFormat → List ℕ
component_letters T.HUpper = ascii "H"
component_letters T.IUpper = ascii "I"
component_letters T.KLower = ascii "k"
component_letters T.LLower = ascii "l"
component_letters T.MUpper = ascii "M"
component_letters T.SUpper = ascii "S"
component_letters T.LUpper = ascii "L"
component_letters T.NUpper = ascii "N"
component_letters T.PLower = ascii "p"
component_letters T.ZLower = ascii "z"
component_letters T.ZUpper = ascii "Z"
component_letters T.SLower = ascii "s"
component_letters T.QUpper = ascii "Q"
component_letters T.BUpper = ascii "B"
component_letters T.BLower = ascii "bh"
component_letters T.AUpper = ascii "A"
component_letters T.ALower = ascii "a"
component_letters T.CUpper = ascii "C"
component_letters T.YUpper = ascii "Y"
component_letters T.YLower = ascii "y"
component_letters T.JLower = ascii "j"
component_letters T.MLower = ascii "m"
component_letters T.DLower = ascii "d"
component_letters T.ELower = ascii "e"
component_letters T.RUpper = ascii "R"
component_letters T.TUpper = ascii "T"
component_letters T.RLower = ascii "r"
component_letters T.DUpper = ascii "D"
component_letters T.FUpper = ascii "F"
component_letters T.CLower = ascii "c"

abbrev pub names_component : ConversionType → List ℕ → Bool
names_component C.Boolean behind = true
names_component C.HexHash behind = true
names_component C.String behind = true
names_component C.Char behind = true
names_component (C.Integer r) behind = true
names_component C.DecimalFloat behind = true
names_component C.HexFloat behind = true
names_component (C.Time t) behind = begins (has (component_letters t)) behind

abbrev pub capitals : List ℕ
capitals = ascii "BHSCXEGAT"

-- An element holds what is written: which flags occur, its numbers, the conversion of its letter, of t and T the component, whether it is a capital, and the
-- form in which the letter prints the kind of its argument.
pub record ElementIs (ks : List ℕ) (e : Element) (w : Written) : Type 0 where
  pub argument : e.argument ≡ w.argument
  pub flags : e.flags
      ≡ record {
        alternate = has w.flags (code "#");
        zero = has w.flags (code "0");
        left = has w.flags (code "-");
        space = has w.flags (code " ");
        plus = has w.flags (code "+");
        grouping = has w.flags (code ",");
        parentheses = has w.flags (code "(");
      }
  pub width : e.width ≡ param_read w.width
  pub precision : e.precision ≡ precision_read w.precision
  pub conversion : begins (has (letters_of e.conversion)) w.letter ≡ true
  pub component : names_component e.conversion (drop 1 w.letter) ≡ true
  pub upper : e.upper ≡ begins (has capitals) w.letter
  pub letter : IsLetter w.letter
  pub form : fit_in e.conversion (kind_of (kind_at ks w.argument)) ≡ Some e.form

-- A piece that begins at the place `at`: text, the second `%` of `%%`, byte 10 for `%n`, or an element.
pub data PieceIs (ks : List ℕ) (at : ℕ) : Piece → Part → Type 0 where
  is_text_part : {begin len : ℕ} {t : List ℕ} → begin ≡ at → len ≡ length t → PieceIs ks at (Fixed begin len) (text t)
  is_percent : {begin len : ℕ} → begin ≡ at + 1 → len ≡ 1 → PieceIs ks at (Fixed begin len) percent
  is_newline : {b : ℕ} → b ≡ 10 → PieceIs ks at (Byte b) newline
  is_element : {e : Element} {w : Written} → ElementIs ks e w → PieceIs ks at (AnElement e) (element w)

-- The pieces listed are the parts, each from its first byte to its last; the last of the parts stands first.
pub data Lists (ks : List ℕ) : List Placed → List Part → Type 0 where
  nothing : Lists ks [] []
  one : {ps : List Placed} {before : List Part} {x : Placed} {p : Part} → Lists ks ps before → PieceIs ks (length (bytes_before before)) x.piece p
      → x.from ≡ length (bytes_before before) → x.to ≡ length (bytes_before (p ∷ before)) → Lists ks (ps ++ (x ∷ [])) (p ∷ before)
