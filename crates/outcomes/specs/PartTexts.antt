-- What is printed, part by part of a format over its bytes. For laws alone.
use Rattle.std.specs.Prelude.{ℕ, ◌-◌, ◌≡◌, false, List, [], ◌∷◌, ◌++◌, get_or}
use Rattle.writing.specs.Text.{ascii, has}
use Rattle.specifiers.specs.declared.Element.{Element}
use Rattle.grammar.specs.Runs.{begins}
use Rattle.grammar.specs.Parts.{Written, Part, text, percent, newline, element}
use Rattle.grammar.specs.Pieces.{precision_read, ElementIs}
use Rattle.rows.specs.Row.{kinds_of, entry_at}
use Rattle.elements.specs.Texts.{text_of}
use Rattle.elements.specs.PieceTexts.{shown_entry}
use Rattle.columns.specs.Columns.{ReadsBack}

-- An element as it is written prints the row's value under the argument that it takes.
pub record ElementText (row : List ℕ) (w : Written) (t : List ℕ) : Type 0 where
  pub holds : Element
  pub is : ElementIs (kinds_of row) holds w
  pub shown : t ≡ text_of (shown_entry row holds (entry_at row w.argument))

-- Text is printed as it stands; "`%%` is a piece holding one `%`, `%n` a piece holding byte 10".
abbrev pub PartText : List ℕ → Part → List ℕ → Type 0
PartText row (text x) t = t ≡ x
PartText row percent t = t ≡ ascii "%"
PartText row newline t = t ≡ 10 ∷ []
PartText row (element w) t = ElementText row w t

-- The texts of parts in their order; the last of the parts stands first.
pub data PartTexts (row : List ℕ) : List Part → List (List ℕ) → Type 0 where
  nothing : PartTexts row [] []
  one : {before : List Part} {p : Part} {ts : List (List ℕ)} (t : List ℕ) → PartTexts row before ts → PartText row p t
      → PartTexts row (p ∷ before) (ts ++ (t ∷ []))

-- Demand 3 of a part which ends at the place `to` of the format s: its bytes, read by the byte of s before `to`, denote the row's value under its argument.
abbrev pub PartDenotes : List ℕ → List ℕ → ℕ → Part → List ℕ → Type 0
PartDenotes s row to (text x) bytes = Unit {0}
PartDenotes s row to percent bytes = Unit {0}
PartDenotes s row to newline bytes = Unit {0}
PartDenotes s row to (element w) bytes =
    begins (has (ascii "tT")) w.letter ≡ false
    → ReadsBack (get_or s (to - 1) 0) (entry_at row w.argument) (precision_read w.precision) bytes
