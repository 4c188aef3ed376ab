-- What the functions of this crate require and hand out. No contract of an entry speaks of these.
use Rattle.std.specs.Prelude.{ℕ, ◌+◌, ◌≤◌, ◌≡◌, true, List, length, take, drop, Some}
use Rattle.refusals.specs.Limits.{most_format}
use Rattle.parsing.specs.Covers.{PieceIn}
use Rattle.parsing.specs.declared.Piece.{Piece}
use Rattle.fields.specs.Cut.{cut_to}
use Rattle.kinds.specs.Kinds.{fit_in}
use Rattle.specifiers.specs.declared.Element.{Element}
use Rattle.rows.specs.Row.{kinds_of, entry_at, named_text, is_row}
use Rattle.rows.specs.Arguments.{Argument, Names}
use Rattle.elements.specs.declared.pieces.Source.{Source}
use Rattle.elements.specs.declared.pieces.Source.TheVariants.{Format, Row}

-- A piece found in a format that is not over-long, for a row that keeps its layout.
pub record Ready (s row : List ℕ) (p : Piece) : Type 0 where
  pub short : length s ≤ most_format
  pub kept : is_row row ≡ true
  pub inside : PieceIn s (kinds_of row) p

-- An element that takes an argument of the row, and has the form of its kind.
pub record Suited (row : List ℕ) (e : Element) : Type 0 where
  pub argument : Argument row e.argument
  pub form : fit_in e.conversion (entry_at row e.argument).kind ≡ Some e.form

-- 01: "The unpadded text of a piece is part of the format or part of the row for fixed text, `%%` and text values under %s, and is handed out from
-- there": of an entry of kind 7, what a precision leaves of the text that it names, before capitals.
unfoldable pub unpadded : List ℕ → List ℕ → Source → List ℕ
unpadded s row (Format begin len) = take len (drop begin s)
unpadded s row (Row x p) = cut_to p (named_text row x)

-- That a source lies in the format, or in the row.
abbrev pub SourceIn : List ℕ → List ℕ → Source → Type 0
SourceIn s row (Format begin len) = (begin + len ≤ length s) × (length s ≤ most_format)
SourceIn s row (Row x p) = Names row x
