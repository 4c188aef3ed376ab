-- The text of one piece of a format, for a row. 01, "A row printed, or only measured".
use Rattle.std.specs.Prelude.{ℕ, List, [], ◌∷◌, take, drop, Option}
use Rattle.specifiers.specs.declared.Element.{Element}
use Rattle.rows.specs.Row.{entry_at, named_text}
use Rattle.rows.specs.declared.entries.Entry.{Entry}
use Rattle.parsing.specs.declared.Piece.{Piece}
use Rattle.parsing.specs.declared.Piece.TheVariants.{Fixed, Byte, Element as AnElement}
use Rattle.elements.specs.Texts.{Shown, Text, element_text, text_of, stop_of}
use Rattle.refusals.specs.declared.Refusal.{Refusal}

-- An element for an entry of a row.
abbrev pub shown_entry : List ℕ → Element → Entry → Shown
shown_entry row e x = element_text e x (named_text row x)

-- Fixed text as it stands in the format, "`%%` .. holding one `%`", which is its second, "`%n` a piece holding byte 10", an element by the row's value under
-- the argument that it takes.
unfoldable pub shown_piece : List ℕ → List ℕ → Piece → Shown
shown_piece s row (Fixed begin len) = Text (take len (drop begin s))
shown_piece s row (Byte b) = Text (b ∷ [])
shown_piece s row (AnElement e) = shown_entry row e (entry_at row e.argument)

-- Its text, or what stops it.
abbrev pub piece_text : List ℕ → List ℕ → Piece → List ℕ
piece_text s row p = text_of (shown_piece s row p)

abbrev pub piece_stop : List ℕ → List ℕ → Piece → Option Refusal
piece_stop s row p = stop_of (shown_piece s row p)
