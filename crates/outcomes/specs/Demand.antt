-- Demand 3, whole: one claim over a format and a row, of the bytes and ends that printing leaves. 01, "What demand 3 compares".
use Rattle.std.specs.Prelude.{ℕ, zero, suc, ◌-◌, ◌<◌, ◌≡◌, Bool, true, false, List, length, get_or, take, drop, Err, Ok}
use Rattle.kinds.specs.declared.letters.ConversionType.{ConversionType}
use Rattle.kinds.specs.declared.letters.ConversionType.TheVariants as C
use Rattle.parsing.specs.Covers.{Covers}
use Rattle.parsing.specs.Listed.{Placed, placed}
use Rattle.parsing.specs.declared.Piece.{Piece}
use Rattle.parsing.specs.declared.Piece.TheVariants.{Fixed, Byte, Element as AnElement}
use Rattle.rows.specs.Row.{kinds_of, entry_at}
use Rattle.elements.specs.PieceTexts.{piece_text}
use Rattle.columns.specs.Columns.{ReadsBack}
use Rattle.outcomes.specs.Printed.{texts, joined, Outcome}

-- "the end before (0 for the first)"
abbrev pub end_before : List ℕ → ℕ → ℕ
end_before ends zero = 0
end_before ends (suc k) = get_or ends k 0

-- "the output's bytes from the end before .. to the k-th"; pieces count from 0 here
abbrev pub cut_out : List ℕ → List ℕ → ℕ → List ℕ
cut_out out ends k = take (get_or ends k 0 - end_before ends k) (drop (end_before ends k) out)

-- The k-th piece of a format. (Behind the last, which is never asked for, stands an empty text.)
abbrev pub piece_of : List ℕ → List ℕ → ℕ → Placed
piece_of s row k = get_or (placed s (kinds_of row)) k (record { piece = Fixed 0 0; from = 0; to = 0 })

-- What demand 3 says of one piece, which ends at the place `to` of the format: read by the reading rule, it denotes the value of the row under the argument
-- that the element takes. "The rule is fed the piece's bytes and the element's letter": the byte before the element's end, but for t and T, which are not
-- read.
abbrev pub is_time : ConversionType → Bool
is_time C.Boolean = false
is_time C.HexHash = false
is_time C.String = false
is_time C.Char = false
is_time (C.Integer r) = false
is_time C.DecimalFloat = false
is_time C.HexFloat = false
is_time (C.Time t) = true

abbrev pub DenotesValue : List ℕ → List ℕ → ℕ → Piece → List ℕ → Type 0
DenotesValue s row to (Fixed begin len) bytes = Unit {0}
DenotesValue s row to (Byte b) bytes = Unit {0}
DenotesValue s row to (AnElement e) bytes =
    is_time e.conversion ≡ false → ReadsBack (get_or s (to - 1) 0) (entry_at row e.argument) e.precision bytes

-- Of a format s and a row, the length n and count k returned, and the output and ends left.
pub record Demand3 (s row : List ℕ) (n k : ℕ) (out ends : List ℕ) : Type 0 where
  -- the pieces cover the format from its first byte to its last, and are as many as are counted
  pub cover : Covers 0 (length s) (placed s (kinds_of row))
  pub count : k ≡ length (placed s (kinds_of row))
  -- "The k-th end is the length of the first k texts together"
  pub sums : (i : ℕ) → i < k → get_or ends i 0 ≡ length (joined (take (suc i) (texts s row)))
  -- "the length returned is the last end, 0 without pieces"
  pub total : n ≡ end_before ends k
  -- the pieces joined are the text
  pub whole : take n out ≡ joined (texts s row)
  -- "the output's bytes from the end before (0 for the first) to the k-th are piece k and equal its text"
  pub cuts : (i : ℕ) → i < k → cut_out out ends i ≡ piece_text s row (piece_of s row i).piece
  -- every column, wherever it stands, read from its bytes and its letter alone
  pub columns : (i : ℕ) → i < k → DenotesValue s row (piece_of s row i).to (piece_of s row i).piece (cut_out out ends i)

-- "A format and row print where nothing stops the call."
abbrev pub Demanded : List ℕ → List ℕ → Outcome → List ℕ → List ℕ → Type 0
Demanded s row (Ok m) out ends = Demand3 s row m.length m.pieces out ends
Demanded s row (Err stopped) out ends = Unit {0}
