-- A row printed, or only measured, under a format. 01, "A row printed, or only measured" and "What stops a call".
use Rattle.std.specs.Prelude.{ℕ, ◌+◌, ◌&&◌, List, [], ◌∷◌, ◌++◌, map, leb, ltb, length, Option, None, Some, Err, Ok, Result}
use Rattle.refusals.specs.Limits.{most_format, largest_end}
use Rattle.writing.specs.Choose.{choose}
use Rattle.writing.specs.Laid.{laid}
use Rattle.utf8.specs.Utf8.{well_formed}
use Rattle.parsing.specs.Listed.{Placed, placed, ended, Ended}
use Rattle.rows.specs.Row.{kinds_of, is_row}
use Rattle.elements.specs.PieceTexts.{piece_text, piece_stop}
use Rattle.refusals.specs.Numbers.{stop}
use Rattle.refusals.specs.declared.Stop.{Stop}
use Rattle.outcomes.specs.declared.Measured.{Measured}
use Rattle.refusals.specs.declared.Refusal.{Refusal}
use Rattle.refusals.specs.declared.Refusal.TheVariants.{LongFormat, MalformedFormat, BrokenRow, NoRoom}

-- The answer of a call: the text's length and the number of pieces, or a refusal and its place.
abbrev pub Outcome : Type 0
Outcome = Result Measured Stop

-- The texts of the format's pieces, in their order.
unfoldable pub texts_of : List ℕ → List ℕ → List Placed → List (List ℕ)
texts_of s row ps = map (λ p. piece_text s row p.piece) ps

unfoldable pub texts : List ℕ → List ℕ → List (List ℕ)
texts s row = texts_of s row (placed s (kinds_of row))

-- Texts one behind the other.
unfoldable pub joined : List (List ℕ) → List ℕ
joined [] = []
joined (t ∷ ts) = t ++ joined ts

unfoldable pub printed_text : List ℕ → List ℕ → List ℕ
printed_text s row = joined (texts s row)

-- "writes after each piece the text's length so far": the ends of texts of which the first stands behind n bytes.
unfoldable pub ends_from : ℕ → List (List ℕ) → List ℕ
ends_from n [] = []
ends_from n (t ∷ ts) = (n + length t) ∷ ends_from (n + length t) ts

-- "then 15 and 16 left to right over a format that passed", and 18 "comes with 15 and 16" (02, E1): the first piece that is not printed.
-- "Place is the offset of the element's `%`".
abbrev pub stop_at : Option Refusal → ℕ → Option Stop → Option Stop
stop_at None place others = others
stop_at (Some refusal) place others = Some (stop refusal place)

unfoldable pub first_stop : List ℕ → List ℕ → List Placed → Option Stop
first_stop s row [] = None
first_stop s row (p ∷ ps) = stop_at (piece_stop s row p.piece) p.from (first_stop s row ps)

-- "It returns the text's length and piece count" where nothing stops the call.
abbrev pub unless_stopped : Option Stop → Outcome → Outcome
unless_stopped None o = o
unless_stopped (Some t) o = Err t

unfoldable pub measured_end : List ℕ → List ℕ → Ended → Outcome
measured_end s row (Ok end) =
    unless_stopped (first_stop s row (placed s (kinds_of row)))
    (Ok (record { length = length (printed_text s row); pieces = length (placed s (kinds_of row)) }))
measured_end s row (Err t) = Err t

-- "Order: 1, 2, .. 14; then pieces left to right ..; then 15 and 16", with 18 (02, E1).
unfoldable pub measured : List ℕ → List ℕ → Outcome
measured s row =
    choose (ltb most_format (length s)) (λ _. Err (stop LongFormat 0))
    (λ _. choose (well_formed s)
    (λ _. choose (is_row row) (λ _. measured_end s row (ended s (kinds_of row))) (λ _. Err (stop BrokenRow 0)))
    (λ _. Err (stop MalformedFormat 0)))

-- "text longer than output or than 4,294,967,295, or more pieces than ends": 17, last of all.
abbrev pub if_room : ℕ → ℕ → Outcome → Outcome
if_room room slots (Ok m) =
    choose (leb m.length room && leb m.length largest_end && leb m.pieces slots) (λ _. Ok m) (λ _. Err (stop NoRoom 0))
if_room room slots (Err t) = Err t

unfoldable pub printed : List ℕ → List ℕ → ℕ → ℕ → Outcome
printed s row room slots = if_room room slots (measured s row)

-- What a call leaves in a lent slice d: t from its start, "past the last piece" its content, and all of its content where the call was stopped.
abbrev pub written : Outcome → List ℕ → List ℕ → List ℕ
written (Ok m) d t = laid d t
written (Err stopped) d t = d
