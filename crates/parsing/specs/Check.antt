-- A format checked against kinds. 01: "The result is the number of pieces and the largest argument index used, 0 if none."
use Rattle.std.specs.Prelude.{ℕ, max, ◌&&◌, List, [], ◌∷◌, leb, ltb, length, Err, Ok, Result}
use Rattle.refusals.specs.Limits.{most_format, most_kinds}
use Rattle.writing.specs.Choose.{choose}
use Rattle.utf8.specs.Utf8.{well_formed}
use Rattle.kinds.specs.Kinds.{all_known}
use Rattle.parsing.specs.Listed.{Placed, Ended, placed, ended}
use Rattle.parsing.specs.declared.Piece.{Piece}
use Rattle.parsing.specs.declared.Piece.TheVariants.{Fixed, Byte, Element as AnElement}
use Rattle.parsing.specs.declared.Checked.{Checked}
use Rattle.refusals.specs.Numbers.{stop}
use Rattle.refusals.specs.declared.Stop.{Stop}
use Rattle.refusals.specs.declared.Refusal.TheVariants.{LongFormat, MalformedFormat, BadKinds}

-- The argument that a piece uses, 0 for none, and the largest of them.
abbrev pub argument_of : Piece → ℕ
argument_of (Fixed begin len) = 0
argument_of (Byte b) = 0
argument_of (AnElement e) = e.argument

unfoldable pub largest_of : List Placed → ℕ
largest_of [] = 0
largest_of (p ∷ ps) = max (argument_of p.piece) (largest_of ps)

abbrev pub checked_end : Ended → List Placed → Result Checked Stop
checked_end (Ok end) ps = Ok (record { pieces = length ps; largest = largest_of ps })
checked_end (Err t) ps = Err t

-- "Order: 1, 2, 3 ..; then pieces left to right"
unfoldable pub checked : List ℕ → List ℕ → Result Checked Stop
checked s ks =
    choose (ltb most_format (length s)) (λ _. Err (stop LongFormat 0))
    (λ _. choose (well_formed s)
    (λ _. choose (leb (length ks) most_kinds && all_known ks) (λ _. checked_end (ended s ks) (placed s ks)) (λ _. Err (stop BadKinds 0)))
    (λ _. Err (stop MalformedFormat 0)))
