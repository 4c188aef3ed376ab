-- What is said of the pieces of a format. (`PieceIn` is for laws alone.)
use Rattle.std.specs.Prelude.{ℕ, ◌+◌, ◌-◌, ◌≤◌, ◌<◌, ◌≡◌, List, [], ◌∷◌, length, get_or, Some}
use Rattle.kinds.specs.Kinds.{kind_in, fit_in}
use Rattle.parsing.specs.Listed.{Placed}
use Rattle.parsing.specs.declared.Piece.{Piece}
use Rattle.parsing.specs.declared.Piece.TheVariants.{Fixed, Byte, Element as AnElement}

-- That pieces cover the bytes from a up to b without gap or overlap, none of them empty.
abbrev pub Covers : ℕ → ℕ → List Placed → Type 0
Covers a b [] = a ≡ b
Covers a b (p ∷ ps) = (p.from ≡ a) × (a < p.to) × Covers p.to b ps

-- A fixed piece ends inside the format; an element's argument counts from 1 up to the last kind, whose form it has.
abbrev pub PieceIn : List ℕ → List ℕ → Piece → Type 0
PieceIn s ks (Fixed begin len) = begin + len ≤ length s
PieceIn s ks (Byte b) = Unit {0}
PieceIn s ks (AnElement e) =
    (1 ≤ e.argument) × (e.argument ≤ length ks) × (fit_in e.conversion (kind_in (get_or ks (e.argument - 1) 0)) ≡ Some e.form)
