-- What the functions of this crate answer and require. No contract of an entry speaks of these.
use Rattle.std.specs.Prelude.{ℕ, ◌^◌, ◌<◌, ◌≡◌, List, length, Err, Ok, Result}
use Rattle.writing.specs.Writers.{laid_if_room}
use Rattle.elements.specs.Texts.{Shown, Text, Stops, text_of}
use Rattle.refusals.specs.declared.Refusal.{Refusal}

-- The length of a text, or what stops it.
abbrev pub Size : Type 0
Size = Result ℕ Refusal

abbrev pub size_of : Shown → Size
size_of (Text t) = Ok (length t)
size_of (Stops refusal) = Err refusal

-- The length of one piece is far below what 64 bits hold: 512 of them too.
abbrev pub SizeBelow : Size → Type 0
SizeBelow (Ok n) = n < 2 ^ 42
SizeBelow (Err refusal) = Unit {0}

-- What a function that writes an element where there is room answers, and leaves in d.
pub record Sized (d : List ℕ) (t : Shown) (r : Size) (out : List ℕ) : Type 0 where
  pub size : r ≡ size_of t
  pub below : SizeBelow r
  pub bytes : out ≡ laid_if_room d (text_of t)
