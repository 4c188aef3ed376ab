-- What the functions of this crate require and return. No contract of an entry speaks of these.
use Rattle.std.specs.Prelude.{ℕ, ◌+◌, ◌≤◌, List, [], ◌∷◌, length}
use Rattle.writing.specs.Choose.{choose}
use Rattle.writing.specs.Text.{ascii, has}
use Rattle.dates.specs.Components.{number_text}
use Rattle.dates.specs.declared.components.TimePart.{TimePart}
use Rattle.dates.specs.declared.components.TimePart.TheVariants.{Number, Word, Byte}

abbrev pub part_text : TimePart → List ℕ
part_text (Number least value) = number_text least value
part_text (Word w) = w.now
part_text (Byte b) = b ∷ []

-- A number has at most 20 places, and a word at most 20 bytes.
abbrev pub Fitting : TimePart → Type 0
Fitting (Number least value) = least ≤ 20
Fitting (Word w) = length w.now ≤ 20
Fitting (Byte b) = Unit {0}

-- How much room a part takes at most,
abbrev pub room_of : TimePart → ℕ
room_of (Number least value) = 20
room_of (Word w) = length w.now
room_of (Byte b) = 1

-- and how much a letter, or a mark, takes.
abbrev pub room : ℕ → ℕ
room b = choose (has (ascii ":-/ ") b) (λ _. 1) (λ _. 20)

unfoldable pub room_for : List ℕ → ℕ
room_for [] = 0
room_for (b ∷ bs) = room b + room_for bs
