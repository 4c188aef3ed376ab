-- English names. 02, E1: "with English names".
use Rattle.std.specs.Prelude.{ℕ, List, [], ◌∷◌}
use Rattle.writing.specs.Text.{ascii}
use Rattle.kinds.specs.Letters.{lookup}

-- Months by their number, weekdays counted from Monday.
abbrev pub month_names : List (ℕ × List ℕ)
month_names =
    (1, ascii "January") ∷ (2, ascii "February") ∷ (3, ascii "March") ∷ (4, ascii "April") ∷ (5, ascii "May") ∷ (6, ascii "June") ∷
    (7, ascii "July") ∷ (8, ascii "August") ∷ (9, ascii "September") ∷ (10, ascii "October") ∷ (11, ascii "November") ∷ (12, ascii "December") ∷ []

abbrev pub weekday_names : List (ℕ × List ℕ)
weekday_names =
    (0, ascii "Monday") ∷ (1, ascii "Tuesday") ∷ (2, ascii "Wednesday") ∷ (3, ascii "Thursday") ∷ (4, ascii "Friday") ∷ (5, ascii "Saturday") ∷
    (6, ascii "Sunday") ∷ []

unfoldable pub name_of : List (ℕ × List ℕ) → ℕ → List ℕ
name_of names k = lookup (λ b. b) (λ t. t) [] names k
