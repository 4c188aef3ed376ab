-- Lines of text and of numbers. 01, "Cases", from "Program `sheet`" on.
use Rattle.std.specs.Prelude.{ℕ, List, [], ◌∷◌, ◌++◌}
use Rattle.writing.specs.Text.{ascii}
use Rattle.numerals.specs.Digits.{decimal}

-- Every line ends with byte 10.
abbrev pub line : List ℕ → List ℕ
line t = t ++ (10 ∷ [])

-- A word and two numbers on a line.
abbrev pub numbers_line : List ℕ → ℕ → ℕ → List ℕ
numbers_line word a b = line (word ++ decimal a ++ ascii " " ++ decimal b)

-- "one end a line"
unfoldable pub end_lines : List ℕ → List ℕ
end_lines [] = []
end_lines (e ∷ es) = line (decimal e) ++ end_lines es
