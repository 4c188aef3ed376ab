-- Commas in decimal text. 01: "Commas every three digits from the right."
use Rattle.std.specs.Prelude.{ℕ, ◌%◌, ◌&&◌, List, [], ◌∷◌, ◌++◌, length, ◌==◌, nat_lt}
use Prim.Native.Char.{code}
use Rattle.writing.specs.Choose.{choose}

-- What stands behind a digit that has r more digits to its right: a comma where r is a multiple of three, but for the last digit.
abbrev pub comma_after : ℕ → List ℕ
comma_after r = choose (nat_lt 0 r && r % 3 == 0) (λ _. code "," ∷ []) (λ _. [])

-- Digits with commas.
unfoldable pub grouped : List ℕ → List ℕ
grouped [] = []
grouped (d ∷ ds) = d ∷ (comma_after (length ds) ++ grouped ds)
