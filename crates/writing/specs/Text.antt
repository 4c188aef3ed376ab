-- Text by its characters.
use Rattle.std.specs.Prelude.{ℕ, Bool, false, ◌||◌, List, [], ◌∷◌, eqb}
use Prim.Native.Char.{code}
use Prim.Native.String.{String, [] as empty, ◌∷◌ as ◌then◌}

-- The bytes of a text in ASCII.
abbrev pub ascii : String → List ℕ
ascii empty = []
ascii (c then s) = code c ∷ ascii s

-- Whether a byte is among the bytes of a text.
unfoldable pub has : List ℕ → ℕ → Bool
has [] b = false
has (c ∷ cs) b = eqb c b || has cs b
