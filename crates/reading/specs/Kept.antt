-- 01, "Reading a piece back": "Spaces, commas and `+` are dropped; letters count in either case."
use Rattle.std.specs.Prelude.{ℕ, ◌+◌, ◌-◌, Bool, ◌&&◌, ◌||◌, List, [], ◌∷◌, leb, eqb}
use Prim.Native.Char.{code}
use Rattle.writing.specs.Choose.{choose}

abbrev pub is_dropped : ℕ → Bool
is_dropped c = eqb c (code " ") || eqb c (code ",") || eqb c (code "+")

-- a capital letter as a small one, any other byte as it is
abbrev pub small : ℕ → ℕ
small c = choose (leb (code "A") c && leb c (code "Z")) (λ _. c - code "A" + code "a") (λ _. c)

-- The bytes that count.
unfoldable pub kept : List ℕ → List ℕ
kept [] = []
kept (c ∷ cs) = choose (is_dropped c) (λ _. kept cs) (λ _. small c ∷ kept cs)
