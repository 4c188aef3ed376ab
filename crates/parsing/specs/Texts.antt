-- Text up to the next `%`. 01, "A format checked".
use Rattle.std.specs.Prelude.{ℕ, suc, List, [], ◌∷◌, eqb}
use Prim.Native.Char.{code}
use Rattle.writing.specs.Choose.{choose}

-- "Non-empty text up to the next `%` is one piece."
unfoldable pub text_length : List ℕ → ℕ
text_length [] = 0
text_length (b ∷ bs) = choose (eqb b (code "%")) (λ _. 0) (λ _. suc (text_length bs))
