-- Text cut to a precision, and in capitals. 01, "Characters, Booleans, text".
use Rattle.std.specs.Prelude.{ℕ, zero, suc, ◌+◌, ◌-◌, Bool, ◌&&◌, List, map, leb, ltb, length, get_or, take, None, Option, Some}
use Prim.Native.Char.{code}
use Rattle.writing.specs.Choose.{choose}

-- A byte that continues a character: Unicode's table 3-7 gives 80 to BF to all bytes but the first.
abbrev pub continues : ℕ → Bool
continues b = leb 128 b && leb b 191

-- "a cut falls back to a character's start": the last place up to n that does not stand inside a character.
unfoldable pub back_to : ℕ → List ℕ → ℕ
back_to zero s = 0
back_to (suc n) s = choose (continues (get_or s (suc n) 0)) (λ _. back_to n s) (λ _. suc n)

-- How many bytes of s are left at a precision of n. "Width and precision count bytes".
unfoldable pub cut_length : ℕ → List ℕ → ℕ
cut_length n s = choose (ltb n (length s)) (λ _. back_to n s) (λ _. length s)

-- The part of s that a precision leaves; without one all of it.
unfoldable pub cut_to : Option ℕ → List ℕ → List ℕ
cut_to None s = s
cut_to (Some n) s = take (cut_length n s) s

-- "capitals change a to z only"
unfoldable pub capital : ℕ → ℕ
capital b = choose (leb (code "a") b && leb b (code "z")) (λ _. b - code "a" + code "A") (λ _. b)

unfoldable pub cased : Bool → List ℕ → List ℕ
cased upper s = choose upper (λ _. map capital s) (λ _. s)
