-- Characters by number. 01: "%c of no Unicode scalar value" is refused.
use Rattle.std.specs.Prelude.{ℕ, ◌+◌, ◌/◌, ◌%◌, Bool, ◌&&◌, ◌||◌, List, [], ◌∷◌, leb, ltb}
use Rattle.writing.specs.Choose.{choose}

-- The Unicode Standard, D76: "any Unicode code point except high-surrogate and low-surrogate code points".
abbrev pub is_scalar : ℕ → Bool
is_scalar c = ltb c 0xd800 || (leb 0xe000 c && leb c 0x10ffff)

-- The Unicode Standard, table 3-6: the UTF-8 bytes of a scalar value.
unfoldable pub utf8_of : ℕ → List ℕ
utf8_of c =
    choose (ltb c 0x80) (λ _. c ∷ [])
    (λ _. choose (ltb c 0x800) (λ _. (192 + c / 64) ∷ (128 + c % 64) ∷ [])
    (λ _. choose (ltb c 0x10000) (λ _. (224 + c / 4096) ∷ (128 + c / 64 % 64) ∷ (128 + c % 64) ∷ [])
    (λ _. (240 + c / 262144) ∷ (128 + c / 4096 % 64) ∷ (128 + c / 64 % 64) ∷ (128 + c % 64) ∷ [])))
