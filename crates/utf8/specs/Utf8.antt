-- Well-formed UTF-8, as The Unicode Standard, table 3-7, "Well-Formed UTF-8 Byte Sequences", lists it.
use Rattle.std.specs.Prelude.{ℕ, zero, suc, Bool, true, false, ◌&&◌, List, [], ◌∷◌, leb, Option, Some, None}
use Rattle.writing.specs.Choose.{choose}
use Rattle.utf8.specs.declared.Follow.{Follow}

abbrev pub between : ℕ → ℕ → ℕ → Bool
between low high b = leb low b && leb b high

-- A row of the table: the first bytes from `low` to `high` have this lead; any other byte is left to the rows below.
abbrev pub row : ℕ → ℕ → Option Follow → ℕ → (Unit {0} → Option Follow) → Option Follow
row low high lead b others = choose (between low high b) (λ _. lead) others

abbrev pub follow : ℕ → ℕ → ℕ → Option Follow
follow need low high = Some (record { need = need; low = low; high = high })

-- What follows a first byte: how many bytes, and the range of the next one. The bytes after that go from 80 to BF.
unfoldable pub lead_of : ℕ → Option Follow
lead_of b =
    row 0x00 0x7f (follow 0 0x80 0xbf) b
    (λ _. row 0xc2 0xdf (follow 1 0x80 0xbf) b
    (λ _. row 0xe0 0xe0 (follow 2 0xa0 0xbf) b
    (λ _. row 0xe1 0xec (follow 2 0x80 0xbf) b
    (λ _. row 0xed 0xed (follow 2 0x80 0x9f) b
    (λ _. row 0xee 0xef (follow 2 0x80 0xbf) b
    (λ _. row 0xf0 0xf0 (follow 3 0x90 0xbf) b
    (λ _. row 0xf1 0xf3 (follow 3 0x80 0xbf) b
    (λ _. row 0xf4 0xf4 (follow 3 0x80 0x8f) b (λ _. None)))))))))

abbrev pub after_lead : Option Follow → (ℕ → ℕ → ℕ → Bool) → Bool
after_lead (Some f) rest = rest f.need f.low f.high
after_lead None rest = false

-- Whether a text is well-formed from here on, where `need` more bytes belong to the character that was begun and the next of them lies between low and high.
unfoldable pub well_formed_from : ℕ → ℕ → ℕ → List ℕ → Bool
well_formed_from zero low high [] = true
well_formed_from (suc need) low high [] = false
well_formed_from zero low high (b ∷ bs) = after_lead (lead_of b) (λ n l h. well_formed_from n l h bs)
well_formed_from (suc need) low high (b ∷ bs) = between low high b && well_formed_from need 0x80 0xbf bs

unfoldable pub well_formed : List ℕ → Bool
well_formed s = well_formed_from 0 0x80 0xbf s
