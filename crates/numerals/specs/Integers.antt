-- Two's complement, at any width w.
use Rattle.std.specs.Prelude.{ℕ, suc, ◌-◌, ◌^◌, ◌<◌, Bool, true, false, ℤ, pos, negsuc, neg_ℤ, nat_lt, unsigned_abs}
use Rattle.writing.specs.Choose.{choose}
use Rattle.numerals.specs.declared.integers.SignMagnitude.{SignMagnitude}

-- The integer whose two's complement bits at w places are x.
unfoldable pub int_of : ℕ → ℕ → ℤ
int_of w x = choose (nat_lt x (2 ^ (w - 1))) (λ _. pos x) (λ _. neg_ℤ (pos (2 ^ w - x)))

abbrev pub is_negative : ℤ → Bool
is_negative (pos n) = false
is_negative (negsuc n) = true

-- The integer that 64 bits stand for: in two's complement where it is signed, else as they are.
abbrev pub integer_of : Bool → ℕ → ℤ
integer_of true x = int_of 64 x
integer_of false x = pos x

-- The sign and the magnitude of an integer, and the integer that has them.
abbrev pub sign_magnitude : ℤ → SignMagnitude
sign_magnitude z = record { negative = is_negative z; magnitude = unsigned_abs z }

abbrev pub signed : Bool → ℕ → ℤ
signed false n = pos n
signed true n = neg_ℤ (pos n)

-- 01: "Two's complement bits are the integer, plus 2 to the kind's width where negative."
unfoldable pub bits_of : ℕ → ℤ → ℕ
bits_of w (pos n) = n
bits_of w (negsuc n) = 2 ^ w - suc n

-- The signed integers of w bits: 01, "value sign-extended, within the kind".
abbrev pub InWidth : ℕ → ℤ → Type 0
InWidth w (pos n) = n < 2 ^ (w - 1)
InWidth w (negsuc n) = n < 2 ^ (w - 1)
