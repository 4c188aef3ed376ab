-- Runs of bytes in a format. For laws alone: no contract of an entry speaks of these.
use Rattle.std.specs.Prelude.{ℕ, ◌-◌, ◌≡◌, Bool, true, false, ◌&&◌, List, [], ◌∷◌, map}
use Prim.Native.Char.{code}
use Rattle.numerals.specs.Digits.{number_of}

-- Whether a text begins with a byte that passes a test.
abbrev pub begins : (ℕ → Bool) → List ℕ → Bool
begins test [] = false
begins test (b ∷ bs) = test b

unfoldable pub all : (ℕ → Bool) → List ℕ → Bool
all test [] = true
all test (b ∷ bs) = test b && all test bs

-- Bytes that pass a test, each run as long as it can be: what follows does not begin with one more.
pub record Run (test : ℕ → Bool) (run rest : List ℕ) : Type 0 where
  pub each : all test run ≡ true
  pub longest : begins test rest ≡ false

-- The number that decimal digits write.
abbrev pub number_in : List ℕ → ℕ
number_in ds = number_of 10 (map (λ d. d - code "0") ds)
