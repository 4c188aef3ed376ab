-- The bytes of a scalar value, by its range. Assumes nothing.
use mathlib.Core.Path.{◌≡◌, ap}
use mathlib.Core.List.{[], ◌∷◌}
use Prim.Native.Nat.{ℕ, ◌+◌, ◌/◌, ◌%◌, ◌≤◌, ◌<◌}
use native.Mathlib.Decide.{dec_lt}
use native.Mathlib.Omega.{arith}
use lib.ListN.{length}
use borrow.Author.Tests.{lt-ltb, le-ltb}
use Rattle.utf8.specs.Scalars.{utf8_of}

module _ (c : ℕ) where
  pub one : c < 0x80 → utf8_of c ≡ c ∷ []
  unfolding utf8_of
  one h = simp (lt-ltb c 0x80 h)

  pub two : 0x80 ≤ c → c < 0x800 → utf8_of c ≡ (192 + c / 64) ∷ (128 + c % 64) ∷ []
  unfolding utf8_of
  two h k = simp (le-ltb c 0x80 h, lt-ltb c 0x800 k)

  pub three : 0x80 ≤ c → 0x800 ≤ c → c < 0x10000
      → utf8_of c ≡ (224 + c / 4096) ∷ (128 + c / 64 % 64) ∷ (128 + c % 64) ∷ []
  unfolding utf8_of
  three h k l = simp (le-ltb c 0x80 h, le-ltb c 0x800 k, lt-ltb c 0x10000 l)

  pub four : 0x80 ≤ c → 0x800 ≤ c → 0x10000 ≤ c
      → utf8_of c ≡ (240 + c / 262144) ∷ (128 + c / 4096 % 64) ∷ (128 + c / 64 % 64) ∷ (128 + c % 64) ∷ []
  unfolding utf8_of
  four h k l = simp (le-ltb c 0x80 h, le-ltb c 0x800 k, le-ltb c 0x10000 l)

  -- at most four
  pub scalar_length : length (utf8_of c) ≤ 4
  scalar_length =
      elim (dec_lt c 0x80) [
        | yes h ↦ omega (arith, ap length (one h))
        | no n ↦
            elim (dec_lt c 0x800) [
              | yes k ↦ omega (arith, ap length (two (omega arith) k))
              | no m ↦
                  elim (dec_lt c 0x10000) [
                    | yes l ↦ omega (arith, ap length (three (omega arith) (omega arith) l))
                    | no q ↦ omega (arith, ap length (four (omega arith) (omega arith) (omega arith)))
                  ]
            ]
      ]

pub ruleset by_range = (one, two, three, four)
