-- Characters by number. Assumes nothing.
use mathlib.Core.Path.{◌≡◌, refl, sym}
use mathlib.Core.Bool.{Bool, true, false, ◌&&◌, ◌||◌, true≢false}
use Prim.Native.Nat.{ℕ, ◌≤◌}
use native.Mathlib.Omega.{arith}
use lib.Dec.{leb, ltb}
use borrow.Author.Tests.{ltb-true, leb-true}
use Rattle.utf8.specs.Scalars.{is_scalar}
use Rattle.utf8.proofs.ScalarValues.{scalar_length}
use Rattle.writing.proofs.Laid.{wrote_start}
use Rattle.elements.proofs.Shown.{sized_text}

-- a scalar value is no more than 0x10ffff
pub scalar_within : (c : ℕ) → is_scalar c ≡ true → c ≤ 0x10ffff
scalar_within c = go (ltb c 0xd800) (leb 0xe000 c) (leb c 0x10ffff) refl refl
  where
    go : (s t u : Bool) → ltb c 0xd800 ≡ s → leb c 0x10ffff ≡ u → (s || (t && u)) ≡ true → c ≤ 0x10ffff
    go true t u p q h = let k = ltb-true c 0xd800 p in omega arith
    go false true true p q h = leb-true c 0x10ffff q
    go false true false p q h = absurd (true≢false (sym h))
    go false false u p q h = absurd (true≢false (sym h))

-- what the writer of a character needs
pub ruleset characters = (scalar_within, scalar_length, wrote_start, sized_text)
