-- Text in capitals: its bytes and its length. Assumes nothing.
use mathlib.Core.Path.{◌≡◌, refl}
use mathlib.Core.Bool.{Bool, true, false}
use mathlib.Core.List.{List, [], ◌∷◌, map}
use Prim.Native.Nat.{ℕ, zero, suc, ◌<◌}
use native.Mathlib.Omega.{arith}
use lib.ListN.{length, get_or, length-map}
use Rattle.std.specs.Char.{to_ascii_uppercase}
use Rattle.std.proofs.lemmas.Bool.Decides.{nat_tests}
use Rattle.fields.specs.Cut.{capital, cased}

-- the library's capital of a byte
pub capital_upper : (b : ℕ) → to_ascii_uppercase b ≡ capital b
unfolding capital
capital_upper b = grind (arith, nat_tests)

pub upper_at : (t : List ℕ) (i : ℕ) → i < length t → get_or (map capital t) i 0 ≡ capital (get_or t i 0)
upper_at [] i h = absurd (omega arith)
upper_at (b ∷ t) zero h = refl
upper_at (b ∷ t) (suc i) h = upper_at t i (omega arith)

pub length-cased : (u : Bool) (s : List ℕ) → length (cased u s) ≡ length s
unfolding cased
length-cased true s = length-map s capital
length-cased false s = refl

-- how long texts in capitals are
pub ruleset lengths = length-cased
