-- What a definition says of the byte at a place of a format. Assumes nothing.
use mathlib.Core.Path.{◌≡◌, sym, ap, ◌∙◌}
use mathlib.Core.Bool.{true, false}
use mathlib.Core.List.{List}
use Prim.Native.Nat.{ℕ, ◌≤◌, ◌<◌}
use native.Mathlib.Decide.{dec_lt}
use native.Mathlib.Omega.{arith}
use lib.Dec.{eqb}
use lib.ListN.{length, get_or, drop}
use Rattle.writing.proofs.Bytes.{byte_at, no_byte}
use Rattle.specifiers.specs.Specifier.{begins_with}

pub begins_at : (s : List ℕ) (i b : ℕ) → i < length s → begins_with b (drop i s) ≡ eqb (get_or s i 0) b
begins_at s i b h = ap (begins_with b) (byte_at s i h)

pub begins_past : (s : List ℕ) (i b : ℕ) → length s ≤ i → begins_with b (drop i s) ≡ false
begins_past s i b h = ap (begins_with b) (no_byte s i h)

pub begins-inside : (s : List ℕ) (i b : ℕ) → begins_with b (drop i s) ≡ true → i < length s
begins-inside s i b e = elim (dec_lt i (length s)) [ yes h ↦ h | no n ↦ absurd (never (sym (begins_past s i b (omega arith)) ∙ e)) ]
  where
    never : false ≡ true → ⊥
    never q = let z : ◌≡◌ {A = ℕ} 0 1 = cc in omega arith
