-- A byte of a text at a place. Assumes nothing.
use mathlib.Core.Path.{◌≡◌, sym, ap, ◌∙◌}
use mathlib.Core.Bool.{false}
use mathlib.Core.List.{List, [], ◌∷◌}
use Prim.Native.Nat.{ℕ, ◌+◌, ◌≤◌, ◌<◌}
use native.Mathlib.Numerals.{add-one}
use lib.Dec.{eqb}
use lib.ListN.{length, get_or, drop, drop_of_length-le}
use lib.Seq.{drop-cons}
use borrow.Author.Tests.{ne_eqb}

-- a byte that is not c
pub other : (c b : ℕ) → (b ≡ c → ⊥) → eqb c b ≡ false
other c b n = ne_eqb c b (λ e. n (sym e))

-- the text from a place on: its first byte and the rest, or nothing
pub byte_at : (s : List ℕ) (i : ℕ) → i < length s → drop i s ≡ get_or s i 0 ∷ drop (i + 1) s
byte_at s i h = drop-cons s i 0 h ∙ ap (λ (n : ℕ). get_or s i 0 ∷ drop n s) (sym (add-one i))

pub no_byte : (s : List ℕ) (i : ℕ) → length s ≤ i → drop i s ≡ []
no_byte s i h = drop_of_length-le s h
