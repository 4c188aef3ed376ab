-- How text up to the next `%` goes on at a place. Assumes nothing.
use mathlib.Core.Path.{◌≡◌}
use mathlib.Core.List.{List}
use Prim.Native.Nat.{ℕ, suc, ◌+◌, ◌≤◌, ◌<◌}
use Prim.Native.Char.{code}
use lib.ListN.{length, get_or, drop}
use borrow.Author.Tests.{eq-eqb, ne_eqb}
use Rattle.writing.proofs.Bytes.{byte_at, no_byte}
use Rattle.parsing.specs.Texts.{text_length}

module _ (s : List ℕ) (i : ℕ) where
  pub text_ends : length s ≤ i → text_length (drop i s) ≡ 0
  unfolding text_length
  text_ends h = simp (no_byte s i h)

  pub text-percent : i < length s → get_or s i 0 ≡ code "%" → text_length (drop i s) ≡ 0
  unfolding text_length
  text-percent h e = simp (byte_at s i h, eq-eqb (get_or s i 0) (code "%") e)

  pub text-more : i < length s → (get_or s i 0 ≡ code "%" → ⊥) → text_length (drop i s) ≡ suc (text_length (drop (i + 1) s))
  unfolding text_length
  text-more h n = simp (byte_at s i h, ne_eqb (get_or s i 0) (code "%") n)
