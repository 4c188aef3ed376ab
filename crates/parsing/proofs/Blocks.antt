-- Text without `%`: where it goes on behind some of its bytes, and whether a `%` is among the first bytes from a place on. Assumes nothing.
use mathlib.Core.Path.{◌≡◌, ap, ◌∙◌}
use mathlib.Core.Bool.{true}
use mathlib.Core.List.{List, [], ◌∷◌}
use Prim.Native.Nat.{ℕ, zero, suc, ◌+◌, ◌≤◌, ◌<◌}
use Prim.Native.Char.{code}
use native.Mathlib.Decide.{dec_lt}
use native.Mathlib.Omega.{arith}
use lib.Dec.{eqb, ltb}
use lib.ListN.{length, get_or, drop}
use lib.Seq.{drop-drop}
use borrow.Author.Tests.{lt-ltb, le-ltb}
use Rattle.writing.proofs.Choose.{by_test}
use Rattle.parsing.specs.Texts.{text_length}
use Rattle.parsing.proofs.Runs.{text-percent, text-more}

text_rest : (n : ℕ) (l : List ℕ) → n ≤ text_length l → text_length l ≡ n + text_length (drop n l)
unfolding text_length
text_rest zero l h = omega arith
text_rest (suc n) [] h = absurd (omega arith)
text_rest (suc n) (b ∷ l) h =
    by_test (λ (m : ℕ). suc n ≤ m → m ≡ suc n + text_length (drop n l)) (eqb b (code "%")) _ _ (λ _ k. absurd (omega arith))
    (λ _ k. more k (text_rest n l)) h
  where
    more : suc n ≤ suc (text_length l) → (n ≤ text_length l → text_length l ≡ n + text_length (drop n l))
        → suc (text_length l) ≡ suc n + text_length (drop n l)
    more k f = let e = f (omega arith) in omega arith

-- n bytes of the text from i on are passed
pub text_past : (s : List ℕ) (i n : ℕ) → n ≤ text_length (drop i s) → text_length (drop i s) ≡ n + text_length (drop (i + n) s)
text_past s i n h = text_rest n (drop i s) h ∙ ap (λ (l : List ℕ). n + text_length l) (drop-drop n i s)

-- the byte i of a block from a place on: a `%`, or another
module _ (s : List ℕ) (at i : ℕ) (h : at + i < length s) where
  pub block_percent : get_or s (at + i) 0 ≡ code "%" → ltb (text_length (drop at s)) (i + 1) ≡ true
  block_percent e =
      lt-ltb (text_length (drop at s)) (i + 1)
      (elim (dec_lt (text_length (drop at s)) i) [ yes k ↦ omega arith | no n ↦ omega (arith, text_past s at i (omega arith), text-percent s (at + i) h e) ])

  pub block_more : (get_or s (at + i) 0 ≡ code "%" → ⊥) → ltb (text_length (drop at s)) i ≡ ltb (text_length (drop at s)) (i + 1)
  block_more n = elim (dec_lt (text_length (drop at s)) i) [ yes k ↦ found k | no k ↦ not_found (omega arith) ]
    where
      found : text_length (drop at s) < i → ltb (text_length (drop at s)) i ≡ ltb (text_length (drop at s)) (i + 1)
      found k = simp (lt-ltb (text_length (drop at s)) i k, lt-ltb (text_length (drop at s)) (i + 1) (omega arith))

      not_found : i ≤ text_length (drop at s) → ltb (text_length (drop at s)) i ≡ ltb (text_length (drop at s)) (i + 1)
      not_found k =
          let m : i + 1 ≤ text_length (drop at s) = omega (arith, text_past s at i k, text-more s (at + i) h n) in
          simp (le-ltb (text_length (drop at s)) i k, le-ltb (text_length (drop at s)) (i + 1) m)
