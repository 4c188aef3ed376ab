-- Texts written one after the other into a slice, each into the part behind the last, in the borrow checker's words. Assumes nothing.
use mathlib.Core.Path.{◌≡◌, sym, ap, ◌∙◌}
use mathlib.Core.List.{List, [], ◌∷◌, ◌++◌, append_assoc}
use Prim.Native.Nat.{ℕ, ◌+◌, ◌-◌, ◌<◌}
use native.Mathlib.Omega.{arith}
use lib.ListN.{length, replicate, set, length-append, length-replicate}
use borrow.Rule.Slice.PartMut.{put_mid, mid_of}
use Rattle.writing.specs.Laid.{laid}
use Rattle.writing.specs.Writers.{Wrote}
use Rattle.writing.proofs.Laid.{laid_next, laid_more}

-- what a fill wrote
pub wrote_fill : (d D : List ℕ) (n b r : ℕ) → (r ≡ n) × (D ≡ laid d (replicate n b)) → Wrote d (replicate n b) r D
wrote_fill d D n b r p = (p.0 ∙ sym (length-replicate n b), p.1)

-- one byte stored behind a text
pub wrote_byte : (d x D : List ℕ) (n b : ℕ) → Wrote d x n D → n < length d → Wrote d (x ++ (b ∷ [])) (n + 1) (set D n b)
wrote_byte d x D n b p h =
    (sym (length-append x (b ∷ []) ∙ omega (arith, p.0)), ap (λ (l : List ℕ). set l n b) p.1 ∙ laid_more d x n b (sym p.0) h)

-- D is what the slice holds after the first text, of length m, and Y what the writer of the second left of the part from m on.
pub wrote_two : (d x y D Y : List ℕ) (m n : ℕ) → Wrote d x m D → Wrote (mid_of m (length D - m) D) y n Y
    → Wrote d (x ++ y) (m + n) (put_mid m (length D - m) D Y)
wrote_two d x y D Y m n p q =
    (sym (length-append x y ∙ omega (arith, p.0, q.0)), laid_next d x y D Y m p.1 (sym p.0) q.1)

-- E is what it holds after the second, and Z what the writer of the third left of the part behind.
pub wrote_three : (d x y z D Y E Z : List ℕ) (m n r : ℕ) → Wrote d x m D → Wrote (mid_of m (length D - m) D) y n Y → E ≡ put_mid m (length D - m) D Y
    → Wrote (mid_of (m + n) (length E - (m + n)) E) z r Z → Wrote d (x ++ (y ++ z)) (m + n + r) (put_mid (m + n) (length E - (m + n)) E Z)
wrote_three d x y z D Y E Z m n r p q e s =
    let two : Wrote d (x ++ y) (m + n) E = rw e (wrote_two d x y D Y m n p q) in
    rw append_assoc at (wrote_two d (x ++ y) z E Z (m + n) r two s)
