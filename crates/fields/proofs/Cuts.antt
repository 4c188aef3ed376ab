-- How a cut falls back, and what it leaves. Assumes nothing.
use Rattle.std.specs.Prelude.{None, Option, Some}
use mathlib.Core.Path.{◌≡◌, refl}
use mathlib.Core.Bool.{true, false}
use mathlib.Core.List.{List}
use Prim.Native.Nat.{ℕ, zero, suc, ◌-◌, ◌≤◌, ◌<◌}
use native.Mathlib.Omega.{arith}
use lib.Dec.{ltb}
use lib.ListN.{length, get_or, length-take}
use borrow.Author.Tests.{ltb-true, ltb-false}
use Rattle.writing.proofs.Choose.{by_test}
use Rattle.fields.specs.Cut.{continues, back_to, cut_length, cut_to}

module _ (s : List ℕ) where
  pub back_start : (n : ℕ) → 0 < n → (continues (get_or s n 0) ≡ false) → back_to n s ≡ n
  unfolding back_to
  back_start zero h e = refl
  back_start (suc n) h e = simp e

  pub back_inside : (n : ℕ) → 0 < n → (continues (get_or s n 0) ≡ true) → back_to n s ≡ back_to (n - 1) s
  unfolding back_to
  back_inside zero h e = refl
  back_inside (suc n) h e = let m : suc n - 1 ≡ n = omega arith in simp (e, m)

  back-within : (n : ℕ) → back_to n s ≤ n
  unfolding back_to
  back-within zero = omega arith
  back-within (suc n) = by_test (λ (k : ℕ). k ≤ suc n) (continues (get_or s (suc n) 0)) _ _ (λ _. less (back-within n)) (λ _. omega arith)
    where
      less : back_to n s ≤ n → back_to n s ≤ suc n
      less h = omega arith

  -- a cut leaves no more than there is, and no more than was asked
  pub cut_within : (n : ℕ) → (cut_length n s ≤ length s) × (cut_length n s ≤ n)
  unfolding cut_length
  cut_within n =
      by_test (λ (k : ℕ). (k ≤ length s) × (k ≤ n)) (ltb n (length s)) _ _
      (λ h. shorter (ltb-true n (length s) h) (back-within n)) (λ h. longer (ltb-false n (length s) h))
    where
      shorter : n < length s → back_to n s ≤ n → (back_to n s ≤ length s) × (back_to n s ≤ n)
      shorter h k = (omega arith, k)

      longer : length s ≤ n → (length s ≤ length s) × (length s ≤ n)
      longer h = (omega arith, h)

-- what a cut leaves is no longer, and a second cut leaves it as it is
pub cut_shorter : (p : Option ℕ) (s : List ℕ) → length (cut_to p s) ≤ length s
unfolding cut_to
cut_shorter None s = omega arith
cut_shorter (Some n) s = simp length-take (omega arith)
