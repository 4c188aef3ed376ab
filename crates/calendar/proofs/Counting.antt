-- Years, or months, counted off from days. Assumes nothing.
use Prim.Native.Nat.{ℕ, zero, suc, ◌+◌, ◌-◌, ◌≤◌, ◌<◌}
use mathlib.Core.Path.{◌≡◌, ap, ◌∙◌}
use native.Mathlib.Omega.{arith}
use native.Mathlib.Nat.{add-zero, zero-add}
use native.Mathlib.Decide.{dec_lt}
use borrow.Author.Tests.{le-ltb, lt-ltb}
use Rattle.calendar.specs.Dates.{days_of, count_off}

-- Counting off k of them and r days of the next leaves the next and these days.
pub counts_off : (len : ℕ → ℕ) (f first k r : ℕ) → k ≤ f → r < len (first + k) → count_off len f first (days_of len first k + r) ≡ (first + k, r)
unfolding count_off days_of
counts_off len zero first zero r h b = simp (zero-add, add-zero)
counts_off len (suc f) first zero r h b =
    let e : r < len first = simp add-zero at b in simp (zero-add, add-zero, lt-ltb _ _ e)
counts_off len zero first (suc k) r h b = absurd (omega arith)
counts_off len (suc f) first (suc k) r h b =
    let n : len first + days_of len (first + 1) k + r - len first ≡ days_of len (first + 1) k + r = omega arith in
    let past : len first ≤ len first + days_of len (first + 1) k + r = omega arith in
    let e : first + 1 + k ≡ first + suc k = omega arith in
    simp (le-ltb _ _ past, n) (counts_off len f (first + 1) k r (omega arith) (rw e b) ∙ ap (λ (m : ℕ). (m, r)) e)

-- The last of so many stands at the end of their days.
pub days_next : (len : ℕ → ℕ) (first k : ℕ) → days_of len first (suc k) ≡ days_of len first k + len (first + k)
unfolding days_of
days_next len first zero = simp (add-zero, zero-add)
days_next len first (suc k) =
    let e : first + 1 + k ≡ first + suc k = omega arith in
    omega (arith, days_next len (first + 1) k, ap len e)

-- Days that lie in the k-th of f lie in them all.
pub days_within : (len : ℕ → ℕ) (first k f r : ℕ) → k < f → r < len (first + k) → days_of len first k + r < days_of len first f
unfolding days_of
days_within len first k zero r h b = absurd (omega arith)
days_within len first zero (suc f) r h b = let e : r < len first = simp add-zero at b in omega arith
days_within len first (suc k) (suc f) r h b =
    let e : first + 1 + k ≡ first + suc k = omega arith in
    omega (arith, days_within len (first + 1) k f r (omega arith) (rw e b))

-- Days that lie in the first f lie in one of them.
pub record Lies (len : ℕ → ℕ) (first f n : ℕ) : Type 0 where
  pub whole : ℕ
  pub left : ℕ
  pub among : whole < f
  pub inside : left < len (first + whole)
  pub counted : days_of len first whole + left ≡ n

-- one further where the first is over
later : (len : ℕ → ℕ) (first f n : ℕ) → len first ≤ n → Lies len (first + 1) f (n - len first) → Lies len first (suc f) n
unfolding days_of
later len first f n q l =
    let e : first + 1 + l.whole ≡ first + suc l.whole = omega arith in
    record { whole = suc l.whole; left = l.left; among = omega arith; inside = rw e at l.inside; counted = omega (arith, l.counted) }

pub lies : (len : ℕ → ℕ) (first f n : ℕ) → n < days_of len first f → Lies len first f n
unfolding days_of
lies len first zero n h = absurd (omega arith)
lies len first (suc f) n h =
    elim (dec_lt n (len first)) [
      | yes p ↦ record { whole = 0; left = n; among = omega arith; inside = simp add-zero p; counted = zero-add n }
      | no q ↦
          let over : len first ≤ n = omega arith in
          later len first f n over (lies len (first + 1) f (n - len first) (omega arith))
    ]
