-- The multiple nearest to a number: no other lies nearer, and where another lies as near, it is an even multiple. Then the same against every
-- number with a leading 1, p hexadecimal digits and a power of two. Nothing here is about floats or text. Assumes nothing.
use mathlib.Core.Path.{◌≡◌, sym, ap, ◌∙◌}
use Prim.Native.Nat.{ℕ, ◌+◌, ◌-◌, ◌*◌, ◌/◌, ◌%◌, ◌^◌, ◌≤◌, ◌<◌}
use native.Mathlib.Nat.{div-add-mod', mod-lt, mul-le-mul_right, mul-le-mul_left, mul-lt-mul_of_pos_right, mul-pos, mul_assoc, lt_of_lt_of_le, le_of_lt}
use native.Mathlib.Nat.{ne_of_lt, add-mul, one-mul, add-zero, mul_comm, mul-sub, mul_right_comm, eq_of_mul-eq-mul_right}
use native.Mathlib.Decide.{dec_lt}
use native.Mathlib.Omega.{arith}
use lib.Pow.{pow-add, pow_mono, pow_pos}
use borrow.Author.Tests.{lt-ltb, le-ltb}
use Rattle.binary64.specs.Rounding.{nearest_to}
use Rattle.reading.proofs.Forms.{sixteen_pos}

-- how far two whole numbers lie apart
abbrev pub dist : ℕ → ℕ → ℕ
dist x y = x - y + (y - x)

-- What `nearest_to` gives: the multiple lies within half of U, and it is even where it lies just that far.
pub record Half (X U r : ℕ) : Type 0 where
  pub within : dist X (r * U) * 2 ≤ U
  pub tie : dist X (r * U) * 2 ≡ U → r % 2 ≡ 0

module _ (X U : ℕ) (U_pos : 0 < U) where
  -- X is its whole multiple and a rest below U
  parts : (X ≡ X / U * U + X % U) × (X % U < U)
  parts = (sym (div-add-mod' X U), mod-lt X U_pos)

  next : (X / U + 1) * U ≡ X / U * U + U
  next = add-mul (X / U) 1 U ∙ ap (λ (n : ℕ). X / U * U + n) (one-mul U)

  half_low : X % U * 2 < U → Half X U (X / U)
  half_low h = let g = parts in record { within = omega arith; tie = λ e. absurd (omega arith) }

  half_high : U < X % U * 2 → Half X U (X / U + 1)
  half_high h = let g = parts in let n = next in record { within = omega arith; tie = λ e. absurd (omega arith) }

  half_tie : X % U * 2 ≡ U → Half X U (X / U + X / U % 2)
  half_tie h = elim (dec_lt (X / U % 2) 1) [ yes p ↦ even (omega arith) parts | no n ↦ odd (omega arith) parts next ]
    where
      even : X / U % 2 ≡ 0 → (X ≡ X / U * U + X % U) × (X % U < U) → Half X U (X / U + X / U % 2)
      even e g = rw (e, add-zero) (record { within = omega arith; tie = λ _. e })

      odd : X / U % 2 ≡ 1 → (X ≡ X / U * U + X % U) × (X % U < U) → (X / U + 1) * U ≡ X / U * U + U → Half X U (X / U + X / U % 2)
      odd e g n = rw e (record { within = omega arith; tie = λ _. omega arith })

  pub nearest_half : Half X U (nearest_to X U)
  unfolding nearest_to
  nearest_half =
      elim (dec_lt (X % U * 2) U) [
        | yes p ↦ simp (lt-ltb (X % U * 2) U p) (half_low p)
        | no n ↦ elim (dec_lt U (X % U * 2)) [
          | yes p ↦ simp (le-ltb (X % U * 2) U (omega arith), lt-ltb U (X % U * 2) p) (half_high p)
          | no m ↦ simp (le-ltb (X % U * 2) U (omega arith), le-ltb U (X % U * 2) (omega arith)) (half_tie (omega arith))
        ]
      ]

-- distances keep their size under a shift, and grow with a factor
dist_add : (a x y : ℕ) → dist (a + x) (a + y) ≡ dist x y
dist_add a x y = omega arith

pub dist_mul : (x y w : ℕ) → dist (x * w) (y * w) ≡ dist x y * w
dist_mul x y w = sym (add-mul (x - y) (y - x) w ∙ ap (λ (n : ℕ). n + (y - x) * w) (sub_mul x y) ∙ ap (λ (n : ℕ). x * w - y * w + n) (sub_mul y x))
  where
    sub_mul : (x y : ℕ) → (x - y) * w ≡ x * w - y * w
    sub_mul x y = mul_comm (x - y) w ∙ mul-sub w x y ∙ ap (λ (n : ℕ). n - w * y) (mul_comm w x) ∙ ap (λ (n : ℕ). x * w - n) (mul_comm w y)

-- an even multiple more
pub half_shift : (a X U r : ℕ) → a % 2 ≡ 0 → Half X U r → Half (a * U + X) U (a + r)
half_shift a X U r e h =
    let d : dist (a * U + X) ((a + r) * U) ≡ dist X (r * U) = ap (dist (a * U + X)) (add-mul a r U) ∙ dist_add (a * U) X (r * U) in
    record { within = rw d h.within; tie = λ t. even (h.tie (sym (ap (λ (n : ℕ). n * 2) d) ∙ t)) }
  where
    even : r % 2 ≡ 0 → (a + r) % 2 ≡ 0
    even f = omega arith

-- everything times w
pub half_scale : (X U r w : ℕ) → 0 < w → Half X U r → Half (X * w) (U * w) r
half_scale X U r w p h =
    let d : dist (X * w) (r * (U * w)) * 2 ≡ dist X (r * U) * 2 * w =
    ap (λ (n : ℕ). dist (X * w) n * 2) (sym (mul_assoc r U w)) ∙ ap (λ (n : ℕ). n * 2) (dist_mul X (r * U) w) ∙ mul_right_comm (dist X (r * U)) w 2 in
    record { within = rw d (mul-le-mul_right w h.within); tie = λ t. h.tie (eq_of_mul-eq-mul_right w p (dist X (r * U) * 2) U (sym d ∙ t)) }

-- Of two different multiples, the larger is at least U beyond the other.
pub beyond : (U c d : ℕ) → c < d → c * U + U ≤ d * U
beyond U c d h = omega (arith, mul-le-mul_right {m = c + 1} {n = d} U (omega arith), add-mul c 1 U, one-mul U)

-- No multiple lies nearer than one within half of U, and where another lies as near, that one is even.
pub near_multiple : (X U r c : ℕ) → Half X U r → dist X (r * U) ≤ dist X (c * U)
near_multiple X U r c h =
    elim (dec_lt c r) [
      | yes p ↦ under (beyond U c r p)
      | no n ↦ elim (dec_lt r c) [ yes q ↦ over (beyond U r c q) | no m ↦ same (omega arith) ]
    ]
  where
    under : c * U + U ≤ r * U → dist X (r * U) ≤ dist X (c * U)
    under k = let w = h.within in omega arith

    over : r * U + U ≤ c * U → dist X (r * U) ≤ dist X (c * U)
    over k = let w = h.within in omega arith

    same : r ≡ c → dist X (r * U) ≤ dist X (c * U)
    same e = rw e (omega arith)

pub tie_even : (X U r c : ℕ) → Half X U r → dist X (r * U) ≡ dist X (c * U) → (c * U ≡ r * U → ⊥) → r % 2 ≡ 0
tie_even X U r c h e n =
    elim (dec_lt c r) [
      | yes p ↦ under (beyond U c r p)
      | no a ↦ elim (dec_lt r c) [ yes q ↦ over (beyond U r c q) | no m ↦ absurd (n (ap (λ (k : ℕ). k * U) (omega arith))) ]
    ]
  where
    under : c * U + U ≤ r * U → r % 2 ≡ 0
    under k = let w = h.within in h.tie (omega arith)

    over : r * U + U ≤ c * U → r % 2 ≡ 0
    over k = let w = h.within in h.tie (omega arith)

-- what lies below b, which is at or below X, is farther from X than b is
farther : (X d y b : ℕ) → y < b → b ≤ X → d ≤ dist X b → d < dist X y
farther X d y b h k n = omega arith

-- The rivals: numbers with a leading 1 and p hexadecimal digits behind it, times a power of two. X lies at or above the lowest of those that are
-- multiples of U, and r * U is the multiple nearest to it.
module _ (p k X r : ℕ) (bottom : 16 ^ p * 2 ^ k ≤ X) (h : Half X (2 ^ k) r) (m t : ℕ) (low : 16 ^ p ≤ m) (high : m < 2 * 16 ^ p) where
  -- with a larger power it is a multiple of U; with a smaller one it lies below all of them
  multiple : k ≤ t → m * 2 ^ t ≡ m * 2 ^ (t - k) * 2 ^ k
  multiple g =
      let e : t ≡ t - k + k = omega arith in
      ap (λ (n : ℕ). m * 2 ^ n) e ∙ ap (λ (n : ℕ). m * n) (pow-add 2 (t - k) k) ∙ sym (mul_assoc m (2 ^ (t - k)) (2 ^ k))

  below_all : t < k → m * 2 ^ t < 16 ^ p * 2 ^ k
  below_all g =
      let two : 2 ^ (t + 1) ≡ 2 ^ t * 2 = pow-add 2 t 1 in
      let a : m * (2 ^ t * 2) ≤ m * 2 ^ k = rw (← two) (mul-le-mul_left m (pow_mono {i = t + 1} {j = k} (omega arith))) in
      let b : m * 2 ^ k < 2 * 16 ^ p * 2 ^ k = mul-lt-mul_of_pos_right high (pow_pos k) in
      omega (arith, mul_assoc m (2 ^ t) 2, mul_assoc 2 (16 ^ p) (2 ^ k))

  pub near_rival : dist X (r * 2 ^ k) ≤ dist X (m * 2 ^ t)
  near_rival =
      elim (dec_lt t k) [
        | yes g ↦ le_of_lt (farther X _ _ _ (below_all g) bottom (near_multiple X (2 ^ k) r (16 ^ p) h))
        | no n ↦ rw (multiple (omega arith)) (near_multiple X (2 ^ k) r (m * 2 ^ (t - k)) h)
      ]

  pub tie_rival : dist X (r * 2 ^ k) ≡ dist X (m * 2 ^ t) → (m * 2 ^ t ≡ r * 2 ^ k → ⊥) → r % 2 ≡ 0
  tie_rival e n =
      elim (dec_lt t k) [
        | yes g ↦ absurd (ne_of_lt (farther X _ _ _ (below_all g) bottom (near_multiple X (2 ^ k) r (16 ^ p) h)) e)
        | no a ↦ over (multiple (omega arith))
      ]
    where
      over : m * 2 ^ t ≡ m * 2 ^ (t - k) * 2 ^ k → r % 2 ≡ 0
      over q = tie_even X (2 ^ k) r (m * 2 ^ (t - k)) h (e ∙ ap (dist X) q) (λ f. n (q ∙ f))

  -- a rival of the other sign lies farther
  pub other_sign : dist X (r * 2 ^ k) < X + m * 2 ^ t
  other_sign =
      let n = near_multiple X (2 ^ k) r (16 ^ p) h in
      let y : 0 < m * 2 ^ t = mul-pos (lt_of_lt_of_le (sixteen_pos p) low) (pow_pos t) in
      omega arith
