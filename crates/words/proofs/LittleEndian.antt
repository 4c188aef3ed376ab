-- Laws of little-endian numbers. Assumes nothing.
use Prim.Native.Nat.{ℕ, zero, suc, ◌+◌, ◌-◌, ◌*◌, ◌/◌, ◌^◌, ◌≤◌, ◌<◌}
use mathlib.Core.Path.{◌≡◌, refl, sym, ap, ◌∙◌}
use mathlib.Core.List.{List, [], ◌∷◌, ◌++◌}
use native.Mathlib.Nat.{one-mul, zero-add, mul_assoc, pow-succ', mod-eq_of_lt}
use native.Mathlib.Omega.{arith}
use lib.ListN.{length, get_or, take, drop, replicate, length-append, length-drop, length-replicate}
use lib.Seq.{take-add, drop-drop, drop-cons, length-take-le}
use Rattle.std.proofs.lemmas.List.{drop-replicate}
use Rattle.std.specs.Int.{w64, from_le_bytes}
use Rattle.words.specs.LittleEndian.{little_endian, word_at, bytes_of}

-- bytes in a row are the sum of their two parts, the second moved up
joined : (s t : List ℕ) → little_endian (s ++ t) ≡ little_endian s + 256 ^ length s * little_endian t
unfolding little_endian
joined [] t = sym (zero-add (1 * little_endian t) ∙ one-mul (little_endian t))
joined (b ∷ s) t =
    let e = joined s t in
    let v = little_endian t in
    let p : 256 ^ suc (length s) * v ≡ 256 * (256 ^ length s * v) =
    ap (λ (n : ℕ). n * v) (pow-succ' 256 (length s)) ∙ mul_assoc 256 (256 ^ length s) v in
    omega arith

pub word_add : (j k : ℕ) (s : List ℕ) (at : ℕ) → at + j ≤ length s → word_at (j + k) s at ≡ word_at j s at + 256 ^ j * word_at k s (at + j)
unfolding word_at
word_add j k s at h =
    let l : j ≤ length (drop at s) = simp length-drop (omega arith) in
    let n : length (take j (drop at s)) ≡ j = length-take-le j (drop at s) l in
    ap little_endian (take-add j k (drop at s)) ∙ joined (take j (drop at s)) (take k (drop j (drop at s))) ∙ simp (n, drop-drop)

pub word_one : (s : List ℕ) (at : ℕ) → at < length s → word_at 1 s at ≡ get_or s at 0
unfolding word_at little_endian
word_one s at h = simp (drop-cons s at 0 h) (omega arith)

-- which is below the power that its bytes can reach
pub word_below : (k : ℕ) (s : List ℕ) (at : ℕ) → ((i : ℕ) → get_or s i 0 < 256) → at + k ≤ length s → word_at k s at < 256 ^ k
unfolding word_at little_endian
word_below zero s at small h = omega arith
word_below (suc k) s at small h =
    let rest = word_below k s (at + 1) small (omega arith) in
    let one = word_one s at (omega arith) in
    let b = small at in
    let e : suc k ≡ 1 + k = omega arith in
    let both : word_at (suc k) s at ≡ word_at (1 + k) s at = ap (λ (j : ℕ). word_at j s at) e in
    omega (arith, word_add 1 k s at (omega arith), pow-succ' 256 k)

-- eight bytes, and fewer with zeros behind them
zeros : (k : ℕ) → little_endian (replicate k 0) ≡ 0
unfolding little_endian
zeros zero = refl
zeros (suc k) = omega (arith, zeros k)

zeros-behind : (s : List ℕ) (k : ℕ) → little_endian (s ++ replicate k 0) ≡ little_endian s
zeros-behind s k = rw (joined s (replicate k 0), zeros k) (omega arith)

eight_bytes : (s : List ℕ) → length s ≡ 8 → from_le_bytes w64 s ≡ little_endian s
unfolding little_endian
eight_bytes (a ∷ b ∷ c ∷ d ∷ e ∷ f ∷ g ∷ h ∷ []) l = omega arith
eight_bytes _ l = absurd (omega arith)

-- N bytes of s, laid over eight zeros
pub read_word : (N at : ℕ) (s w : List ℕ) → N ≤ 8 → at + N ≤ length s → w ≡ take N (drop at s)
    → from_le_bytes w64 (w ++ drop N (replicate 8 0)) ≡ word_at N s at
unfolding word_at
read_word N at s w few h e =
    let z : drop {A = ℕ} N (replicate 8 0) ≡ replicate (8 - N) 0 = drop-replicate N 8 0 in
    let l : length w ≡ N = ap length e ∙ length-take-le N (drop at s) (simp length-drop (omega arith)) in
    let n : length (w ++ drop N (replicate 8 0)) ≡ 8 = rw (z, length-append, length-replicate) (omega arith) in
    eight_bytes (w ++ drop N (replicate 8 0)) n ∙ rw (z, zeros-behind, e) refl

-- the number that its four bytes make again where it is below 2 ^ 32
pub four_again : (n : ℕ) → n < 2 ^ 32 → little_endian (bytes_of 4 n) ≡ n
unfolding little_endian
four_again n h =
    let c : n / 256 / 256 / 256 < 256 = omega arith in
    omega (arith, mod-eq_of_lt c)
