-- Numbers of four bytes: how many bytes they are, and one more of them. Assumes nothing.
use mathlib.Core.Path.{◌≡◌, refl, ap, ◌∙◌}
use mathlib.Core.List.{List, [], ◌∷◌, ◌++◌}
use Prim.Native.Nat.{ℕ, ◌+◌, ◌*◌, ◌<◌}
use native.Mathlib.Numerals.{add-one}
use native.Mathlib.Omega.{arith}
use lib.ListN.{length, get_or, take}
use lib.Seq.{take-suc}
use Rattle.words.specs.LittleEndian.{bytes_of, all_bytes}

pub bytes_length : (ns : List ℕ) → length (all_bytes ns) ≡ 4 * length ns
unfolding all_bytes
bytes_length [] = refl
bytes_length (n ∷ ns) = omega (arith, bytes_length ns)

bytes-append : (ns ms : List ℕ) → all_bytes (ns ++ ms) ≡ all_bytes ns ++ all_bytes ms
unfolding all_bytes
bytes-append [] ms = refl
bytes-append (n ∷ ns) ms = ap (λ (l : List ℕ). bytes_of 4 n ++ l) (bytes-append ns ms)

-- one more of a list
pub bytes_next : (ns : List ℕ) (k : ℕ) → k < length ns → all_bytes (take (k + 1) ns) ≡ all_bytes (take k ns) ++ bytes_of 4 (get_or ns k 0)
unfolding all_bytes
bytes_next ns k h = ap all_bytes (rw (add-one, take-suc ns k 0 h) refl) ∙ bytes-append (take k ns) (get_or ns k 0 ∷ [])
