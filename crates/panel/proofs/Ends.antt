-- Ends as bytes are read again as the ends. Assumes nothing.
use mathlib.Core.Path.{◌≡◌, refl, ap, ◌∙◌}
use mathlib.Core.List.{List, [], ◌∷◌, ◌++◌}
use Prim.Native.Nat.{ℕ, suc, ◌^◌, ◌<◌}
use native.Mathlib.Omega.{arith}
use lib.ListN.{length, get_or}
use Rattle.words.specs.LittleEndian.{all_bytes}
use Rattle.words.proofs.LittleEndian.{four_again}
use Rattle.panel.specs.Entries.{ends_read}

-- bytes of ends below 2 ^ 32 are read as these ends, and what is behind them as it is read alone
pub read_again : (ns rest : List ℕ) → ((i : ℕ) → i < length ns → get_or ns i 0 < 2 ^ 32) → ends_read (all_bytes ns ++ rest) ≡ ns ++ ends_read rest
unfolding all_bytes ends_read
read_again [] rest h = refl
read_again (n ∷ ns) rest h =
    ap (λ (m : ℕ). m ∷ ends_read (all_bytes ns ++ rest)) (four_again n (h 0 (omega arith)))
    ∙ ap (λ (l : List ℕ). n ∷ l) (read_again ns rest (λ i k. h (suc i) (omega arith)))
