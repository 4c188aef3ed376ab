-- `frames::layout::write_short` meets its contract. Assumes nothing.
use Prim.Native.Nat.{ℕ, ◌≤◌, ◌<◌}
use mathlib.Core.Path.{refl, sym}
use mathlib.Core.List.{List, [], ◌∷◌}
use native.Mathlib.Omega.{arith}
use lib.ListN.{length, get_or, set}
use Rattle.writing.specs.Writers.{Wrote}
use Rattle.writing.proofs.Laid.{laid_none, laid_stores}
use Rattle.frames.proofs.layout.write_short.Goals as goal

none : (d t : List ℕ) → length t < 1 → Wrote d t 0 d
none d [] h = (refl, sym (laid_none d))
none d (x ∷ t) h = absurd (omega arith)

one : (d t : List ℕ) → 1 ≤ length t → length t < 2 → 1 ≤ length d → Wrote d t 1 (set d 0 (get_or t 0 0))
one d (x ∷ []) h k r = (refl, laid_stores d (x ∷ []) r)
one d _ h k r = absurd (omega arith)

two : (d t : List ℕ) → 2 ≤ length t → length t ≤ 2 → 2 ≤ length d → Wrote d t 2 (set (set d 0 (get_or t 0 0)) 1 (get_or t 1 0))
two d (x ∷ y ∷ []) h k r = (refl, laid_stores d (x ∷ y ∷ []) r)
two d _ h k r = absurd (omega arith)

pub returns-in-empty : goal.returns-in-empty
returns-in-empty c = none _ _ (omega arith)

pub returns-in-len1 : goal.returns-in-len1
returns-in-len1 c = one _ _ (omega arith) (omega arith) (omega arith)

pub returns-in-len2-up : goal.returns-in-len2-up
returns-in-len2-up c = two _ _ (omega arith) (omega arith) (omega arith)
