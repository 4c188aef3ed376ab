-- What holds of a text in every frame holds of it padded to a width; and the marks of numbers that are not negative. Assumes nothing.
use Prim.Native.Nat.{ℕ}
use mathlib.Core.Path.{◌≡◌, refl}
use mathlib.Core.Bool.{false}
use mathlib.Core.List.{List, []}
use lib.ListN.{length}
use Rattle.writing.proofs.Choose.{by_test}
use Rattle.frames.specs.Frame.{spare, frame_of, padded, closing}
use Rattle.frames.specs.Signs.{is_minus}
use Rattle.frames.specs.declared.Adjust.{Adjust}
use Rattle.frames.specs.declared.Adjust.TheVariants.{Right, Left, Zeros}
use Rattle.frames.specs.declared.Mark.{Mark}
use Rattle.frames.specs.declared.Prefix.{Prefix}
use Rattle.reading.proofs.Integers.{spaced}
use Rattle.specifiers.specs.declared.flags.Flags.{Flags}
use Rattle.numbers.specs.Numbers.{sign_mark}

module _ (P : List ℕ → Type 0) (m : Mark) (p : Prefix) (body : List ℕ) (all : (a z i : ℕ) → P (spaced a m p z body i)) where
  pub padded-read : (width : ℕ) (side : Adjust) → P (padded width side m p body)
  unfolding padded frame_of
  padded-read width Right = all (spare width m p (length body)) 0 0
  padded-read width Left = all 0 0 (spare width m p (length body))
  padded-read width Zeros = all 0 (spare width m p (length body)) 0

-- No `-`, and nothing behind the digits.
pub sign_mark_lem : (f : Flags) → (is_minus (sign_mark f) ≡ false) × (closing (sign_mark f) ≡ [])
sign_mark_lem f =
    by_test Plain f.plus _ _ (λ _. (refl, refl)) (λ _. by_test Plain f.space _ _ (λ _. (refl, refl)) (λ _. (refl, refl)))
  where
    Plain : Mark → Type 0
    Plain m = (is_minus m ≡ false) × (closing m ≡ [])
