-- A text brought to a width: its parts and its length. Assumes nothing.
use mathlib.Core.Path.{◌≡◌, refl, sym, ap, ◌∙◌}
use mathlib.Core.Bool.{true, true≢false}
use mathlib.Core.List.{List, [], ◌++◌, append_assoc}
use Prim.Native.Nat.{ℕ, ◌+◌}
use native.Mathlib.Nat.{zero-sub}
use native.Mathlib.Omega.{arith}
use lib.ListN.{length, length-append}
use borrow.Author.Tests.{eqb-true}
use Rattle.frames.specs.Frame.{marks, closing, spaces, head_text, tail_text, framed, spare, frame_of, padded}
use Rattle.frames.specs.Bare.{is_bare}
use Rattle.frames.specs.declared.Mark.{Mark}
use Rattle.frames.specs.declared.Mark.TheVariants.{NoMark, Plus, Space, Minus, Brackets}
use Rattle.frames.specs.declared.Prefix.{Prefix}
use Rattle.frames.specs.declared.Adjust.{Adjust}
use Rattle.frames.specs.declared.Adjust.TheVariants.{Right, Left, Zeros}
use Rattle.frames.specs.declared.Frame.{Frame}

-- f is the frame of the text.
module _ (w : ℕ) (a : Adjust) (m : Mark) (p : Prefix) (body : List ℕ) (f : Frame) (e : f ≡ frame_of w a m p (length body)) where
  pub padded-is : padded w a m p body ≡ head_text f ++ (body ++ tail_text f)
  unfolding padded framed
  padded-is = rw e refl

  pub padded-size : length (padded w a m p body) ≡ (length (head_text f) + length (tail_text f)) + length body
  padded-size = ap length padded-is ∙ simp length-append (omega arith)

-- 02, E2: "spaces of left adjustment stand after the whole number." They stand behind what is printed without the width, whatever marks it has.
pub left_adjusted : (w : ℕ) (m : Mark) (p : Prefix) (body : List ℕ)
    → padded w Left m p body ≡ padded 0 Left m p body ++ spaces (spare w m p (length body))
unfolding padded framed head_text tail_text frame_of spare spaces
left_adjusted w m p body = behind (marks m p ++ []) (spaces (spare w m p (length body))) (spare 0 m p (length body)) (zero-sub _)
  where
    behind : (head end : List ℕ) (n : ℕ) → n ≡ 0 → head ++ (body ++ (closing m ++ end)) ≡ (head ++ (body ++ (closing m ++ spaces n))) ++ end
    behind head end n e = simp (e, append_assoc)

-- Without width and mark it does not matter where padding would stand: the frame is the prefix alone.
pub bare_frame : (width : ℕ) (a : Adjust) (m : Mark) (p : Prefix) (n : ℕ) → is_bare width m ≡ true → frame_of width a m p n ≡ frame_of 0 Right NoMark p n
unfolding frame_of spare
bare_frame width Right NoMark p n e = simp (eqb-true width 0 e)
bare_frame width Left NoMark p n e = simp (eqb-true width 0 e, zero-sub)
bare_frame width Zeros NoMark p n e = simp (eqb-true width 0 e, zero-sub)
bare_frame width a Plus p n e = absurd (true≢false (sym e))
bare_frame width a Space p n e = absurd (true≢false (sym e))
bare_frame width a Minus p n e = absurd (true≢false (sym e))
bare_frame width a Brackets p n e = absurd (true≢false (sym e))
