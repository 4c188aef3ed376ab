-- A text that is brought to a width stays below 2 to the 32nd bytes. Assumes nothing.
use mathlib.Core.Path.{◌≡◌, refl}
use mathlib.Core.List.{List}
use Prim.Native.Nat.{ℕ, ◌+◌, ◌^◌, ◌≤◌, ◌<◌}
use native.Mathlib.Omega.{arith}
use lib.ListN.{length}
use Rattle.refusals.specs.Limits.{largest_number}
use Rattle.frames.specs.Frame.{opening, closing, prefix_text, marks, spare, frame_of, padded}
use Rattle.frames.specs.declared.Mark.{Mark}
use Rattle.frames.specs.declared.Mark.TheVariants.{NoMark, Plus, Space, Minus, Brackets}
use Rattle.frames.specs.declared.Prefix.{Prefix}
use Rattle.frames.specs.declared.Prefix.TheVariants.{NoPrefix, Octal, HexLower, HexUpper}
use Rattle.frames.specs.declared.Adjust.{Adjust}
use Rattle.frames.specs.declared.Adjust.TheVariants.{Right, Left, Zeros}
use Rattle.frames.specs.declared.Frame.{Frame}
use Rattle.frames.proofs.Lengths.{marks-length, head_length, tail_length}
use Rattle.frames.proofs.Padded.{padded-size}

mark_length : (m : Mark) → (length (opening m) ≤ 1) × (length (closing m) ≤ 1)
mark_length NoMark = omega arith
mark_length Plus = omega arith
mark_length Space = omega arith
mark_length Minus = omega arith
mark_length Brackets = omega arith

prefix_length : (p : Prefix) → length (prefix_text p) ≤ 2
prefix_length NoPrefix = omega arith
prefix_length Octal = omega arith
prefix_length HexLower = omega arith
prefix_length HexUpper = omega arith

-- A text below the bound, and one that is so even with a mark, its closing and a prefix.
abbrev pub Short : List ℕ → Type 0
Short t = length t < 2 ^ 32

abbrev pub Body : List ℕ → Type 0
Body t = length t + 4 < 2 ^ 32

module _ (w : ℕ) (m : Mark) (p : Prefix) (body : List ℕ) where
  in_frame : (a : Adjust) (f : Frame) → f ≡ frame_of w a m p (length body)
      → length (padded w a m p body)
      ≡ f.before + f.zeros + f.after + (length (marks f.mark f.prefix) + length (closing f.mark) + length body)
  in_frame a f e = omega (arith, padded-size w a m p body f e, head_length f, tail_length f)

  -- wherever the padding stands
  padded-length : (a : Adjust)
      → length (padded w a m p body) ≡ spare w m p (length body) + (length (marks m p) + length (closing m) + length body)
  unfolding frame_of
  padded-length Right = omega (arith, in_frame Right (frame_of w Right m p (length body)) refl)
  padded-length Left = omega (arith, in_frame Left (frame_of w Left m p (length body)) refl)
  padded-length Zeros = omega (arith, in_frame Zeros (frame_of w Zeros m p (length body)) refl)

  pub padded-short : (a : Adjust) → w ≤ largest_number → Body body → Short (padded w a m p body)
  unfolding spare
  padded-short a h k = omega (arith, padded-length a, marks-length m p, mark_length m, prefix_length p)
