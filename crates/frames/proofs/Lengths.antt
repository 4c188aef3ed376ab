-- Lengths of a frame's parts. Assumes nothing.
use mathlib.Core.Path.{◌≡◌}
use Prim.Native.Nat.{◌+◌}
use native.Mathlib.Omega.{arith}
use lib.ListN.{length, length-append, length-replicate}
use Rattle.writing.proofs.Chained.{wrote_fill, wrote_two}
use Rattle.frames.specs.Frame.{opening, closing, prefix_text, marks, spaces, head_text, tail_text}
use Rattle.frames.specs.declared.Mark.{Mark}
use Rattle.frames.specs.declared.Prefix.{Prefix}
use Rattle.frames.specs.declared.Frame.{Frame}

pub marks-length : (m : Mark) (p : Prefix) → length (marks m p) ≡ length (opening m) + length (prefix_text p)
marks-length m p = length-append (opening m) (prefix_text p)

pub head_length : (f : Frame) → length (head_text f) ≡ f.before + length (marks f.mark f.prefix) + f.zeros
unfolding head_text spaces
head_length f = rw (length-append, length-replicate, length-append, length-replicate) (omega arith)

pub tail_length : (f : Frame) → length (tail_text f) ≡ f.after + length (closing f.mark)
unfolding tail_text spaces
tail_length f = rw (length-append, length-replicate) (omega arith)

pub ruleset lengths = (marks-length, head_length, tail_length)

pub ruleset tails = (tail_length, wrote_fill, wrote_two)
