-- What put_frame answers and leaves. No contract of an entry speaks of these.
use Rattle.std.specs.Prelude.{ℕ, ◌+◌, ◌^◌, ◌<◌, ◌≡◌, List, ◌++◌, leb, length, take, drop, Option, Some, None}
use Rattle.std.specs.Option.{is_some}
use Rattle.writing.specs.Laid.{laid}
use Rattle.frames.specs.Frame.{head_text, tail_text}
use Rattle.frames.specs.declared.Frame.{Frame}
use Rattle.frames.specs.declared.layout.Framed.{Framed}

-- A text over the part of d from a place on.
abbrev pub laid_from : ℕ → List ℕ → List ℕ → List ℕ
laid_from at d t = take at d ++ laid (drop at d) t

-- A frame in d around n bytes that are left as they were: its head at the start, its tail behind them.
abbrev pub around : List ℕ → Frame → ℕ → List ℕ
around d f n = laid_from (length (head_text f) + n) (laid d (head_text f)) (tail_text f)

-- What the slice holds where the text has a place: the frame around it; and, without room for frame and text, what it held.
abbrev pub Holds : List ℕ → Frame → ℕ → Option ℕ → List ℕ → Type 0
Holds d f n (Some at) out = (at ≡ length (head_text f)) × (out ≡ around d f n)
Holds d f n None out = out ≡ d

pub record FramePut (d : List ℕ) (f : Frame) (n : ℕ) (r : Framed) (out : List ℕ) : Type 0 where
  pub added : r.added ≡ length (head_text f) + length (tail_text f)
  pub below : r.added < 2 ^ 41
  pub fits : is_some r.at ≡ leb (r.added + n) (length d)
  pub holds : Holds d f n r.at out
