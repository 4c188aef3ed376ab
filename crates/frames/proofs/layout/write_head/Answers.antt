-- `frames::layout::write_head` meets its contract. Assumes nothing.
use Prim.Native.Nat.{ℕ}
use Prim.Native.Char.{code}
use mathlib.Core.Path.{refl}
use mathlib.Core.List.{List}
use lib.ListN.{replicate}
use Rattle.writing.proofs.Chained.{wrote_fill, wrote_three}
use Rattle.frames.specs.Frame.{marks, spaces, head_text}
use Rattle.frames.proofs.layout.write_head.Goals as goal

-- the start, from the places before the spaces, and behind the spaces, mark and prefix, and the zeros
pub returns : goal.returns
unfolding head_text spaces
returns c =
    let a = c.args in
    let f = a.f in
    let zeros : List ℕ = replicate f.zeros (code "0") in
    wrote_three a.out.now (spaces f.before) (marks f.mark f.prefix) zeros _ _ _ _ _ _ _
    (wrote_fill _ _ _ _ _ c.write_fill-a.ensures)
    c.write_marks.ensures
    refl
    (wrote_fill _ _ _ _ _ c.write_fill.ensures)
