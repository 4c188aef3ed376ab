-- `parsing::scanning::skip_blocks` meets its contract. The loop's invariant: the text from i on ends where the text from the start does. Assumes nothing.
use Prim.Native.Nat.{◌+◌, ◌-◌, ◌≤◌}
use mathlib.Core.Path.{◌≡◌}
use lib.ListN.{length, drop}
use Rattle.parsing.specs.Texts.{text_length}
use Rattle.parsing.proofs.scanning.skip_blocks.Given as goal

abbrev pub invariant-loop-i : goal.invariant-loop-i
invariant-loop-i l = (l.step ≤ 32) × ((l.i ≤ length l.text) × (l.i + text_length (drop l.i l.text) ≡ text_length l.text))

abbrev pub decreases-loop-i : goal.decreases-loop-i
decreases-loop-i l = (length l.text - l.i) + (32 - l.step)
