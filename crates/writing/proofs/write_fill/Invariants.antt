-- `writing::write_fill` meets its contract. The loop's invariant: the places so far hold b. Assumes nothing.
use mathlib.Core.Path.{◌≡◌}
use lib.ListN.{take, replicate}
use Rattle.writing.proofs.write_fill.Given as goal

abbrev pub invariant-loop-x : goal.invariant-loop-x
invariant-loop-x l = take l.x-index l.x-items ≡ replicate l.x-index l.b
